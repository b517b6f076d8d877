-- Proof of `turns_are_followed`: a node on a stream follows a turn that takes reports and frames, if it is fed their
-- records.
use Rattle.cpg_live.proofs.Told.{turns_are_followed as law}
use Rattle.cpg_live.proofs.turns_are_followed.Goals as goal

-- `turns_are_followed` of `Told` is a proof of this law
pub returns : goal.returns
returns c = law
