-- Proof of `turns_may_be_left_out`: a node that takes no more turns than it must does the same on each stream.
use Rattle.cpg_live.proofs.Fewer.{turns_may_be_left_out as law}
use Rattle.cpg_live.proofs.turns_may_be_left_out.Goals as goal

-- `turns_may_be_left_out` of `Fewer` is a proof of this law
pub returns : goal.returns
returns c = law
