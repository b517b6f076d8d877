-- Proof of `closes_are_followed`: a close after the last instant of a node in a play leads a node on a stream to the state
-- of that node.
use Rattle.cpg_live.proofs.Told.{closes_are_followed as law}
use Rattle.cpg_live.proofs.closes_are_followed.Goals as goal

-- `closes_are_followed` of `Told` is a proof of this law
pub returns : goal.returns
returns c = law
