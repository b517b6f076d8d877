-- Proof of `awaited_are_candidates`: each instant of a node that takes no more turns than it must is also an instant
-- of a node that takes all turns.
use Rattle.cpg_node.proofs.Quiet.{awaited_candidates}
use Rattle.cpg_node.proofs.awaited_are_candidates.Goals as goal

-- `awaited_candidates` of the lemmas is a proof of this law
pub returns : goal.returns
returns c = awaited_candidates
