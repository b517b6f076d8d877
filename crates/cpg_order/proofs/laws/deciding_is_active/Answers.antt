-- Proof of `deciding_is_active`: in a graph whose urgency order is topological, a condition that decides a process in
-- an outcome is of a process that is active in that outcome.
use Rattle.cpg_order.proofs.DecidingLaws.{deciding_is_active}
use Rattle.cpg_order.proofs.laws.deciding_is_active.Goals as goal

-- if the condition's process were inactive, its value would make no edge live, and so would decide nothing
pub returns : goal.returns
returns c g order urgency topological values p condition inside decided =
    deciding_is_active g order urgency topological values p condition inside decided
