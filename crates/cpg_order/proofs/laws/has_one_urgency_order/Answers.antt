-- Proof of `has_one_urgency_order`: each graph has exactly one urgency order.
use Rattle.cpg_order.proofs.Urgent.{urgency_exists, one_urgency_order}
use Rattle.cpg_order.proofs.laws.has_one_urgency_order.Goals as goal

-- sorting by tails gives one, and of two processes it is fixed which is more urgent, so there is no other
pub returns : goal.returns
returns c g = (urgency_exists g, λ a b a_is b_is. one_urgency_order g a b a_is b_is)
