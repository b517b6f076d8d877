-- Proof of `urgency_order_is_topological`: if a graph has a topological order, its urgency order is one.
use Rattle.cpg_order.proofs.UrgencyIsTopological.{work_within, urgency_goes_forward}
use Rattle.cpg_order.proofs.laws.urgency_order_is_topological.Goals as goal

-- the tail of an edge's source is longer than that of its target, since each execution takes time
pub returns : goal.returns
returns c g some order within topological urgency =
    urgency_goes_forward g (work_within g within) some topological order urgency
