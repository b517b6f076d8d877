-- Proof of `order_leaves_no_cycle`: a graph with a topological order has no cycle.
use Rattle.cpg_order.proofs.Cycles.{no_cycle}
use Rattle.cpg_order.proofs.laws.order_leaves_no_cycle.Goals as goal

-- along a cycle the places in the order would rise for ever
pub returns : goal.returns
returns c g order topological = no_cycle g order topological
