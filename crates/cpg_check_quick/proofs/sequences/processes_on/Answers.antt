-- Proof of `processes_on`: the processes of a node, in the urgency order.
use Rattle.std.proofs.Common.{ap, arith, length}
use Rattle.cpg_base.specs.Graph.{process_count}
use Rattle.cpg_violation.proofs.Violations.{long_order}
use Rattle.cpg_check_quick.proofs.sequences.processes_on.Goals as goal

-- the process at a place of the order is one of the graph
pub node_of-requires : goal.node_of-requires
node_of-requires c = omega (
  arith,
  c.at-process.ensures.within,
  ap length c.order-order.ensures.order,
  long_order c.order-order.ensures.admitted,
  ap process_count c.problem-problem.ensures.problem,
)
