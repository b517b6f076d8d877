-- Proof of `narrow_by_condition`: narrows a cube by the literals that a node hears with the broadcast of a condition;
-- by none if the condition is its own.
use Rattle.std.proofs.Common.{arith}
use Rattle.cpg_base.proofs.Items.{process_of_below}
use Rattle.cpg_list.proofs.learning.narrow_by_condition.Goals as goal

-- the process of a condition is one of the graph's processes
pub node_of-requires : goal.node_of-requires
node_of-requires c = omega (
  arith,
  c.process_of.ensures.process,
  process_of_below c.args.frames.now.problem.now c.args.condition c.requires.condition,
)
