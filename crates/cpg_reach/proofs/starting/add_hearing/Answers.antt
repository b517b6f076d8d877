-- Proof of `add_hearing`, which adds what the time depends on at which a node hears a condition.
use Rattle.std.proofs.Common.{arith}
use Rattle.cpg_base.proofs.Items.{process_of_below}
use Rattle.cpg_reach.proofs.starting.add_hearing.Goals as goal

-- the process of the condition is one of the graph
pub node_of-requires : goal.node_of-requires
node_of-requires c = omega (
  arith,
  process_of_below c.args.problem.now c.args.condition c.requires.condition,
  c.process_of-process.ensures.process,
)

-- the process of the condition is one of the graph, so it has a reach
pub add_end-requires-clause-process : goal.add_end-requires-clause-process
add_end-requires-clause-process c = omega (
  arith,
  process_of_below c.args.problem.now c.args.condition c.requires.condition,
  c.process_of-process.ensures.process,
  c.requires.items,
)

-- a graph has at most 128 processes, so the number of a process is a variable
pub add_end-requires-clause-variable : goal.add_end-requires-clause-variable
add_end-requires-clause-variable c =
    omega (arith, c.processes.ensures.within.few_processes, c.process_of-process.ensures.within)
