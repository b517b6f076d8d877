-- Loops of `walk_back`: returns the walk against the edges from the least waiting process, always on to a waiting source,
-- until the next process is in it already.
use Rattle.std.proofs.Common.{◌+◌, ◌-◌, ◌<◌, get_or, length}
use Rattle.cpg_base.specs.Graph.{process_count}
use Rattle.cpg_order.proofs.Cycles.{IsWalkBack}
use Rattle.cpg_order.proofs.cycle.walk_back.Given as goal

-- the walk so far can go on with the process at hand
abbrev pub invariant-loop-from : goal.invariant-loop-from
invariant-loop-from l = record {
  -- the walk has different processes, each with an edge from the next, and the last with one from the process at hand
  walk : IsWalkBack l.problem l.walk.items l.process;
  -- the process at hand is one of the graph
  within : l.process < process_count l.problem;
  -- it waits for an input
  waits : 0 < get_or l.waiting l.process 0;
}

-- the walk gets longer each turn, and has at most as many processes as the graph, as they differ
abbrev pub decreases-loop-from : goal.decreases-loop-from
decreases-loop-from l = process_count l.problem + 1 - length l.walk.items
