-- Loops of `rows`: the rows of all items of a graph, given all scenarios, each once, and their runs: one entry for
-- each group of scenarios in which the same literals are carried beside the item's time, merged.
use Rattle.cpg_list.specs.Made.{AreCarried, AreMade, IsBefore}
use Rattle.cpg_run.specs.Found.{columns_of_rows}
use Rattle.cpg_list.proofs.making.rows.Given as goal

-- `carried`: for each node and scenario the cubes of what the processes before the place carry on, and of what their
-- items leave in the queue. `made`: the items of the processes before the place have their rows.
abbrev pub invariant-loop-place : goal.invariant-loop-place
invariant-loop-place l = record {
  carried : AreCarried l.admitted.graph l.order
      (columns_of_rows l.rows.items) l.scenarios l.place l.known.items l.queues.items;
  made : AreMade l.admitted.graph l.admitted.order l.order l.frozen
      (IsBefore l.admitted.graph l.order l.place) l.rows.items;
}
