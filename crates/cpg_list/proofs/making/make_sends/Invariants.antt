-- Loops of `make_sends`: makes the rows of what a process sends, and narrows what the queue of its node leaves.
use Rattle.std.proofs.Common.{◌++◌, take}
use Rattle.cpg_base.specs.Graph.{node_of}
use Rattle.cpg_base.specs.Order.{place}
use Rattle.cpg_bus.specs.Plan.{queue_of}
use Rattle.cpg_list.specs.Made.{queued_by, sent_before, AreCubesOf, AreMade, IsSent}
use Rattle.cpg_run.specs.Found.{columns_of_rows}
use Rattle.cpg_run.specs.RowLaws.{SameRowsBefore}
use Rattle.cpg_list.proofs.making.make_sends.Given as goal

-- `made`: the items of earlier processes, the process's start and the items that it sends so far have their rows.
-- `queue`: for each scenario the cube of what the items that the node sends for earlier processes, and those that this one
-- sends so far, leave to the items behind them in the node's queue.
-- `same`: the rows of earlier processes are as before the loop.
abbrev pub invariant-loop-item : goal.invariant-loop-item
invariant-loop-item l = record {
  made : AreMade l.listed.admitted.now.graph l.listed.admitted.now.order l.listed.order.now l.listed.frozen.now
      (IsSent l.listed.admitted.now.graph l.listed.order.now l.process l.item-index) l.rows.items;
  queue : AreCubesOf l.listed.admitted.now.graph.faults l.listed.scenarios.now
      (queued_by l.listed.admitted.now.graph l.listed.order.now (columns_of_rows l.rows.items)
      (sent_before l.listed.admitted.now.graph l.listed.order.now (node_of l.listed.admitted.now.graph l.process)
      (place l.listed.order.now l.process) ++ take l.item-index
      (queue_of l.listed.admitted.now.graph l.process))) l.queue;
  same : SameRowsBefore l.listed.admitted.now.graph l.listed.order.now (place l.listed.order.now l.process)
      (columns_of_rows l.fn.rows.items) (columns_of_rows l.rows.items);
}
