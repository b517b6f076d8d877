-- The loop of `send`, which goes over the queue of the process and adds one item after another to the forest and to
-- `frozen`.
use Rattle.std.proofs.Common.{◌≡◌, length, take}
use Rattle.cpg_base.specs.Graph.{item_count}
use Rattle.cpg_bus.specs.Plan.{queue_of}
use Rattle.cpg_expand.specs.Forest.{HasTrees}
use Rattle.cpg_expand.specs.Sent.{AreItemsAdded}
use Rattle.cpg_expand.proofs.sending.send.Given as goal

-- after each item of the process's queue, the forest has a tree for each item still, `frozen` has an entry for each,
-- and the items so far are added to the forest and to `frozen` that the function began with
abbrev pub invariant-loop-item : goal.invariant-loop-item
invariant-loop-item l = record {
  trees : HasTrees l.course.problem.now l.forest;
  count : length l.frozen ≡ item_count l.course.problem.now;
  added : AreItemsAdded l.course.problem.now l.course.order.now l.active
      (take l.item-index (queue_of l.course.problem.now l.process)) l.fn.forest l.forest l.fn.frozen l.frozen;
}
