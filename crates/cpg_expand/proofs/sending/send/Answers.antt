-- Proof of `send`, which adds the items that a process sends, in the order of its queue: to the forest their times, and
-- from when on the slots of its node are free after them, and to `frozen` the frozen times. `active` says where the
-- process is active.
use Rattle.std.proofs.Common.{◌≡◌, ℕ, ◌<◌, List, length, get_or, Contains, ap, subst, arith}
use Rattle.std.proofs.lemmas.List.Elements.{Contains-get_or}
use Rattle.cpg_bus.specs.Plan.{queue_of}
use Rattle.cpg_bus.proofs.Queued.{in_queue}
use Rattle.cpg_expand.specs.Sent.{IsItemAdded}
use Rattle.cpg_expand.proofs.SentTrees.{next_added}
use Rattle.cpg_expand.proofs.sending.send.Goals as goal

-- the item that is looked at is one of those that the process sends
item_queued : (xs qs : List ℕ) (k : ℕ) → k < length xs → xs ≡ qs → Contains qs (get_or xs k 0)
item_queued xs qs k l is = subst (λ ys. Contains ys (get_or xs k 0)) is (Contains-get_or xs k 0 l)

-- the item at this place of the queue is one of the graph
pub add-requires-clause-item : goal.add-requires-clause-item
add-requires-clause-item c =
    let g = c.args.course.now.problem.now in
    let is = c.queue-item-items.ensures in
    (in_queue g c.args.process (get_or c.queue-item-items.result.now c.loop-item.item-index 0)
    (item_queued c.queue-item-items.result.now
    (queue_of g c.args.process) c.loop-item.item-index c.loop-item-test.true is)).within

-- the item at this place of the queue is one that the process sends
pub add-requires-clause-sent : goal.add-requires-clause-sent
add-requires-clause-sent c =
    let g = c.args.course.now.problem.now in
    let is = c.queue-item-items.ensures in
    (in_queue g c.args.process (get_or c.queue-item-items.result.now c.loop-item.item-index 0)
    (item_queued c.queue-item-items.result.now
    (queue_of g c.args.process) c.loop-item.item-index c.loop-item-test.true is)).sent

-- one item more of the queue is added
pub loop-item-preserved : goal.loop-item-preserved
loop-item-preserved c =
    let g = c.args.course.now.problem.now in
    let qs = queue_of g c.args.process in
    let is = c.queue-item-items.ensures in
    -- the next item of the queue
    let here = ap (λ (xs : List ℕ). get_or xs c.loop-item.item-index 0) is in
    let inside : c.loop-item.item-index < length qs = omega (arith, ap length is, c.loop-item-test.true) in
    -- there is a tree for each item, process and node, as many frozen times as before, and one item more is added
    record {
      trees = c.in_ok-add.ensures.trees;
      count = c.in_ok-add.ensures.count;
      added = next_added g c.args.course.now.order.now c.args.active.now qs c.loop-item.item-index inside
          c.args.forest.now c.loop-item.forest c.add.new.forest c.args.frozen.now c.loop-item.frozen
          c.add.new.frozen c.loop-item.invariant.added
          (subst (λ x. IsItemAdded g c.args.course.now.order.now c.args.active.now x c.loop-item.forest c.add.new.forest
          c.loop-item.frozen c.add.new.frozen) here c.in_ok-add.ensures.added);
    }
