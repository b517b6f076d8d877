-- Proof of `after_queue`, which returns `floor`, raised to a round after the latest time of each item that stands
-- before `sent` in the queue of its node, in a scenario in which `sent` goes.
use Rattle.cpg_expand.proofs.LatestFound.{next_queued, none_queued}
use Rattle.cpg_expand.proofs.latest.after_queue.Goals as goal

-- no item is gone over yet, so the latest time is `floor`
pub loop-other-init : goal.loop-other-init
loop-other-init c =
    let sent = c.args.sent.now in
    none_queued c.args.problem.now c.args.order.now c.args.forest.now sent.goes.now sent.item c.args.floor

-- this item raises the time by a round after it, if it stands before the one that is sent
pub loop-other-preserved : goal.loop-other-preserved
loop-other-preserved c =
    let sent = c.args.sent.now in
    next_queued c.args.problem.now c.args.order.now c.args.forest.now sent.goes.now sent.item c.loop-other.other
    c.args.floor c.loop-other.latest c.after_queued-latest.result c.loop-other.invariant
    c.after_queued-latest.ensures
