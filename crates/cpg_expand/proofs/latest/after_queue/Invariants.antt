-- The loop of `after_queue`, which goes over all items and raises `latest` to a round after the latest time, where
-- `sent` goes, of each that stands before `sent` in the queue of its node.
use Rattle.cpg_expand.specs.Latest.{HasQueuedOf, IsRaised}
use Rattle.cpg_expand.proofs.latest.after_queue.Given as goal

-- after each item gone over, `latest` is `floor` raised to a round after the latest time of any of the first `other`
-- items that stand before the sent one in its queue
abbrev pub invariant-loop-other : goal.invariant-loop-other
invariant-loop-other l =
    IsRaised l.problem (HasQueuedOf l.problem l.order l.forest l.sent.goes.now l.sent.item l.other) l.floor l.latest
