-- Proof of `send_all`: sends all items of a process in each track in which they are active, and sets the frozen times
-- of those that are frozen.
use Rattle.std.proofs.Common.{◌+◌, length, sym, ap, subst, arith}
use Rattle.cpg_latest.specs.Course.{IsDone, outcomes_asked}
use Rattle.cpg_latest.specs.Lanes.{AreSending}
use Rattle.cpg_latest.proofs.NextStep.{can_send}
use Rattle.cpg_latest.proofs.Settling.{early_of}
use Rattle.cpg_latest.proofs.along.send_all.Goals as goal

-- the place is one of the queue
pub settle_send-requires-clause-at : goal.settle_send-requires-clause-at
settle_send-requires-clause-at c = omega (arith, c.loop-at-test.true, ap length c.queue-at-end.ensures)

-- the slice has the lanes of the invariant, which says how far they have sent
pub settle_send-requires-clause-sending : goal.settle_send-requires-clause-sending
settle_send-requires-clause-sending c =
    subst (AreSending c.args.setting.now (outcomes_asked c.args.asked.now) c.args.process c.loop-at.at c.loop-at.frozen)
    (sym c.as_slice.ensures.value) c.loop-at.invariant

-- the list of frozen times still has a place for each item
pub send_each-requires-clause-frozen : goal.send_each-requires-clause-frozen
send_each-requires-clause-frozen c = c.settle_send.ensures.settled.count

-- settled frozen times are no later than their items could be, so they are below 2 ^ 58
pub send_each-requires-clause-early : goal.send_each-requires-clause-early
send_each-requires-clause-early c =
    let graph = c.args.setting.now.problem.now in
    let order = c.args.setting.now.order.now in
    early_of graph order c.requires.setting.topological c.requires.setting.admitted.1.limits
    (IsDone graph order c.args.process (c.loop-at.at + 1)) c.settle_send.new.frozen c.settle_send.ensures.settled

-- the place is one of the queue
pub send_each-requires-clause-at : goal.send_each-requires-clause-at
send_each-requires-clause-at c = omega (arith, c.loop-at-test.true, ap length c.queue-at-end.ensures)

-- the frozen time of the next item is set, and nothing before it has changed, so it can be sent in each track
pub send_each-requires-clause-lanes : goal.send_each-requires-clause-lanes
send_each-requires-clause-lanes c =
    can_send c.args.setting.now c.requires.setting.topological c.args.process c.requires.process
    (outcomes_asked c.args.asked.now) c.loop-at.at
    (omega (arith, c.loop-at-test.true, ap length c.queue-at-end.ensures))
    c.loop-at.frozen c.settle_send.new.frozen c.loop-at.lanes.items c.settle_send.ensures.others
    c.loop-at.invariant.known

-- one more item of the queue is settled, and sent in each track
pub loop-at-preserved : goal.loop-at-preserved
loop-at-preserved c = record { settled = c.settle_send.ensures.settled; known = c.send_each.ensures }

-- all items of the queue are sent
pub returns : goal.returns
returns c =
    subst (λ n. AreSending c.args.setting.now
    (outcomes_asked c.args.asked.now) c.args.process n c.loop-at.frozen c.loop-at.lanes.items)
    (omega (arith, c.loop-at-test.false, c.loop-at.auto.at-end, ap length c.queue-at-end.ensures)) c.loop-at.invariant
