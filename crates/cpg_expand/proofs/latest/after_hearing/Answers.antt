-- Proof of `after_hearing`, which returns `floor`, raised to the latest time at which the span's node hears any
-- condition where `active` is true and the guard of some process in the span and before `to` tests it.
use Rattle.cpg_expand.proofs.LatestFound.{next_heard, none_heard}
use Rattle.cpg_expand.proofs.latest.after_hearing.Goals as goal

-- before any condition is gone over, nothing is raised
pub loop-condition-init : goal.loop-condition-init
loop-condition-init c =
    let span = c.args.span.now in
    none_heard span.problem.now span.order.now span.guards.now c.args.forest.now c.args.active.now c.requires.active
    span.node span.from c.args.to c.args.floor

-- this condition raises the time by when it is heard
pub loop-condition-preserved : goal.loop-condition-preserved
loop-condition-preserved c =
    let span = c.args.span.now in
    next_heard span.problem.now span.order.now span.guards.now c.args.forest.now c.args.active.now c.requires.active
    span.node span.from c.args.to c.loop-condition.condition c.args.floor
    c.loop-condition.latest c.in_ok-latest.latest c.loop-condition.invariant c.in_ok-latest.ensures
