-- Proof of `after_ends`, which returns `floor`, raised to the latest end, where `active` is true, of any process in the
-- span and before `to`.
use Rattle.cpg_expand.proofs.LatestFound.{next_ended, none_ended}
use Rattle.cpg_expand.proofs.latest.after_ends.Goals as goal

-- before any process is gone over, nothing is raised
pub loop-other-init : goal.loop-other-init
loop-other-init c =
    let span = c.args.span.now in
    none_ended span.problem.now span.order.now c.args.forest.now c.args.active.now span.node span.from
    c.args.to c.args.floor

-- this process raises the time by its end, if it stands between the places
pub loop-other-preserved : goal.loop-other-preserved
loop-other-preserved c =
    let span = c.args.span.now in
    next_ended span.problem.now span.order.now c.args.forest.now c.args.active.now span.node span.from c.args.to
    c.loop-other.other c.args.floor c.loop-other.latest c.after_one-latest.result
    c.loop-other.invariant c.after_one-latest.ensures
