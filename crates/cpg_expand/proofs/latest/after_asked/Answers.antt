-- Proof of `after_asked`, which returns `latest`, raised to the latest time at which the span's node hears the
-- condition, where `active` is true and the guard of some process in the span and before `to` tests it.
use Rattle.std.proofs.Common.{subst}
use Rattle.cpg_expand.specs.Forest.{heard_delay, heard_tree}
use Rattle.cpg_expand.specs.Latest.{HasLater, IsRaised}
use Rattle.cpg_expand.proofs.LatestFound.{heard_no_later, heard_raised}
use Rattle.cpg_expand.proofs.latest.after_asked.Goals as goal

-- wherever the process is active, the condition is heard no later than the latest time so far, so nothing is raised
pub returns-then-after_condition-latest : goal.returns-then-after_condition-latest
returns-then-after_condition-latest c =
    let span = c.args.span.now in
    let g = span.problem.now in
    let f = c.args.forest.now in
    let active = c.args.active.now in
    let at = c.args.condition in
    heard_no_later g span.order.now span.guards.now f active c.requires.active span.node span.from c.args.to
    at c.args.latest
    (subst
    (λ n. IsRaised g (HasLater (heard_tree g f span.node at) active (heard_delay g span.node at)) c.args.latest n)
    c.if-after_condition-latest.true c.after_condition.ensures)

-- the latest time is raised to when the condition is heard where one of the guards tests it and the process is active
pub returns : goal.returns
returns c =
    let span = c.args.span.now in
    heard_raised span.problem.now span.order.now span.guards.now c.args.forest.now c.args.active.now c.requires.active
    span.node span.from c.args.to c.args.condition
    c.in_ok-asked.asked c.in_ok-wanted.wanted c.in_ok-asked.ensures.tree
    c.in_ok-wanted.ensures.tree c.in_ok-asked.ensures.asked c.in_ok-wanted.ensures.both
    c.args.latest c.after_condition-heard.result c.after_condition-heard.ensures
