-- Proof of `after_one`, which returns `latest`, raised to the latest end of process `other` where `active` is true. If
-- `other` isn't in the span or not before `to`, `latest` stays.
use Rattle.std.proofs.Common.{◌∙◌, sym}
use Rattle.cpg_expand.proofs.EarlierFound.{between_from}
use Rattle.cpg_expand.proofs.LatestFound.{one_ended}
use Rattle.cpg_expand.proofs.latest.after_one.Goals as goal

-- the process stands between the places, so the latest time is raised to its end
pub returns : goal.returns
returns c =
    let span = c.args.span.now in
    one_ended span.problem.now span.order.now c.args.forest.now c.args.active.now span.node span.from c.args.to
    c.args.other c.args.latest c.after_end.result
    (between_from span.problem.now span.order.now span.node span.from c.args.to c.args.other c.requires.other
    (sym c.stands_between.ensures ∙ c.if-not-stands_between.false)) c.after_end.ensures
