-- The loop of `after_hearing`, which goes over all conditions and raises `latest` to the latest time at which the node
-- hears each, where `active` is true and a guard of the span before `to` tests it.
use Rattle.cpg_expand.specs.Latest.{HasHeardOf, IsRaised}
use Rattle.cpg_expand.proofs.latest.after_hearing.Given as goal

-- after each condition gone over, `latest` is `floor` raised to the latest time at which the node has heard one of
-- the first `condition` conditions that a guard of the span tests
abbrev pub invariant-loop-condition : goal.invariant-loop-condition
invariant-loop-condition l = IsRaised l.span.problem.now (HasHeardOf l.span.problem.now l.span.order.now
    l.span.guards.now l.forest l.active l.span.node l.span.from l.to l.condition) l.floor l.latest
