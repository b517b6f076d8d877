-- The loop of `after_ends`, which goes over all processes and raises `latest` to the latest end, where `active` is
-- true, of each that is in the span and before `to`.
use Rattle.cpg_expand.specs.Latest.{HasEndedOf, IsRaised}
use Rattle.cpg_expand.proofs.latest.after_ends.Given as goal

-- after each process gone over, `latest` is `floor` raised to the latest end of any of the first `other` processes
-- that stand between the places of the span
abbrev pub invariant-loop-other : goal.invariant-loop-other
invariant-loop-other l = IsRaised l.span.problem.now (HasEndedOf l.span.problem.now l.span.order.now l.forest l.active
    l.span.node l.span.from l.to l.other) l.floor l.latest
