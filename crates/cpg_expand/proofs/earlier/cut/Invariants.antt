-- The loop of `cut`, which goes over all processes and moves the place from which on the node's processes before `to`
-- have to be looked at.
use Rattle.cpg_expand.specs.Earlier.{IsCut}
use Rattle.cpg_expand.proofs.earlier.cut.Given as goal

-- after each turn, `from` is a cut: it is 0, or some process of the node from `from` on and before `to` is active on
-- each way of its guard
abbrev pub invariant-loop-other : goal.invariant-loop-other
invariant-loop-other l = IsCut l.span.problem.now l.span.order.now l.span.guards.now l.span.node l.from l.to
