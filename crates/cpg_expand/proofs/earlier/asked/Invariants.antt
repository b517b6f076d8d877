-- The loop of `asked`, which goes over all processes and makes the tree of where one of them, in the span and before
-- `to`, tests the condition.
use Rattle.cpg_tree.specs.GraphTrees.{IsTree}
use Rattle.cpg_expand.specs.Earlier.{IsAskedTree}
use Rattle.cpg_expand.proofs.earlier.asked.Given as goal

-- after each turn, `asked` is true in just those scenarios in which the guard of one of the first `other` processes, in
-- the span and before `to`, tests the condition
abbrev pub invariant-loop-other : goal.invariant-loop-other
invariant-loop-other l = IsTree l.span.problem.now l.asked × IsAskedTree l.span.problem.now l.span.order.now
    l.span.guards.now l.span.node l.span.from l.to l.condition l.other l.asked
