-- Loops of `executions`: the rows of all processes, with how long their executions last.
use Rattle.cpg_check_quick.specs.Order.{execution}
use Rattle.cpg_check_quick.proofs.OrderLaws.{AreSoFar}
use Rattle.cpg_check_quick.proofs.spanned_rows.executions.Given as goal

-- the list has the row of each process so far, with the span of its executions
abbrev pub invariant-loop-process : goal.invariant-loop-process
invariant-loop-process l = AreSoFar (execution l.admitted.graph) l.admitted.graph l.tables.nodes l.process l.list.items
