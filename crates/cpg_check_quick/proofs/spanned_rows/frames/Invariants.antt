-- Loops of `frames`: the rows of all items, with how long their frames last.
use Rattle.cpg_check_quick.specs.Order.{frame}
use Rattle.cpg_check_quick.proofs.OrderLaws.{AreSoFar}
use Rattle.cpg_check_quick.proofs.spanned_rows.frames.Given as goal

-- the list has the row of each item so far, with the span of its frames
abbrev pub invariant-loop-item : goal.invariant-loop-item
invariant-loop-item l = AreSoFar (frame l.admitted.graph) l.admitted.graph l.tables.nodes l.item l.list.items
