-- Loops of `sends`: the rows of all items, each send taken to last one time unit.
use Rattle.cpg_check_quick.specs.Order.{sending}
use Rattle.cpg_check_quick.proofs.OrderLaws.{AreSoFar}
use Rattle.cpg_check_quick.proofs.spanned_rows.sends.Given as goal

-- the list has the row of each item so far, with the span of its sends
abbrev pub invariant-loop-item : goal.invariant-loop-item
invariant-loop-item l = AreSoFar (sending) l.admitted.graph l.tables.nodes l.item l.list.items
