-- Loops of `sieved_rows_of`: the sieved rows of all items, by number, none of them sifted yet.
use Rattle.cpg_violation.specs.SievedRows.{AreSievedRows}
use Rattle.cpg_violation.proofs.sieved_rows.sieved_rows_of.Given as goal

-- the list has the sieved rows of the items so far
abbrev pub invariant-loop-item : goal.invariant-loop-item
invariant-loop-item l = AreSievedRows l.tables.nodes l.item l.rows.items
