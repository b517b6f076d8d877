-- Loops of `telling_rows`: for each item, by number, its row and by what means that tells.
use Rattle.std.proofs.Common.{List}
use Rattle.cpg_base.specs.Graph.{item_count}
use Rattle.cpg_table.specs.Table.{NodeTable}
use Rattle.cpg_violation.specs.SievedRows.{AreSievedRows}
use Rattle.cpg_check_heard.specs.TellingRows.{AreTellingRows}
use Rattle.cpg_check_heard.proofs.telling_rows.telling_rows.Given as goal

-- if `rows` are the sieved rows of all items of some tables, `telling_rows` has those of the items so far, with the
-- means by which they tell
abbrev pub invariant-loop-item : goal.invariant-loop-item
invariant-loop-item l = (tables : List NodeTable) → AreSievedRows tables (item_count l.admitted.graph) l.rows →
    AreTellingRows l.admitted.graph tables l.item l.telling_rows.items
