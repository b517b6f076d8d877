-- Loops of `heard_rows`: the rows of those of these items that a node hears and whose rows have trees, in the order of
-- the items.
use Rattle.std.proofs.Common.{List, All}
use Rattle.cpg_table.specs.Table.{NodeTable}
use Rattle.cpg_check_quick.specs.SpannedRows.{AreSpannedRows}
use Rattle.cpg_check_quick.specs.Order.{frame}
use Rattle.cpg_check_quick.specs.HeardRows.{IsHeardRow}
use Rattle.cpg_check_quick.proofs.heard_rows.heard_rows.Given as goal

-- each row so far is that of an item that the node hears
abbrev pub invariant-loop-item : goal.invariant-loop-item
invariant-loop-item l = (tables : List NodeTable) → AreSpannedRows (frame l.problem) l.problem tables l.frames →
    All (IsHeardRow l.problem tables l.node) l.found.items
