-- Loops of `row_columns`: the columns of the first row of an item, and `None` exactly if there is no row of it.
use Rattle.std.proofs.Common.{◌≡◌, drop}
use Rattle.cpg_table.specs.Found.{row_columns}
use Rattle.cpg_table.proofs.found.row_columns.Given as goal

-- no row so far is the item's, so its columns are found among the rows that are left
abbrev pub invariant-loop-row : goal.invariant-loop-row
invariant-loop-row l = row_columns l.rows l.item ≡ row_columns (drop l.row-index l.rows) l.item
