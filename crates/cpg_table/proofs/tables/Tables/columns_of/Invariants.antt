-- Loops of `Tables::columns_of`: the columns of an item's start row or send row; none if it has no row.
use Rattle.std.proofs.Common.{◌≡◌, drop}
use Rattle.cpg_table.specs.Table.{columns_of}
use Rattle.cpg_table.proofs.tables.Tables.columns_of.Given as goal

-- no table so far has the item's row, so its columns are found in the tables that are left
abbrev pub invariant-loop-table : goal.invariant-loop-table
invariant-loop-table l = columns_of l.self.nodes l.item ≡ columns_of (drop l.table-index l.self.nodes) l.item
