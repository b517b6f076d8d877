-- The columns of an item, if it has a row.
use Rattle.std.specs.Prelude.{ℕ, ◌==◌, if◌then◌else◌, List, [], ◌∷◌, Option, Some, None}
use Rattle.cpg_cube.specs.declared.column.Column.{Column}
use Rattle.cpg_table.specs.Table.{Row}

-- the columns of the first row of item x; None if no row is of it
abbrev pub row_columns : List Row → ℕ → Option (List Column)
row_columns [] x = None
row_columns (row ∷ rows) x = if row.item == x then Some row.columns else row_columns rows x
