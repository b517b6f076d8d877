-- The columns of a row as it was made: a list, or the tree that lists them.
use Rattle.std.specs.Prelude.{◌≡◌, List, length}
use Rattle.cpg_cube.specs.declared.column.Column.{Column}
use Rattle.cpg_tree_columns.specs.Columns.{columns_of_paths}
use Rattle.cpg_tree_columns.specs.declared.made_row.MadeColumns.{MadeColumns}
use Rattle.cpg_tree_columns.specs.declared.made_row.MadeColumns.TheVariants.{Listed, Kept}

-- the columns that the row has: the listed ones, or those that the kept tree lists
abbrev pub made_columns : MadeColumns → List Column
made_columns (Listed columns) = columns.items
made_columns (Kept tree count) = columns_of_paths tree.paths

-- `count`, which is kept beside a tree, is the number of its columns; a list needs no count
abbrev pub HasCount : MadeColumns → Type 0
HasCount (Listed columns) = Unit {0}
HasCount (Kept tree count) = count ≡ length (columns_of_paths tree.paths)
