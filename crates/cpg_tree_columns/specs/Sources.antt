-- What the columns of a row are read from.
use Rattle.std.specs.Prelude.{◌≡◌, List}
use Rattle.cpg_cube.specs.declared.column.Column.{Column}
use Rattle.cpg_tree_columns.specs.Columns.{columns_of_paths}
use Rattle.cpg_tree_columns.specs.declared.made_row.RowSource.{RowSource}
use Rattle.cpg_tree_columns.specs.declared.made_row.RowSource.TheVariants.{Listed, Kept}

-- the source has these columns: it is a list of them, or a tree that lists them
abbrev pub ShowsSource : RowSource → List Column → Type 0
ShowsSource (Listed listed) columns = listed.now ≡ columns
ShowsSource (Kept tree) columns = columns_of_paths tree.now.paths ≡ columns
