-- Texts of rows, as the code keeps them: a front, then parts, each of which is a line and the lines of its columns.
use Rattle.std.specs.Prelude.{ℕ, List, ◌++◌, string_bytes}
use Rattle.std.specs.List.{flat_map}
use Rattle.cpg_cube.specs.declared.column.Column.{Column}
use Rattle.cpg_tree_columns.specs.declared.made_row.RowSource.{RowSource}
use Rattle.cpg_tree_columns.specs.declared.made_row.RowSource.TheVariants.{Listed, Kept}
use Rattle.cpg_label.specs.Labels.{Labels}
use Rattle.cpg_label.specs.CubeText.{columns_text}
use Rattle.cpg_tree_columns.specs.Columns.{columns_of_paths}
use Rattle.cpg_show.specs.declared.sheet.SheetPart.{SheetPart}
use Rattle.cpg_show.specs.declared.sheet.Sheet.{Sheet}

-- the columns of a source: those of its list, or those that the paths of its tree lead to
abbrev pub columns_of_source : RowSource → List Column
columns_of_source (Listed columns) = columns.now
columns_of_source (Kept tree) = columns_of_paths tree.now.paths

-- the text of a part: its line, then a line for each of its columns
abbrev pub part_text : Labels → SheetPart → List ℕ
part_text labels part = string_bytes part.head ++ columns_text labels (columns_of_source part.columns)

-- the text of a sheet: its front, then its parts
abbrev pub sheet_text : Sheet → List ℕ
sheet_text sheet = string_bytes sheet.front ++ flat_map (part_text sheet.labels) sheet.parts.items
