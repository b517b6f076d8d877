-- The text of columns: a line for each, with its time and its literals.
use Rattle.std.specs.Prelude.{ℕ, ◌==◌, if◌then◌else◌, List, [], ◌∷◌, ◌++◌, codes}
use Rattle.std.specs.List.{flat_map, join_by}
use Rattle.std.specs.Fmt.{decimal}
use Rattle.cpg_base.specs.Variable.{variable_at}
use Rattle.cpg_base.specs.declared.variable.Variable.{Variable}
use Rattle.cpg_base.specs.declared.variable.Variable.TheVariants.{Count, Value}
use Rattle.cpg_cube.specs.declared.literal.Literal.{Literal}
use Rattle.cpg_cube.specs.declared.column.Column.{Column}
use Rattle.cpg_label.specs.Labels.{Labels, process_name, condition_name}

-- the text of a range of fault counts: `n` if it has one number, and `low..high` otherwise
abbrev pub range_text : ℕ → ℕ → List ℕ
range_text low high = if low == high then decimal low else decimal low ++ codes ".." ++ decimal high

-- the text of a condition's value: false for 0, true for any other number
abbrev pub value_text : ℕ → List ℕ
value_text number = if number == 0 then codes "false" else codes "true"

-- the text of a variable's range; that of a value has one number, so `high` isn't looked at
abbrev pub known_text : Labels → Variable → ℕ → ℕ → List ℕ
known_text labels (Count p) low high = process_name labels p ++ codes " faults " ++ range_text low high
known_text labels (Value c) low high = condition_name labels c ++ codes " " ++ value_text low

-- the text of a literal
abbrev pub literal_text : Labels → Literal → List ℕ
literal_text labels l = known_text labels (variable_at l.variable) l.low l.high

-- the literals with a comma and a space between them, or `always` if there are none
abbrev pub cube_text : Labels → List Literal → List ℕ
cube_text labels [] = codes "always"
cube_text labels (l ∷ ls) = join_by (literal_text labels) (codes ", ") (l ∷ ls)

-- the line of a column: its time and its literals
abbrev pub column_line : Labels → Column → List ℕ
column_line labels c = codes "  " ++ decimal c.time ++ codes ": " ++ cube_text labels c.cube ++ codes "\n"

-- a line for each column
abbrev pub columns_text : Labels → List Column → List ℕ
columns_text labels columns = flat_map (column_line labels) columns
