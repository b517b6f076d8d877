-- Columns that break V1.
use Rattle.std.specs.Prelude.{ℕ, Bool, List}
use Rattle.cpg_base.specs.Graph.{Graph}
use Rattle.cpg_base.specs.Scenario.{Scenario}
use Rattle.cpg_cube.specs.declared.column.Column.{Column}
use Rattle.cpg_table.specs.Valid.{breaks_activity}
use Rattle.cpg_violation.specs.Broken.{is_broken}

-- whether there is a column at place `i` of these columns of item `x`, and it breaks V1 in scenario `s`: it matches in
-- it, and the item, or the process of one of the column's literals, is inactive in it
abbrev pub is_idle : Graph → ℕ → List Column → ℕ → Scenario → Bool
is_idle g x columns i s = is_broken (λ t c. breaks_activity g t x c) columns i s
