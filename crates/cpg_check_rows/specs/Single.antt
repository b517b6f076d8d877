-- Columns that break V2.
use Rattle.std.specs.Prelude.{ℕ, Bool, ◌&&◌, List, take, drop}
use Rattle.std.specs.List.{list_any}
use Rattle.cpg_base.specs.Scenario.{Scenario}
use Rattle.cpg_cube.specs.Cube.{matches}
use Rattle.cpg_cube.specs.declared.column.Column.{Column}
use Rattle.cpg_table.specs.Valid.{breaks_single}

-- whether there is a column at place `i` of these columns, and it breaks V2 in scenario `s`: it matches, and so does an
-- earlier one (`take 1 (drop i columns)` is the column at `i` alone, or nothing)
abbrev pub is_double : List Column → ℕ → Scenario → Bool
is_double columns i s = list_any (λ c. matches c.cube s && breaks_single s (take i columns)) (take 1 (drop i columns))
