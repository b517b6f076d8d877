-- Whether the column at a place of a row breaks a rule that is about one column.
use Rattle.std.specs.Prelude.{ℕ, Bool, ◌&&◌, List, take, drop}
use Rattle.std.specs.List.{list_any}
use Rattle.cpg_base.specs.Scenario.{Scenario}
use Rattle.cpg_cube.specs.Cube.{matches}
use Rattle.cpg_cube.specs.declared.column.Column.{Column}

-- whether there is a column at place `i`, it matches in scenario `s`, and `test` says that it breaks a rule there
-- (`take 1 (drop i columns)` is that column alone, or nothing)
abbrev pub is_broken : (Scenario → Column → Bool) → List Column → ℕ → Scenario → Bool
is_broken test columns i s = list_any (λ c. matches c.cube s && test s c) (take 1 (drop i columns))
