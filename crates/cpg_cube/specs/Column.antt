-- Columns of a row: each is a time, for the scenarios that its cube matches.
use Rattle.std.specs.Prelude.{ℕ, List, [], map, filter, get_or}
use Rattle.cpg_base.specs.Scenario.{Scenario}
use Rattle.cpg_cube.specs.Cube.{matches}
pub use Rattle.cpg_cube.specs.declared.column.Column.{Column}

-- the times of the columns that match in a scenario
abbrev pub times_in : List Column → Scenario → List ℕ
times_in columns s = map (λ c. c.time) (filter (λ c. matches c.cube s) columns)

-- the column at place i; behind the last one, a column of time 0 for all scenarios
abbrev pub column_at : List Column → ℕ → Column
column_at columns i = get_or columns i (record { time = 0; cube = [] })
