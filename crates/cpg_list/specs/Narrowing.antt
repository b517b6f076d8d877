-- Cubes that are narrowed by what a node learns, and the entry of a scenario, a column that isn't merged yet: there is one
-- only if the scenario is the least that the entry's cube matches.
use Rattle.std.specs.Prelude.{ℕ, ◌≡◌, ◌≢◌, min, nat_lt, ◌==◌, if◌then◌else◌, List, [], ◌∷◌, ◌++◌, Option, None, Some}
use Rattle.std.specs.Prelude.{filter}
use Rattle.std.specs.List.{flat_map}
use Rattle.cpg_base.specs.Graph.{Graph}
use Rattle.cpg_base.specs.Scenario.{Scenario}
use Rattle.cpg_cube.specs.Narrow.{narrowed_by}
use Rattle.cpg_cube.specs.Cube.{matches}
use Rattle.cpg_cube.specs.Fit.{lows}
use Rattle.cpg_cube.specs.declared.literal.Literal.{Literal}
use Rattle.cpg_cube.specs.declared.column.Column.{Column}
use Rattle.cpg_run.specs.Rows.{IsCubeOf}

-- a cube narrowed by literals, one after another; a literal on a variable of the cube narrows that one, and any other is added
abbrev pub met : List Literal → List Literal → List Literal
met cube [] = cube
met cube (l ∷ ls) = met (narrowed_by l cube) ls

-- `cube_new` is the cube `cube_old` narrowed by the literals: if `cube_old` is the cube of some literals, `cube_new` is that
-- of those and these; k is the number of faults of the graph
pub record IsNarrowed (k : ℕ) (literals cube_old cube_new : List Literal) : Type 0 where
  pub by : (known : List Literal) → IsCubeOf k known cube_old → IsCubeOf k (known ++ literals) cube_new

-- the literals of the columns that match in the scenario
abbrev pub carried_in_columns : List Column → Scenario → List Literal
carried_in_columns columns s = flat_map (λ c. c.cube) (filter (λ c. matches c.cube s) columns)

-- the literals from the first on whose variable is v or above; in a cube these are all on v and above
abbrev pub from_variable : ℕ → List Literal → List Literal
from_variable v [] = []
from_variable v (l ∷ ls) = if nat_lt l.variable v then from_variable v ls else l ∷ ls

-- the low of the first literal if it is on the variable v, and 0 otherwise; of literals on v and above none bounds v then
abbrev pub front_low : ℕ → List Literal → ℕ
front_low v [] = 0
front_low v (l ∷ ls) = if l.variable == v then l.low else 0

-- a low as a number that the variable can have: variables below 128 are fault counts, and the others are values, 0 or 1
abbrev pub as_number : ℕ → ℕ → ℕ
as_number v low = if nat_lt v 128 then low else min low 1

-- the option is the entry of the time and the cube if the scenario is the least of the cube, and None otherwise
abbrev pub IsEntryWith : Graph → Scenario → ℕ → List Literal → Option Column → Type 0
IsEntryWith g s time cube None = lows g cube ≢ s
IsEntryWith g s time cube (Some e) = (e.time ≡ time) × (e.cube ≡ cube) × (lows g cube ≡ s)

-- the option is the entry of the time and the cube of the literals if the scenario is the least of this cube, and None
-- otherwise
abbrev pub IsEntryOf : Graph → Scenario → ℕ → List Literal → Option Column → Type 0
IsEntryOf g s time literals None = (cube : List Literal) → IsCubeOf g.faults literals cube → lows g cube ≢ s
IsEntryOf g s time literals (Some e) = (e.time ≡ time) × IsCubeOf g.faults literals e.cube × (lows g e.cube ≡ s)

-- the option is the entry of an item's time and the literals, as in `IsEntryOf`; an item without a time has no entry
abbrev pub IsEntryAt : Graph → Scenario → Option ℕ → List Literal → Option Column → Type 0
IsEntryAt g s None literals r = r ≡ None
IsEntryAt g s (Some time) literals r = IsEntryOf g s time literals r
