-- A part of a cube that a search for the least scenario needn't go into.
use Rattle.std.specs.Prelude.{ℕ, ◌≡◌, true, false, List, Option, None, Some}
use Rattle.cpg_base.specs.Graph.{Graph}
use Rattle.cpg_base.specs.Scenario.{Scenario, IsScenario, is_before}
use Rattle.cpg_cube.specs.Cube.{matches}
use Rattle.cpg_cube.specs.declared.literal.Literal.{Literal}

-- a scenario is found, and none that the part matches comes before it
abbrev pub IsLate : Graph → List ℕ → List Literal → Option Scenario → Type 0
IsLate g order part None = ⊥
IsLate g order part (Some found) =
    (s : Scenario) → IsScenario g s → matches part s ≡ true → is_before g order s found ≡ false
