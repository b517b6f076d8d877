-- Loops of `cutting`, which returns those literals that may fail in some scenario that a cube matches.
use Rattle.std.proofs.Common.{◌≡◌, ◌≤◌, true, length, take}
use Rattle.cpg_base.specs.Scenario.{Scenario, IsScenario}
use Rattle.cpg_cube.specs.Cube.{matches}
use Rattle.cpg_cube.specs.Fit.{IsKnown}
use Rattle.cpg_cover.proofs.cover.cutting.Given as goal

-- `same`: in the scenarios of the cube the literals kept hold exactly when those so far hold. `known`: the literals
-- kept are on variables of the graph. `few`: at most one is kept for each turn.
abbrev pub invariant-loop-literal : goal.invariant-loop-literal
invariant-loop-literal l = record {
  same : (s : Scenario) → IsScenario l.problem s → matches l.cube s ≡ true →
      matches l.kept.items s ≡ matches (take l.literal-index l.literals) s;
  known : IsKnown l.problem l.kept.items;
  few : length l.kept.items ≤ l.literal-index;
}
