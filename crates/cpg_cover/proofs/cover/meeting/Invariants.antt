-- Loops of `meeting`, which returns those cubes of a list that match some scenario together with `cube`: they leave the
-- same of it as the whole list.
use Rattle.std.proofs.Common.{◌≡◌, ◌≤◌, true, take, vec_len}
use Rattle.std.specs.Prelude.{All}
use Rattle.std.specs.List.{list_any}
use Rattle.cpg_base.specs.Scenario.{Scenario, IsScenario}
use Rattle.cpg_cube.specs.Cube.{matches}
use Rattle.cpg_cube.specs.Fit.{IsKnown}
use Rattle.cpg_cover.proofs.cover.meeting.Given as goal

-- `same`: a scenario of the cube is in a cube kept exactly when it is in a cube so far. `known`: the
-- cubes kept are of the graph's variables. `few`: at most one is kept for each turn.
abbrev pub invariant-loop-other : goal.invariant-loop-other
invariant-loop-other l = record {
  same : (s : Scenario) → IsScenario l.problem s → matches l.cube s ≡ true →
      list_any (λ b. matches b.now s) l.kept.items ≡ list_any (λ b. matches b.now s) (take l.other-index l.by);
  known : All (λ b. IsKnown l.problem b.now) l.kept.items;
  few : vec_len l.kept ≤ l.other-index;
}
