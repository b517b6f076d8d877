-- Loops of `frozen_ends`: for each scenario the cube of what is carried at the end of a frozen process.
use Rattle.std.proofs.Common.{◌≡◌, ℕ, ◌<◌, ◌∷◌, [], ◌++◌, length, get_or}
use Rattle.cpg_base.specs.Scenario.{Scenario}
use Rattle.cpg_run.specs.Carried.{decided, number_known}
use Rattle.cpg_run.specs.Rows.{IsCubeOf}
use Rattle.cpg_list.proofs.sends.frozen_ends.Given as goal

-- there is a cube for each scenario so far: that of what decides the process, and of its fault count
abbrev pub invariant-loop-at : goal.invariant-loop-at
invariant-loop-at l = record {
  count : length l.cubes.items ≡ l.at;
  each : (i : ℕ) (s : Scenario) → i < l.at →
      IsCubeOf l.admitted.graph.faults (decided l.admitted.graph (get_or l.scenarios i s) l.process
      ++ number_known (get_or l.scenarios i s) l.process ∷ [])
      (get_or l.cubes.items i []);
}
