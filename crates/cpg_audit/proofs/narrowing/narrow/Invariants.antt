-- Loops of `narrow`: narrows a space to the scenarios that none of these cubes matches, as far as each depends on one
-- variable.
use Rattle.std.proofs.Common.{◌≡◌, ◌≤◌, false, drop, length}
use Rattle.std.specs.List.{list_any}
use Rattle.cpg_base.specs.Scenario.{Scenario}
use Rattle.cpg_cube.specs.Cube.{matches}
use Rattle.cpg_tree.specs.Space.{IsInSpace}
use Rattle.cpg_audit.proofs.narrowing.narrow.Given as goal

-- The cubes from `place` on were gone over. `within`: there are so many. `left`: a scenario of the space as it was at
-- first that none of them matches lies in the space that is left.
abbrev pub invariant-loop-place : goal.invariant-loop-place
invariant-loop-place l = record {
  within : l.place ≤ length l.by;
  left : (s : Scenario) → list_any (λ b. matches b.now s) (drop l.place l.by) ≡ false → IsInSpace l.fn.space s →
      IsInSpace l.space s;
}

-- each turn goes one place down
abbrev pub decreases-loop-place : goal.decreases-loop-place
decreases-loop-place l = l.place
