-- Loops of `take_off_all`: narrows a space to the scenarios that none of these cubes matches, as far as each depends on
-- one variable, and adds to `kept` those that match something of what is left at their turn.
use Rattle.std.proofs.Common.{◌≡◌, ◌≤◌, ◌||◌, All, drop, length}
use Rattle.std.specs.List.{list_any}
use Rattle.cpg_base.specs.Graph.{Graph}
use Rattle.cpg_base.specs.Scenario.{Scenario}
use Rattle.cpg_cube.specs.Cube.{matches}
use Rattle.cpg_cube.specs.Fit.{IsKnown}
use Rattle.cpg_audit.specs.Narrowing.{Leaves}
use Rattle.cpg_audit.proofs.narrowing.take_off_all.Given as goal

-- The cubes from `place` on were gone over. `within`: there are so many. `same`: a kept cube matches exactly where one
-- of those kept at first does, or one that was gone over, as far as what those kept at first leave lies in the first
-- space. `left`: so what the kept cubes leave lies in the space that is left. `grows`: cubes are only added. `known`:
-- if all cubes are on variables of a graph, so are the kept ones.
abbrev pub invariant-loop-place : goal.invariant-loop-place
invariant-loop-place l = record {
  within : l.place ≤ length l.by;
  same : (s : Scenario) → Leaves l.fn.space l.fn.kept.items s → list_any (λ b. matches b.now s) l.kept.items ≡
      (list_any (λ b. matches b.now s) l.fn.kept.items || list_any (λ b. matches b.now s) (drop l.place l.by));
  left : (s : Scenario) → Leaves l.fn.space l.fn.kept.items s → Leaves l.space l.kept.items s;
  grows : length l.fn.kept.items ≤ length l.kept.items;
  known : (g : Graph) → All (λ b. IsKnown g b.now) l.by → All (λ b. IsKnown g b.now) l.fn.kept.items →
      All (λ b. IsKnown g b.now) l.kept.items;
}

-- each turn goes one place down
abbrev pub decreases-loop-place : goal.decreases-loop-place
decreases-loop-place l = l.place
