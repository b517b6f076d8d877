-- Loops of `Ground::add_over`, which adds a cube for the numbers outside the range of each literal of the cube to be
-- covered: scenarios there needn't be covered, so they count as matched.
use Rattle.std.proofs.Common.{◌≡◌, ℕ, true}
use Rattle.cpg_cover.specs.Fewest.{IsNarrow, beyond, is_any_at}
use Rattle.cpg_cover.proofs.covering.Ground.add_over.Given as goal

-- for numbers within the literals' ranges, the literals so far add no cube that matches unless a cube at the start
-- matches
abbrev pub invariant-loop-literal : goal.invariant-loop-literal
invariant-loop-literal l = (s : ℕ → ℕ) → IsNarrow l.self.bounds.low s l.literals →
    is_any_at (beyond l.self.bounds.low s) l.cubes.items ≡ true →
    is_any_at (beyond l.self.bounds.low s) l.fn.cubes.items ≡ true
