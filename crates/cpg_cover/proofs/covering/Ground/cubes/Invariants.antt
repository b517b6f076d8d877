-- Loops of `Ground::cubes`, which returns the cubes of what the cubes of a list ask beyond the lows.
use Rattle.std.proofs.Common.{◌≡◌, ℕ, take, true}
use Rattle.std.specs.List.{list_any}
use Rattle.cpg_cover.specs.Fewest.{IsOn, beyond, is_any_at, matches_at}
use Rattle.cpg_cover.proofs.covering.Ground.cubes.Given as goal

-- for numbers on this ground, if a cube made so far matches what is beyond the lows, one of the cubes so far matches
-- the numbers
abbrev pub invariant-loop-other : goal.invariant-loop-other
invariant-loop-other l = (s : ℕ → ℕ) → IsOn l.self.bounds.low l.self.bounds.high l.self.left s →
    is_any_at (beyond l.self.bounds.low s) l.cubes.items ≡ true →
    list_any (λ b. matches_at s b.now) (take l.other-index l.by) ≡ true
