-- Loops of `Ground::asked`, which returns what literals ask of the numbers beyond the lows, without those that hold
-- everywhere in the cube; `None` if one holds nowhere.
use Rattle.std.proofs.Common.{◌≡◌, ℕ, take, true}
use Rattle.cpg_cover.specs.Fewest.{IsOn, beyond, matches_at}
use Rattle.cpg_cover.proofs.covering.Ground.asked.Given as goal

-- for numbers on this ground, if the literals asked hold of what is beyond the lows, the literals so far hold of the
-- numbers
abbrev pub invariant-loop-literal : goal.invariant-loop-literal
invariant-loop-literal l = (s : ℕ → ℕ) → IsOn l.self.bounds.low l.self.bounds.high l.self.left s →
    matches_at (beyond l.self.bounds.low s) l.asked.items ≡ true →
    matches_at s (take l.literal-index l.literals) ≡ true
