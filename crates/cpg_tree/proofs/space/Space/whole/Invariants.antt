-- Loops of `Space::whole`, which returns the space of all scenarios of at most `k` faults.
use Rattle.std.proofs.Common.{ℕ, ◌<◌, ◌≤◌, ◌≡◌, length, List}
use Rattle.std.specs.Prelude.{get_or}
use Rattle.cpg_tree.proofs.space.Space.whole.Given as goal

-- the highs of the first n variables are the number of faults k, and all others are 1, as a value has at most 1
pub record Filled (k n : ℕ) (high : List ℕ) : Type 0 where
  pub long : length high ≡ 256
  pub done : (v : ℕ) → v < n → get_or high v 0 ≡ k
  pub rest : (v : ℕ) → n ≤ v → v < 256 → get_or high v 0 ≡ 1

-- before each turn the highs of the variables so far are set
abbrev pub invariant-loop-variable : goal.invariant-loop-variable
invariant-loop-variable l = Filled l.k l.variable l.high
