-- Where literals hold.
use Rattle.std.proofs.Common.{arith, List, get_or, length, ◌-◌, ℕ, ◌≡◌, ◌≤◌, ◌<◌, ◌&&◌, true, false, ap, ◌∙◌, inl, inr}
use Rattle.std.specs.Prelude.{nat_le}
use Rattle.std.proofs.Math.Bool.{and-false}
use Rattle.std.proofs.lemmas.Bool.{cases_lt, lt-leb, both_ways, true_from_ne_false}
use Rattle.std.proofs.lemmas.List.Folds.{list_all_at}
use Rattle.cpg_base.specs.Scenario.{Scenario, number_of}
use Rattle.cpg_cube.specs.declared.literal.Literal.{Literal}
use Rattle.cpg_cube.specs.Cube.{holds, matches}

-- given: a scenario s, and a literal l
module _ (s : Scenario) (l : Literal) where
  -- a literal doesn't hold if the number of its variable is below its low
  pub below_low : number_of s l.variable < l.low → holds s l ≡ false
  below_low is_low = ap (λ b. b && nat_le (number_of s l.variable) l.high)
      (lt-leb l.low (number_of s l.variable) is_low)

  -- a literal doesn't hold if the number is above its high
  pub above_high : l.high < number_of s l.variable → holds s l ≡ false
  above_high is_high = ap (λ b. nat_le l.low (number_of s l.variable) && b)
      (lt-leb (number_of s l.variable) l.high is_high)
      ∙ and-false (nat_le l.low (number_of s l.variable))

-- a number up to the cut just under a low is under the low
pub under : (low n : ℕ) → (low ≡ 0 → ⊥) → n ≤ low - 1 → n < low
under low n some up_to = elim (cases_lt 0 low) [
  | inl less ↦ omega (arith, less, up_to)
  | inr not_less ↦ absurd (some (omega (arith, not_less)))
]

-- a number from a low on is above the low less 1
pub over : (low n : ℕ) → (low ≡ 0 → ⊥) → low ≤ n → low - 1 < n
over low n some from = elim (cases_lt 0 low) [
  | inl less ↦ omega (arith, less, from)
  | inr not_less ↦ absurd (some (omega (arith, not_less)))
]

-- given: a literal of a cube
module _ (s : Scenario) (ls : List Literal) (i : ℕ) (d : Literal) (there : i < length ls) where
  -- if one literal does not hold, the cube does not match
  pub unmatched : holds s (get_or ls i d) ≡ false → matches ls s ≡ false
  unmatched fails = list_all_at (holds s) ls i d there fails

  -- if the cube matches, each of its literals holds
  pub each_holds : matches ls s ≡ true → holds s (get_or ls i d) ≡ true
  each_holds all = true_from_ne_false (holds s (get_or ls i d))
      (λ fails. both_ways (matches ls s) (unmatched fails) all)
