-- The lows of a cube along an order are the key of its least scenario; functions that agree on all variables give the
-- same lows.
use Rattle.std.proofs.Common.{ℕ, ◌<◌, ◌≤◌, ◌≡◌, true, List, [], ◌∷◌, Option, Some, None, All, Contains, IsPermutation}
use Rattle.std.proofs.Common.{arith, refl, sym, ap, ap₂, ◌∙◌, inl, inr}
use Rattle.std.specs.Prelude.{nat_le}
use Rattle.std.specs.List.{list_all}
use Rattle.std.proofs.lemmas.Bool.{and_parts, leb-true}
use Rattle.std.proofs.lemmas.List.Elements.{All-contains}
use Rattle.cpg_base.specs.Numbers.{numbers_below}
use Rattle.cpg_base.specs.Graph.{Graph, process_count, condition_count, condition_of, value_variable, IsVariable}
use Rattle.cpg_base.specs.Variable.{top}
use Rattle.cpg_base.proofs.Lists.{from_all, same_flat_map}
use Rattle.cpg_base.specs.Scenario.{fault_of, number_of, key, value_in_key}
use Rattle.cpg_base.proofs.NumbersOf.{number_of-fault, number_of-value}
use Rattle.cpg_base.proofs.ConditionProcesses.{condition_of_below}
use Rattle.cpg_cube.specs.Cube.{Literal, low_in}
use Rattle.cpg_cube.specs.Fit.{lows, is_met, is_open, asked_faults}
use Rattle.cpg_cube.specs.Keys.{low_of_value, lows_of, lows_along}
use Rattle.cpg_cube.proofs.Boxes.{made_number}
use Rattle.cpg_cube.proofs.CubeLows.{low_in-top}
use Rattle.cpg_cube.proofs.KeyOrder.{within_order}

-- ---- numbers that are the same on all variables

-- given: two functions that agree on all variables of the graph
module _ (g : Graph) (few : process_count g ≤ 128) (few_conditions : condition_count g ≤ 32) (low other : ℕ → ℕ)
    (same : (v : ℕ) → v < 256 → low v ≡ other v) where
  -- both give the same low of the value of p's condition, if p has one
  same_value : (p : ℕ) (o : Option ℕ) → condition_of g p ≡ o → low_of_value low o ≡ low_of_value other o
  same_value p None condition_is = refl
  same_value p (Some c) condition_is = let below = condition_of_below g p c condition_is in
      ap (λ (n : ℕ). n ∷ []) (same (value_variable c) (omega (arith, below, few_conditions)))

  -- two functions that agree on all variables of the graph give the same lows along an order
  pub same_along : (order : List ℕ) → All (λ p. p < process_count g) order →
      lows_along g order low ≡ lows_along g order other
  same_along order within = same_flat_map (lows_of g low) (lows_of g other) order (λ p member.
      let below = All-contains (λ p. p < process_count g) order p within member in
      ap₂ ◌∷◌ (same p (omega (arith, below, few))) (same_value p (condition_of g p) refl))

-- ---- the key of the least scenario

-- given: a cube that matches some scenario within the graph's faults
module _ (g : Graph) (few : process_count g ≤ 128) (cube : List Literal) (met : is_met g.faults cube ≡ true) where
  -- no low of the met cube is above its top
  low_le_top : (l : Literal) → Contains cube l → l.low ≤ top g.faults l.variable
  low_le_top l member =
      let open_all = (and_parts (list_all (is_open g.faults) cube) (nat_le (asked_faults cube) g.faults) met).0 in
      leb-true l.low (top g.faults l.variable) (and_parts (nat_le l.low l.high) (nat_le l.low (top g.faults l.variable))
      (from_all (is_open g.faults) cube l open_all member)).1

  -- the scenario at the lows has them as its numbers
  number_is : (v : ℕ) → IsVariable g v → number_of (lows g cube) v ≡ low_in cube v
  number_is v known = made_number g few (low_in cube) v known (low_in-top g.faults cube low_le_top v)

  -- the low of a process's value is the value's number in the key
  value_is : (p : ℕ) (o : Option ℕ) → condition_of g p ≡ o →
      low_of_value (low_in cube) o ≡ value_in_key (lows g cube).values o
  value_is p None condition_is = refl
  value_is p (Some d) condition_is = ap (λ (n : ℕ). n ∷ []) (
      let below = condition_of_below g p d condition_is in
      sym (number_is (value_variable d) (inr (omega arith, omega (arith, below)))) ∙ number_of-value (lows g cube) d)

  -- the lows of a cube along an order are the key of its least scenario
  pub lows_are_key : (order : List ℕ) → IsPermutation (numbers_below (process_count g)) order →
      lows_along g order (low_in cube) ≡ key g order (lows g cube)
  lows_are_key order all = same_flat_map (lows_of g (low_in cube))
      (λ p. fault_of (lows g cube) p ∷ value_in_key (lows g cube).values (condition_of g p)) order (λ p member.
      let below = All-contains (λ p. p < process_count g) order p (within_order (process_count g) order all) member in
      ap₂ ◌∷◌ (sym (number_is p (inl below)) ∙ number_of-fault (lows g cube) p (omega (arith, below, few)))
      (value_is p (condition_of g p) refl))
