-- Whether a scenario is the least of a cube, by one walk over its variables.
use Rattle.std.proofs.Common.{◌≡◌, ◌∙◌, ℕ, ◌-◌, ◌<◌, ◌≤◌, min, Bool, true, false, ltb, ◌==◌, List, [], ◌∷◌, get_or, map}
use Rattle.std.proofs.Common.{arith, refl, sym, ap, inl, inr, subst, eq-eqb, ne_eqb, lt-ltb, le-ltb}
use Rattle.std.proofs.lemmas.Bool.{cases_eq, cases_lt, cond-true, cond-false}
use Rattle.std.proofs.lemmas.List.FromFn.{fill_by_all}
use Rattle.cpg_base.specs.Numbers.{numbers_below}
use Rattle.cpg_base.specs.Graph.{Graph, process_count, condition_count, value_variable}
use Rattle.cpg_base.specs.Scenario.{Scenario, IsScenario, number_of, number_of_value, fault_of}
use Rattle.cpg_base.proofs.Lists.{get_or-map-below}
use Rattle.cpg_cube.specs.Cube.{IsRising, low_in}
use Rattle.cpg_cube.specs.Fit.{lows}
use Rattle.cpg_cube.specs.declared.literal.Literal.{Literal}
use Rattle.cpg_cube.proofs.CubeLows.{low_in-later, low_in-none}
use Rattle.cpg_cube.proofs.Ranges.{rising_rest, rising_first}
use Rattle.cpg_list.specs.Narrowing.{from_variable, front_low, as_number}

-- ---- the literals from a variable on

-- given: a variable v
module _ (v : ℕ) where
  -- a literal below the variable is skipped
  skips : (l : Literal) (ls : List Literal) → l.variable < v → from_variable v (l ∷ ls) ≡ from_variable v ls
  skips l ls less = cond-true _ _ _ (lt-ltb l.variable v less)

  -- literals that begin on the variable or above stay
  stops : (l : Literal) (ls : List Literal) → v ≤ l.variable → from_variable v (l ∷ ls) ≡ l ∷ ls
  stops l ls at_most = cond-false _ _ _ (le-ltb l.variable v at_most)

  -- if all literals rise, so do those from the variable on: by induction on them
  pub from-rising : (ls : List Literal) → IsRising ls → IsRising (from_variable v ls)
  from-rising [] rising = rising
  from-rising (l ∷ ls) rising = elim (cases_lt l.variable v) [
    | inl less ↦ subst IsRising (sym (skips l ls less)) (from-rising ls (rising_rest l ls rising))
    | inr not_less ↦ subst IsRising (sym (stops l ls not_less)) rising
  ]

  -- the literals from the variable v on give the lows of v and of all variables above: by induction, a skipped literal is below
  pub from-low : (ls : List Literal) (w : ℕ) → v ≤ w → low_in (from_variable v ls) w ≡ low_in ls w
  from-low [] w at_most = refl
  from-low (l ∷ ls) w at_most = elim (cases_lt l.variable v) [
    | inl less ↦ ap (λ c. low_in c w) (skips l ls less) ∙ from-low ls w at_most
        ∙ sym (low_in-later l ls w (λ e. omega (arith, at_most, less, e)))
    | inr no_more ↦ ap (λ c. low_in c w) (stops l ls no_more)
  ]

  -- The first of those from v on gives the low of v: by induction on the literals. If the first that stays is on v, it has the
  -- low; if it is above, no later one is on v, and the low is 0.
  pub from-front : (ls : List Literal) → IsRising ls → front_low v (from_variable v ls) ≡ low_in ls v
  from-front [] rising = refl
  from-front (l ∷ ls) rising = elim (cases_lt l.variable v) [
    | inl less ↦ ap (front_low v) (skips l ls less) ∙ from-front ls (rising_rest l ls rising)
        ∙ sym (low_in-later l ls v (λ e. omega (arith, less, e)))
    | inr not_less ↦ ap (front_low v) (stops l ls not_less) ∙ elim (cases_eq l.variable v) [
      | inl e ↦ cond-true (l.variable == v) l.low 0 (eq-eqb l.variable v e)
          ∙ sym (cond-true (l.variable == v) l.low (low_in ls v) (eq-eqb l.variable v e))
      | inr differ ↦ cond-false (l.variable == v) l.low 0 (ne_eqb l.variable v differ)
          ∙ sym (low_in-later l ls v differ
          ∙ low_in-none ls v (λ m there e. omega (arith, not_less, e, rising_first l m ls rising there)))
    ]
  ]

-- ---- numbers

-- if the number of a value is a low cut to 1, the value is true exactly if the low isn't 0
value_is : (b : Bool) (n : ℕ) → number_of_value b ≡ min n 1 → b ≡ ltb 0 n
value_is true n is = sym (lt-ltb 0 n (omega (arith, is)))
value_is false n is = sym (le-ltb 0 n (omega (arith, is)))

-- the value "the low isn't 0" has the low, cut to 1, as its number
number_is : (n : ℕ) → number_of_value (ltb 0 n) ≡ min n 1
number_is n = elim (cases_lt 0 n) [
  | inl h ↦ ap number_of_value (lt-ltb 0 n h) ∙ omega (arith, h)
  | inr h ↦ ap number_of_value (le-ltb 0 n h) ∙ omega (arith, h)
]

-- given: a scenario s
module _ (s : Scenario) where
  -- the number of a variable below 128 is the fault count of that process
  count_number : (p : ℕ) → p < 128 → number_of s p ≡ fault_of s p
  count_number p less = cond-true _ _ _ (lt-ltb p 128 less)

  -- the number of a condition's variable is that of its value
  value_number : (c : ℕ) → number_of s (value_variable c) ≡ number_of_value (get_or s.values c false)
  value_number c = cond-false _ _ _ (le-ltb (value_variable c) 128 (omega arith))
      ∙ ap (λ d. number_of_value (get_or s.values d false))
      (let same_condition : value_variable c - 128 ≡ c = omega arith in same_condition)

-- of a variable below 128 a low is taken as it is
count_as : (p low : ℕ) → p < 128 → as_number p low ≡ low
count_as p low less = cond-true _ _ _ (lt-ltb p 128 less)

-- of a variable from 128 on a low is cut to 1
value_as : (v low : ℕ) → 128 ≤ v → as_number v low ≡ min low 1
value_as v low at_least = cond-false _ _ _ (le-ltb v 128 at_least)

-- given: a graph of at most 128 processes, a cube, and a scenario s
module _ (g : Graph) (few : process_count g ≤ 128) (cube : List Literal) (s : Scenario) where
  -- a scenario in which each fault count and each value is the low of its variable is the least of the cube: both of its lists
  -- are, element by element
  pub lows_are : IsScenario g s
      → ((v : ℕ) → 0 ≤ v → v < process_count g → number_of s v ≡ as_number v (low_in cube v))
      → ((v : ℕ) → 128 ≤ v → v < value_variable (condition_count g) → number_of s v ≡ as_number v (low_in cube v))
      → lows g cube ≡ s
  lows_are law counts values =
      let faults : s.faults ≡ map (low_in cube) (numbers_below (process_count g)) =
      fill_by_all (low_in cube) s.faults (process_count g) 0 law.faults
      (λ p h. sym (count_number s p (omega (arith, few, h))) ∙ counts p (omega arith) h
      ∙ count_as p (low_in cube p) (omega (arith, few, h))) in
      let truths : s.values ≡ map (λ c. ltb 0 (low_in cube (value_variable c))) (numbers_below (condition_count g)) =
      fill_by_all (λ c. ltb 0 (low_in cube (value_variable c))) s.values (condition_count g) false law.values
      (λ c h. value_is (get_or s.values c false) (low_in cube (value_variable c))
      (sym (value_number s c) ∙ values (value_variable c) (omega arith) (omega (arith, h))
      ∙ value_as (value_variable c) (low_in cube (value_variable c)) (omega arith))) in
      λ i. record { values = sym truths i; faults = sym faults i }

  -- in the least scenario of a cube each fault count is the low of its variable
  pub counts_are : lows g cube ≡ s → (v : ℕ) → 0 ≤ v → v < process_count g → number_of s v ≡ as_number v (low_in cube v)
  counts_are is v z within = count_number s v (omega (arith, few, within))
      ∙ ap (λ (t : Scenario). get_or t.faults v 0) (sym is)
      ∙ get_or-map-below (low_in cube) (process_count g) v 0 within
      ∙ sym (count_as v (low_in cube v) (omega (arith, few, within)))

  -- in the least scenario of a cube each value is the low of its variable
  pub values_are : lows g cube ≡ s → (v : ℕ) → 128 ≤ v → v < value_variable (condition_count g) →
      number_of s v ≡ as_number v (low_in cube v)
  values_are is v at_most h =
      let condition : ℕ = v - 128 in
      let same : value_variable condition ≡ v = omega (arith, at_most) in
      subst (λ u. number_of s u ≡ as_number u (low_in cube u)) same
      (value_number s condition ∙ ap (λ (t : Scenario). number_of_value (get_or t.values condition false)) (sym is)
      ∙ ap number_of_value (get_or-map-below (λ d. ltb 0 (low_in cube (value_variable d)))
      (condition_count g) condition false
      (omega (arith, at_most, h)))
      ∙ number_is (low_in cube (value_variable condition))
      ∙ sym (value_as (value_variable condition) (low_in cube (value_variable condition)) (omega arith)))
