-- Cubes of lists of literals: each list has one, which matches exactly the scenarios in which the literals hold; and two cubes of
-- one list have the same least scenario.
use Rattle.std.proofs.Common.{ℕ, suc, ltb, ◌<◌, ◌≤◌, ◌≡◌, ◌≢◌, ◌==◌, Bool, true, false, List, [], ◌∷◌, ◌++◌, map}
use Rattle.std.proofs.Common.{filter, flat_map, Contains, arith, refl, sym, ap, ◌∙◌, subst, inl, inr, eq-eqb}
use Rattle.std.proofs.Common.{eqb-true, ne_eqb}
use Rattle.std.specs.List.{list_any}
use Rattle.std.proofs.lemmas.Bool.{cases_Bool, cond-false, both_ways}
use Rattle.std.proofs.lemmas.List.Elements.{Contains-append_cases, Contains-append_left, Contains-append_right}
use Rattle.std.proofs.lemmas.List.Kept.{AllPairs-from_increasing, IsStrictlyIncreasing-filter}
use Rattle.cpg_base.specs.Numbers.{numbers_below, greatest}
use Rattle.cpg_base.specs.Graph.{Graph, process_count, condition_count, value_variable}
use Rattle.cpg_base.proofs.Lists.{Contains-first, Contains-rest, Contains-map, Contains-map_parts, Contains-filter}
use Rattle.cpg_base.proofs.Lists.{Contains-filter_parts, Contains-numbers, Contains-flat_map, Contains-flat_map_parts}
use Rattle.cpg_base.proofs.Lists.{numbers_rise, all_from, from_all, same_map, list_any_true, list_any_parts}
use Rattle.cpg_base.proofs.Lists.{greatest_above}
use Rattle.cpg_base.proofs.Pairs.{AllPairs-map}
use Rattle.cpg_base.specs.Scenario.{Scenario, IsScenario, number_of}
use Rattle.cpg_base.proofs.NumbersOf.{variable_or_not, unknown-zero}
use Rattle.cpg_cube.specs.declared.literal.Literal.{Literal}
use Rattle.cpg_cube.specs.Cube.{IsRising, holds, matches, low_in, high_in}
use Rattle.cpg_base.specs.Variable.{top}
use Rattle.cpg_cube.specs.Fit.{lows}
use Rattle.cpg_cube.proofs.Boxes.{number_within}
use Rattle.cpg_cube.proofs.CubeLows.{holds-low, holds-high, holds-from, low_in-le, low_in-none}
use Rattle.cpg_cube.proofs.Ranges.{range_of_literal, high_in-none}
use Rattle.cpg_cube.proofs.Within.{high_in-ge}
use Rattle.cpg_table.specs.Heard.{kept_low, kept_high}
use Rattle.cpg_run.proofs.Hearing.{low_kept, high_kept, high_kept_top, kept_low_below, kept_high_above}
use Rattle.cpg_run.specs.Carried.{number_known}
use Rattle.cpg_run.specs.Rows.{IsCubeOf}

-- ---- literals that all hold in a scenario

-- given: a scenario u
module _ (u : Scenario) where
  -- the first of two lists of literals holds if both hold together
  pub holds_left : (xs ys : List Literal) → matches (xs ++ ys) u ≡ true → matches xs u ≡ true
  holds_left xs ys matched = all_from (holds u) xs (λ m j. from_all (holds u)
      (xs ++ ys) m matched (Contains-append_left xs ys m j))

  -- the second of two lists of literals holds if both hold together
  pub holds_right : (xs ys : List Literal) → matches (xs ++ ys) u ≡ true → matches ys u ≡ true
  holds_right xs ys matched =
      all_from (holds u) ys (λ m j. from_all (holds u) (xs ++ ys) m matched (Contains-append_right xs ys m j))

  -- if the literals of all elements hold, those of each element hold
  pub holds_each : {X : Type 0} (f : X → List Literal) (xs : List X) (x : X) → matches (flat_map f xs) u ≡ true →
      Contains xs x →
      matches (f x) u ≡ true
  holds_each f xs x matched among =
      all_from (holds u) (f x) (λ m i. from_all (holds u) (flat_map f xs) m matched
      (Contains-flat_map f xs x m among i))

  -- if two lists of literals hold, they hold together
  pub holds_both : (xs ys : List Literal) → matches xs u ≡ true → matches ys u ≡ true → matches (xs ++ ys) u ≡ true
  holds_both xs ys left_matched right_matched = all_from (holds u) (xs ++ ys)
      (λ m j. elim (Contains-append_cases xs ys m j) [
        | inl in_left ↦ from_all (holds u) xs m left_matched in_left
        | inr in_right ↦ from_all (holds u) ys m right_matched in_right
      ])

  -- if the literals of each element hold, those of all elements hold together
  pub holds_all : {X : Type 0} (f : X → List Literal) (xs : List X) →
      ((x : X) → Contains xs x → matches (f x) u ≡ true) →
      matches (flat_map f xs) u ≡ true
  holds_all f xs each_holds = all_from (holds u) (flat_map f xs)
      (λ m among. let from_element = Contains-flat_map_parts f xs m among in from_all (holds u)
      (f from_element.0) m (each_holds from_element.0 from_element.1) from_element.2)

  -- if the literal that v has its number of s holds in u, v has the same number in u
  pub same_number : (s : Scenario) (v : ℕ) → holds u (number_known s v) ≡ true → number_of u v ≡ number_of s v
  same_number s v is_true = omega (
    arith,
    holds-low u (number_known s v) is_true,
    holds-high u
        (number_known s v) is_true,
  )

  -- if such literals on all variables of a list hold in u, each of these has the same number in u and s
  pub same_numbers : (s : Scenario) (vs : List ℕ) → matches (map (number_known s) vs) u ≡ true → (v : ℕ) →
      Contains vs v →
      number_of u v ≡ number_of s v
  same_numbers s vs matched v among = same_number s v
      (from_all (holds u) (map (number_known s) vs) (number_known s v) matched
      (Contains-map (number_known s) vs v among))

  -- the literal that v has its number of u holds in u
  pub number_holds : (v : ℕ) → holds u (number_known u v) ≡ true
  number_holds v = holds-from u (number_known u v) (omega arith) (omega arith)

-- no number of a scenario is above the top of its variable; what is no variable of the graph has the number 0
pub number_at_most : (g : Graph) → process_count g ≤ 128 → (s : Scenario) → IsScenario g s → (v : ℕ) →
    number_of s v ≤ top g.faults v
number_at_most g few s law v = elim (variable_or_not g v) [
  | inl known ↦ number_within g few s law v known
  | inr other ↦ omega (arith, unknown-zero g s law v other)
]

-- ---- what a cube of literals matches

-- given: a cube of literals and a scenario
module _ (g : Graph) (few : process_count g ≤ 128) (literals cube : List Literal) (is : IsCubeOf g.faults literals cube)
    (s : Scenario) (law : IsScenario g s) where
  -- The cube matches each scenario in which the literals hold: the number of a variable is at least each low on it, so at least the
  -- greatest, and likewise at most the least high.
  pub cube_matches : matches literals s ≡ true → matches cube s ≡ true
  cube_matches literals_match = all_from (holds s) cube (λ l in_this_cube.
      let v : ℕ = l.variable in
      let range = range_of_literal g.faults cube l is.rising in_this_cube in
      let low : kept_low literals v ≤ number_of s v = kept_low_below literals v (number_of s v)
      (λ m in_literals same_variable. omega (
        arith,
        holds-low s m
            (from_all (holds s) literals m literals_match in_literals),
        ap (number_of s) same_variable,
      )) in
      let high : number_of s v ≤ kept_high g.faults literals v =
      kept_high_above literals v g.faults (number_of s v) (number_at_most g few s law v)
      (λ m in_literals same_variable. omega (
        arith,
        holds-high s m
            (from_all (holds s) literals m literals_match in_literals),
        ap (number_of s) same_variable,
      )) in
      holds-from s l (omega (arith, range.0, is.low v, low)) (omega (arith, range.1, is.high v, high)))

  -- the literals hold in each scenario that their cube matches, as its range of a variable lies within each literal on it
  pub literals_hold : matches cube s ≡ true → matches literals s ≡ true
  literals_hold cube_match = all_from (holds s) literals (λ m in_literals.
      let v : ℕ = m.variable in
      holds-from s m
      (omega (arith, low_kept literals v m in_literals refl, is.low v, low_in-le cube s v cube_match))
      (omega (
        arith,
        high_kept literals v g.faults m in_literals refl,
        is.high v,
        high_in-ge g.faults cube s v (number_at_most g few s law v) cube_match,
      )))

-- the literals of a cube lie within the whole ranges of their variables
pub cube_within : (k : ℕ) (literals cube : List Literal) → IsCubeOf k literals cube → (l : Literal) → Contains cube l →
    l.high ≤ top k l.variable
cube_within k literals cube is l among =
    omega (
      arith,
      (range_of_literal k cube l is.rising among).1,
      is.high l.variable,
      high_kept_top literals l.variable k,
    )

-- cubes with the same lows of all variables have the same least scenario
pub same_lows : (g : Graph) (a b : List Literal) → ((v : ℕ) → low_in a v ≡ low_in b v) → lows g a ≡ lows g b
same_lows g a b same =
    let values = same_map (λ c. ltb 0 (low_in a (value_variable c))) (λ c. ltb 0 (low_in b (value_variable c)))
    (numbers_below (condition_count g)) (λ c j. ap (ltb 0) (same (value_variable c))) in
    let faults = same_map (low_in a) (low_in b) (numbers_below (process_count g)) (λ p j. same p) in
    λ i. record { values = values i; faults = faults i }

-- two cubes of the same literals have the same least scenario
pub same_least : (g : Graph) (xs a b : List Literal) → IsCubeOf g.faults xs a → IsCubeOf g.faults xs b →
    lows g a ≡ lows g b
same_least g xs a b is other = same_lows g a b (λ v. is.low v ∙ sym (other.low v))

-- ---- there is one

-- given: some literals, and the greatest fault count, k
module _ (k : ℕ) (literals : List Literal) where
  -- the range that all literals on the variable leave it, as one literal: from the greatest low to the least high
  kept : ℕ → Literal
  kept v = record { variable = v; low = kept_low literals v; high = kept_high k literals v }

  -- whether some literal of the list is on the variable
  is_spoken : ℕ → Bool
  is_spoken v = list_any (λ (m : Literal). m.variable == v) literals

  -- the variables that literals are on, rising
  spoken_below : List ℕ
  spoken_below = filter is_spoken (numbers_below (suc (greatest (map (λ (m : Literal). m.variable) literals))))

  -- what is kept of each variable of the literals
  pub cube_of : List Literal
  cube_of = map kept spoken_below

  -- the literals of the cube are in rising order of their variables
  rising : IsRising cube_of
  unfolding cube_of kept spoken_below
  rising = AllPairs-map (λ v w. v < w) (λ (l m : Literal). l.variable < m.variable) kept spoken_below (λ v w h. h)
      (AllPairs-from_increasing spoken_below (IsStrictlyIncreasing-filter is_spoken
      (numbers_below (suc (greatest (map (λ (m : Literal). m.variable) literals))))
      (numbers_rise (suc (greatest (map (λ (m : Literal). m.variable) literals))))))

  -- a literal of the cube is what is kept of a variable of the literals
  from_cube : (l : Literal) → Contains cube_of l → (is_spoken l.variable ≡ true) × (kept l.variable ≡ l)
  unfolding cube_of kept spoken_below
  from_cube l among =
      let made_from = Contains-map_parts kept spoken_below l among in
      let v : made_from.0 ≡ l.variable = ap (λ (m : Literal). m.variable) made_from.2 in (
        subst (λ w. is_spoken w ≡ true) v (Contains-filter_parts is_spoken
            (numbers_below (suc (greatest (map (λ (m : Literal). m.variable) literals)))) made_from.0 made_from.1).1,
        subst (λ w. kept w ≡ l) v made_from.2,
      )

  -- for each variable that a literal of the list is on, the cube has the literal that is kept of it
  in_cube : (v : ℕ) → is_spoken v ≡ true → Contains cube_of (kept v)
  unfolding cube_of spoken_below is_spoken
  in_cube v spoken =
      let speaker = list_any_parts (λ (m : Literal). m.variable == v) literals spoken in
      let same : speaker.0.variable ≡ v = eqb-true speaker.0.variable v speaker.2 in
      let most = greatest_above (map (λ (m : Literal). m.variable) literals) speaker.0.variable
      (Contains-map (λ (m : Literal). m.variable) literals speaker.0 speaker.1) in
      Contains-map kept spoken_below v
      (Contains-filter is_spoken (numbers_below (suc (greatest (map (λ (m : Literal). m.variable) literals)))) v spoken
      (Contains-numbers (suc (greatest (map (λ (m : Literal). m.variable) literals))) v (omega (arith, same, most))))

  -- the cube has no literal on a variable that no literal of the list is on
  not_in_cube : (v : ℕ) → is_spoken v ≡ false → (l : Literal) → Contains cube_of l → l.variable ≢ v
  not_in_cube v is_false l among same = both_ways (is_spoken v) is_false
      (subst (λ w. is_spoken w ≡ true) same (from_cube l among).0)

  -- if `is_spoken` is false for a variable, no literal of the list is on it
  unspoken : (v : ℕ) → is_spoken v ≡ false → (m : Literal) → Contains literals m → m.variable ≡ v → ⊥
  unfolding is_spoken
  unspoken v is_false m among same = both_ways (list_any (λ (m : Literal). m.variable == v) literals) is_false
      (list_any_true (λ (m : Literal). m.variable == v) literals m among (eq-eqb m.variable v same))

  -- the cube's low of a variable is the greatest low of the literals on it, and 0 if there is none
  low_is : (v : ℕ) → low_in cube_of v ≡ kept_low literals v
  unfolding kept
  low_is v = elim (cases_Bool (is_spoken v)) [
    | inl is_true ↦ (range_of_literal k cube_of (kept v) rising (in_cube v is_true)).0
    | inr is_false ↦ omega (
      arith,
      low_in-none cube_of v (not_in_cube v is_false),
      kept_low_below literals v 0 (λ m j same. absurd (unspoken v is_false m j same)),
    )
  ]

  -- the cube's high of a variable is the least high of the literals on it, and the variable's top if there is none
  high_is : (v : ℕ) → high_in k cube_of v ≡ kept_high k literals v
  unfolding kept
  high_is v = elim (cases_Bool (is_spoken v)) [
    | inl is_true ↦ (range_of_literal k cube_of (kept v) rising (in_cube v is_true)).1
    | inr is_false ↦ omega (
      arith,
      high_in-none k cube_of v (not_in_cube v is_false),
      high_kept_top literals v k,
      kept_high_above literals v k (top k v) (omega arith) (λ m j same. absurd (unspoken v is_false m j same)),
    )
  ]

  -- `cube_of` is a cube of the literals
  pub cube_there : IsCubeOf k literals cube_of
  unfolding is_spoken
  cube_there = record {
    rising = rising;
    spoken = λ l among.
        let speaker = list_any_parts (λ (m : Literal). m.variable == l.variable) literals (from_cube l among).0 in
        (speaker.0, speaker.1, eqb-true speaker.0.variable l.variable speaker.2);
    low = low_is;
    high = high_is;
  }
