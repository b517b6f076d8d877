-- Numbers beyond the lows of a cube: if no cube of a list is matched by them but with more faults than are left, the
-- list covers the cube.
use Rattle.std.proofs.Common.{ℕ, zero, suc, ◌+◌, ◌-◌, ◌<◌, ◌≤◌, ◌≡◌, true, false, List, Some, length, get_or, sum_by}
use Rattle.std.proofs.Common.{arith, refl, sym, ap, ◌∙◌, ⊎_elim, le-ltb, leb-true, Contains, add-one}
use Rattle.std.specs.Prelude.{nat_le, nat_lt}
use Rattle.std.specs.List.{list_any}
use Rattle.std.proofs.lemmas.Bool.{cases_Bool, cases_lt, cond-false, both_ways, and_parts, false_from_ne_true}
use Rattle.std.proofs.lemmas.List.{get_or_past}
use Rattle.std.proofs.lemmas.List.Elements.{All-contains, Contains-get_or}
use Rattle.std.proofs.lemmas.List.Sums.{sum_by_push}
use Rattle.cpg_base.specs.Numbers.{numbers_below}
use Rattle.cpg_base.specs.Graph.{Graph, process_count, IsVariable}
use Rattle.cpg_base.specs.Limits.{IsWithinLimits}
use Rattle.cpg_base.specs.Scenario.{Scenario, IsScenario, number_of, number_of_value, fault_of}
use Rattle.cpg_base.proofs.Lists.{below_push, numbers-Contains, from_all}
use Rattle.cpg_base.proofs.NumbersOf.{variable_or_not, unknown-zero, number_of_value-le}
use Rattle.cpg_base.proofs.Sums.{same_sum_by, sum_by-add}
use Rattle.cpg_cube.specs.Cube.{low_in, holds, matches}
use Rattle.cpg_cube.specs.declared.literal.Literal.{Literal}
use Rattle.cpg_cube.specs.Fit.{IsCube, asked_of_literal, is_open}
use Rattle.cpg_cube.specs.Bounds.{AreBounds, budget_left}
use Rattle.cpg_cover.specs.Fewest.{is_any_at, AreValues, Needs, beyond, IsOn, IsNarrow}
use Rattle.cpg_cube.proofs.Ranges.{range_of_literal}
use Rattle.cpg_cube.proofs.Boxes.{sum_of_counts}
use Rattle.cpg_cube.proofs.Budgets.{budget_some}
use Rattle.cpg_cube.proofs.CubeLows.{holds-high, low_in-le, budget_of_cube}
use Rattle.cpg_cube.proofs.Meeting.{small_variable, holds_where_spanned}
use Rattle.cpg_cover.proofs.FewestLaws.{held}

-- if f is 0 from a on, its sum up to b is its sum up to a
sum_short : (f : ℕ → ℕ) (a b : ℕ) → a ≤ b → ((v : ℕ) → a ≤ v → v < b → f v ≡ 0) →
    sum_by f (numbers_below b) ≡ sum_by f (numbers_below a)
-- by induction on `b`, and by whether `b` is below `a`
sum_short f a zero ordered zeros = let is_zero : a ≡ 0 = omega arith in
    ap (λ m. sum_by f (numbers_below m)) (sym is_zero)
sum_short f a (suc b) ordered zeros = ⊎_elim
    (λ (below_a : b < a). let same : suc b ≡ a = omega arith in ap (λ m. sum_by f (numbers_below m)) same)
    (λ (from_a : a ≤ b).
    let with_last : sum_by f (numbers_below (suc b)) ≡ sum_by f (numbers_below b) + f b =
    ap (λ m. sum_by f (numbers_below m)) (sym (add-one b)) ∙ ap (sum_by f) (below_push b) ∙
    sum_by_push f (numbers_below b) b in
    let so_far = sum_short f a b from_a (λ v past_a before_b. zeros v past_a (omega arith)) in
    let last_zero = zeros b from_a (omega arith) in
    let same_sum : sum_by f (numbers_below (suc b)) ≡ sum_by f (numbers_below a) = omega arith in same_sum)
    (cases_lt b a)

-- given: a cube with its bounds and the faults that it leaves, and a scenario that it matches
module _ (g : Graph) (limits : IsWithinLimits g) (cube : List Literal) (is : IsCube g cube) (low high : List ℕ)
    (are : AreBounds cube low high) (long : length low ≡ 256) (left : ℕ)
    (some : budget_left (is_open g.faults) asked_of_literal g.faults cube ≡ Some left) (s : Scenario)
    (lawful : IsScenario g s) (matched : matches cube s ≡ true) where
  -- no number of the scenario is below the cube's low
  low_le : (v : ℕ) → get_or low v 0 ≤ number_of s v
  -- for one of the 256 variables the bounds have the cube's low; past these they give 0
  low_le v = ⊎_elim
      (λ (small : v < 256). let low_is = are.low v small in let above_low = low_in-le cube s v matched in omega arith)
      (λ (large : 256 ≤ v). let is_zero = get_or_past low v 0 (omega arith) in omega arith)
      (cases_lt v 256)

  -- the numbers of a scenario that the cube matches are on the bounds of the cube
  pub is_on : IsOn low high left (number_of s)
  -- a spanning literal on a variable of the graph holds wherever the cube matches; any other variable has the number 0
  is_on = record {
    lows = low_le;
    spanned = λ l spans_l. ⊎_elim
        (λ (known : IsVariable g l.variable). holds_where_spanned g limits cube is low high are left some l known
        spans_l s lawful matched)
        (λ (unknown : IsVariable g l.variable → ⊥).
        let is_zero = unknown-zero g s lawful l.variable unknown in
        let low_below = leb-true l.low (get_or low l.variable 0)
        (and_parts (nat_le l.low (get_or low l.variable 0)) _ spans_l).0 in
        let above_low = low_le l.variable in
        held (number_of s) l (omega arith) (omega arith))
        (variable_or_not g l.variable);
  }

  -- no number is further beyond the low than the literal's range is wide
  narrow_at : (l : Literal) → Contains cube l → beyond low (number_of s) l.variable ≤ l.high - l.low
  narrow_at l member =
      let low_is = are.low l.variable
      (small_variable g limits l.variable (All-contains (λ m. IsVariable g m.variable) cube l is.known member)) in
      let range_low = (range_of_literal g.faults cube l is.rising member).0 in
      let below_high = holds-high s l (from_all (holds s) cube l matched member) in
      omega arith

  -- no number of the scenario is further beyond its low than the cube's range is wide
  pub is_narrow : IsNarrow low (number_of s) cube
  is_narrow k d inside = narrow_at (get_or cube k d) (Contains-get_or cube k d inside)

  -- beyond its low a value is at most 1
  beyond_values : AreValues (beyond low (number_of s))
  beyond_values v is_value =
      let number_is = cond-false (nat_lt v 128) (fault_of s v) (number_of_value (get_or s.values (v - 128) false))
      (le-ltb v 128 is_value) in
      let at_most_1 = number_of_value-le (get_or s.values (v - 128) false) in
      let value_is : number_of s v ≡ number_of_value (get_or s.values (v - 128) false) = number_is in
      omega arith

  -- What is beyond the lows and the lows together are the scenario's faults, which the budget bounds. The lows take
  -- what the cube asks for, so what is beyond is at most what is left.
  beyond_faults : (count : ℕ) → count ≡ 128 → sum_by (beyond low (number_of s)) (numbers_below count) ≤ left
  beyond_faults count is_128 =
      let processes = process_count g in
      let few = limits.few_processes in
      -- the scenario's faults, the budget, and what the cube leaves of it
      let counts_sum = sum_of_counts g few s lawful in
      let budget = lawful.budget in
      let lows_sum = budget_of_cube g few cube is in
      let left_is = (budget_some (is_open g.faults) asked_of_literal g.faults left cube some).1 in
      -- what is beyond the lows and the lows are the scenario's numbers
      let sum_split = sum_by-add (beyond low (number_of s)) (low_in cube) (numbers_below processes) in
      let numbers_sum = same_sum_by (λ v. beyond low (number_of s) v + low_in cube v) (number_of s)
      (numbers_below processes)
      (λ v member. let is_process = numbers-Contains processes v member in
      let low_is = are.low v (omega arith) in
      let above_low = low_le v in
      let split : beyond low (number_of s) v + low_in cube v ≡ number_of s v = omega arith in
      split) in
      -- a variable that isn't one of the graph has nothing beyond
      let sum_same = sum_short (beyond low (number_of s)) processes count (omega arith) (λ v past before.
      let is_zero = unknown-zero g s lawful v
      (⊎_elim (λ (is_process : v < processes). absurd (omega arith))
      (λ is_value. absurd (let value_bound = is_value.0 in omega arith))) in
      let nothing : beyond low (number_of s) v ≡ 0 = omega arith in nothing) in
      omega arith

  -- if what no cube matches takes more faults than are left, each scenario of the cube matches one of the list
  pub is_covered : {X : Type 0} (seen : X → List Literal) (by : List X) (cubes : List (List Literal)) (few : ℕ) →
      Needs cubes few → left < few
      → (is_any_at (beyond low (number_of s)) cubes ≡ true → list_any (λ b. matches (seen b) s) by ≡ true) →
      list_any (λ b. matches (seen b) s) by ≡ true
  is_covered seen by cubes few needs more keeps = ⊎_elim
      (λ (matches_one : list_any (λ b. matches (seen b) s) by ≡ true). matches_one)
      -- if the scenario matched none, what it has beyond the cube's lows would take more faults than are left
      (λ (matches_none : list_any (λ b. matches (seen b) s) by ≡ false).
      let off = false_from_ne_true (is_any_at (beyond low (number_of s)) cubes)
      (λ any_matched. both_ways _ matches_none (keeps any_matched)) in
      absurd (too_many 128 refl off))
      (cases_Bool (list_any (λ b. matches (seen b) s) by))
    where
      -- more faults beyond the lows than are left can't be, since the scenario has no more
      too_many : (count : ℕ) → count ≡ 128 → is_any_at (beyond low (number_of s)) cubes ≡ false → ⊥
      too_many count is_128 off =
          let needed = needs count is_128 (beyond low (number_of s)) beyond_values off in
          let at_most_left = beyond_faults count is_128 in
          omega arith
