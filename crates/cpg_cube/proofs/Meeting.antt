-- The answers that the bounds of a cube give, for graphs within their limits.
use Rattle.std.proofs.Common.{ℕ, ◌+◌, ◌<◌, ◌≤◌, ◌≡◌, max, true, false, not, ◌&&◌, List, [], ◌∷◌, get_or, sum_by, None}
use Rattle.std.proofs.Common.{Some, arith, sym, ap, ap₂, ◌∙◌, le-leb, leb-true, ⊎_elim}
use Rattle.std.specs.Prelude.{nat_lt, nat_le, is_some}
use Rattle.std.specs.List.{list_all}
use Rattle.std.proofs.lemmas.List.Elements.{All-cons, All-nil}
use Rattle.std.proofs.lemmas.Bool.{and_parts, and_from, or_left, both_ways, false_from_ne_true, not_from_false}
use Rattle.cpg_base.specs.Numbers.{numbers_below}
use Rattle.cpg_base.specs.Graph.{Graph, process_count, condition_count, value_variable, IsVariable}
use Rattle.cpg_base.specs.Limits.{IsWithinLimits}
use Rattle.cpg_base.proofs.Lists.{same_map, numbers-Contains, from_all, all_from}
use Rattle.cpg_base.proofs.Sums.{sum_by-le_each}
use Rattle.cpg_base.specs.Scenario.{Scenario, IsScenario}
use Rattle.cpg_cube.specs.Cube.{Literal, holds, matches, low_in}
use Rattle.cpg_cube.specs.Fit.{IsCube, asked_of_literal, asked_faults, is_open, is_met, scenario_of, both_low, reaches}
use Rattle.cpg_cube.specs.Fit.{do_meet, both_lows, bounds, is_within}
use Rattle.cpg_cube.specs.Bounds.{AreBounds, AreRaised, budget_left, touches, more_asked, spans}
use Rattle.cpg_cube.proofs.CubeLows.{met_by, budget_of_cube}
use Rattle.cpg_cube.proofs.Budgets.{budget_is, budget_some}
use Rattle.cpg_cube.proofs.Within.{within_from}
use Rattle.cpg_cube.proofs.BoundLaws.{fits_is_meet, spans_is_within}

-- ---- what is left of the faults

-- the budget of k faults is enough for a cube's literals exactly if the cube is met
pub met_is : (k : ℕ) (cube : List Literal) → is_some (budget_left (is_open k) asked_of_literal k cube) ≡ is_met k cube
met_is k cube = budget_is (is_open k) asked_of_literal k cube

-- a cube is not met if the budget is not enough
pub met_from_none : (k : ℕ) (cube : List Literal) → budget_left (is_open k) asked_of_literal k cube ≡ None →
    is_met k cube ≡ false
met_from_none k cube is_none = sym (met_is k cube) ∙ ap is_some is_none

-- a cube is met if the budget is enough for its literals
pub met_from_some : (k left : ℕ) (cube : List Literal) → budget_left (is_open k) asked_of_literal k cube ≡ Some left →
    is_met k cube ≡ true
met_from_some k left cube left_is = sym (met_is k cube) ∙ ap is_some left_is

-- what the bounds leave and what the cube asks for are all faults
rest_from_some : (k left : ℕ) (cube : List Literal) → budget_left (is_open k) asked_of_literal k cube ≡ Some left →
    left + asked_faults cube ≡ k
rest_from_some k left cube left_is = (budget_some (is_open k) asked_of_literal k left cube left_is).1

-- ---- variables

-- the variables of a graph within its limits are below 256
pub small_variable : (g : Graph) → IsWithinLimits g → (v : ℕ) → IsVariable g v → v < 256
small_variable g limits v is_variable =
    let few_counts = limits.few_processes in
    let few_values = limits.few_conditions in
    ⊎_elim (λ (is_count : v < process_count g). omega arith)
    (λ (is_value : (128 ≤ v) × (v < 128 + condition_count g)). omega (arith, is_value.1)) is_variable

-- ---- scenarios of lows

-- if f and h agree below 256, they make the same scenario of the graph
pub same_scenario : (g : Graph) → IsWithinLimits g → (f h : ℕ → ℕ) → ((v : ℕ) → v < 256 → f v ≡ h v) →
    scenario_of g f ≡ scenario_of g h
-- the values and the counts are made of numbers of variables, which are all below 256
same_scenario g limits f h same = ap₂ (λ v c. let s : Scenario = record { values = v; faults = c } in s)
    (same_map (λ c. nat_lt 0 (f (value_variable c))) (λ c. nat_lt 0 (h (value_variable c)))
    (numbers_below (condition_count g))
    (λ c member. let below = numbers-Contains (condition_count g) c member in
    let few_values = limits.few_conditions in
    ap (nat_lt 0) (same (value_variable c) (omega arith))))
    (same_map f h (numbers_below (process_count g))
    (λ p member. let below = numbers-Contains (process_count g) p member in let few_counts = limits.few_processes in
    same p (omega arith)))

-- given: a graph within its limits, and a cube of it
module _ (g : Graph) (limits : IsWithinLimits g) (a : List Literal) (is_a : IsCube g a) where
  -- a cube that isn't met matches no scenario of the graph
  pub unmatched : is_met g.faults a ≡ false → (s : Scenario) → IsScenario g s → matches a s ≡ false
  unmatched unmet s lawful = false_from_ne_true (matches a s)
      (λ matched. both_ways (is_met g.faults a) unmet (met_by g limits.few_processes a is_a s lawful matched))

  -- a cube that isn't met matches no scenario together with another
  pub apart_where_unmet : (b : List Literal) → is_met g.faults a ≡ false → (s : Scenario) → IsScenario g s →
      (matches a s && matches b s) ≡ false
  apart_where_unmet b unmet s lawful = ap (λ x. x && matches b s) (unmatched unmet s lawful)

  -- a cube that isn't met meets no other
  pub meet_where_unmet : (b : List Literal) → is_met g.faults a ≡ false → do_meet g a b ≡ false
  -- if they met, no literal of a would be empty, and a's lows, which are no more than the greater ones, would be within
  -- the faults: so a would be met
  meet_where_unmet b unmet = false_from_ne_true (do_meet g a b) (λ meets.
      let parts = and_parts (list_all (reaches g.faults b) a && list_all (reaches g.faults a) b)
      (nat_le (sum_by (both_low a b) (numbers_below (process_count g))) g.faults) meets in
      let reach = and_parts (list_all (reaches g.faults b) a) (list_all (reaches g.faults a) b) parts.0 in
      let within_faults = leb-true _ _ parts.1 in
      let asked_is = budget_of_cube g limits.few_processes a is_a in
      let sum_above = sum_by-le_each (low_in a) (both_low a b) (numbers_below (process_count g))
      (λ v member. omega arith) in
      both_ways (is_met g.faults a) unmet (and_from (list_all (is_open g.faults) a) (nat_le (asked_faults a) g.faults)
      (all_from (is_open g.faults) a (λ l member. (and_parts (is_open g.faults l) (nat_le (low_in b l.variable) l.high)
      (from_all (reaches g.faults b) a l reach.0 member)).0))
      (le-leb _ _ (omega arith))))

  -- a cube that isn't met lies within every other
  pub within_where_unmet : (b : List Literal) → is_met g.faults a ≡ false → is_within g.faults a b ≡ true
  within_where_unmet b unmet =
      or_left (not (is_met g.faults a)) (list_all (bounds g.faults a) b) (not_from_false (is_met g.faults a) unmet)

  -- given: a second cube of the graph
  module _ (b : List Literal) (is_b : IsCube g b) where
    -- given: the bounds of the cube, and the faults that it leaves
    module _ (lows_of highs_of : List ℕ) (are : AreBounds a lows_of highs_of) (left : ℕ)
        (some : budget_left (is_open g.faults) asked_of_literal g.faults a ≡ Some left) where
      -- the other cube fits beside the bounds, with the faults that are left, exactly if the two meet
      pub meet_from_fit : is_some (budget_left (touches g.faults lows_of highs_of) (more_asked lows_of) left b)
          ≡ do_meet g a b
      meet_from_fit =
          let small = limits.faults in
          fits_is_meet g limits.few_processes a is_a lows_of highs_of are limits.few_conditions (omega arith)
          (met_from_some g.faults left a some) left (rest_from_some g.faults left a some) b is_b

      -- the other cube's literals span the bounds exactly if the cube lies within the other
      pub within_from_span : list_all (spans lows_of highs_of left) b ≡ is_within g.faults a b
      within_from_span =
          let small = limits.faults in
          spans_is_within g limits.few_processes a is_a lows_of highs_of are limits.few_conditions (omega arith)
          (met_from_some g.faults left a some) left (rest_from_some g.faults left a some) b is_b

      -- the lows raised by the other cube make the scenario of the greater of both lows
      pub lows_raised : (later : List ℕ) → AreRaised b lows_of later →
          scenario_of g (λ v. get_or later v 0) ≡ both_lows g a b
      lows_raised later raised = same_scenario g limits (λ v. get_or later v 0) (both_low a b)
          (λ v small. raised v small ∙ ap (λ x. max x (low_in b v)) (are.low v small))

  -- a literal that has all numbers of its variable holds wherever the cube matches
  pub holds_where_spanned : (lows_of highs_of : List ℕ) (are : AreBounds a lows_of highs_of) (left : ℕ)
      (some : budget_left (is_open g.faults) asked_of_literal g.faults a ≡ Some left)
      (l : Literal) → IsVariable g l.variable → spans lows_of highs_of left l ≡ true → (s : Scenario) → IsScenario g s →
      matches a s ≡ true → holds s l ≡ true
  -- the literal alone is a cube, in which a lies since its literal spans a's bounds
  holds_where_spanned lows_of highs_of are left some l known span s lawful matched =
      let one : IsCube g (l ∷ []) = record {
        rising = λ i j d less inside. absurd (omega arith);
        known = All-cons (λ m. IsVariable g m.variable) l [] known (All-nil (λ m. IsVariable g m.variable));
      } in
      let within : is_within g.faults a (l ∷ []) ≡ true =
      sym (within_from_span (l ∷ []) one lows_of highs_of are left some) ∙ ap (λ b. b && true) span in
      (and_parts (holds s l) true (within_from g limits.few_processes a (l ∷ []) is_a one within s lawful matched)).0
