-- The first scenario that passes a test, from answers to smaller questions.
use Rattle.std.proofs.Common.{ℕ, ◌≡◌, Bool, true, false, cond, ◌||◌, IsTrue, List, [], ◌∷◌, Contains, Option, Some}
use Rattle.std.proofs.Common.{None, refl, sym, ap, ◌∙◌, ⊎_elim, IsPermutation}
use Rattle.std.specs.List.{list_any}
use Rattle.std.proofs.lemmas.Bool.{both_ways, or_from, or_left, or_right, or_cases}
use Rattle.cpg_base.specs.Numbers.{numbers_below}
use Rattle.cpg_base.specs.Graph.{Graph, process_count}
use Rattle.cpg_base.proofs.Lists.{Contains-first, Contains-rest}
use Rattle.cpg_base.specs.Scenario.{Scenario, IsScenario, is_before}
use Rattle.cpg_base.specs.First.{IsFirst, earlier, first_of}
use Rattle.cpg_base.proofs.ScenarioOrder.{not_before_transitive, before_one_way, one_least}

-- given: a graph, and an order of its processes
module _ (g : Graph) (order : List ℕ) where
  -- if o is the first scenario that passes p, and q answers as p does, o is the first that passes q
  pub first_same : (p q : Scenario → Bool) (o : Option Scenario) → ((s : Scenario) → IsScenario g s → p s ≡ q s) →
      IsFirst g order p o →
      IsFirst g order q o
  first_same p q None alike is_first = λ s is_scenario. sym (alike s is_scenario) ∙ is_first s is_scenario
  first_same p q (Some s) alike is_first = record {
    lawful = is_first.lawful;
    holds = sym (alike s is_first.lawful) ∙ is_first.holds;
    least = λ t is_scenario passes. is_first.least t is_scenario (alike t is_scenario ∙ passes);
  }

  -- if no scenario passes a test, there is no first one
  pub first_none : (p : Scenario → Bool) → ((s : Scenario) → IsScenario g s → p s ≡ false) → IsFirst g order p None
  first_none p fail = fail

  -- if a is the first scenario that passes p, and b the first that passes q, the earlier of both is the first that
  -- passes p or q
  pub first_or : (p q : Scenario → Bool) (a b : Option Scenario) → IsFirst g order p a → IsFirst g order q b →
      IsFirst g order (λ s. p s || q s) (earlier g order a b)
  first_or p q None None p_fails q_fails =
      λ s is_scenario. or_from (p s) (q s) (p_fails s is_scenario) (q_fails s is_scenario)
  first_or p q None (Some t) p_fails q_first = record {
    lawful = q_first.lawful;
    holds = or_right (p t) (q t) q_first.holds;
    least =
        λ s is_scenario passes. ⊎_elim
        (λ (one_passes : p s ≡ true). absurd (both_ways (p s) (p_fails s is_scenario) one_passes))
        (λ (one_passes : q s ≡ true). q_first.least s is_scenario one_passes)
        (or_cases (p s) (q s) passes);
  }
  first_or p q (Some s) None p_first q_fails = record {
    lawful = p_first.lawful;
    holds = or_left (p s) (q s) p_first.holds;
    least =
        λ t is_scenario passes. ⊎_elim (λ (one_passes : p t ≡ true). p_first.least t is_scenario one_passes)
        (λ (one_passes : q t ≡ true). absurd (both_ways (q t) (q_fails t is_scenario) one_passes))
        (or_cases (p t) (q t) passes);
  }
  first_or p q (Some s) (Some t) p_first q_first = of_two (is_before g order t s) refl
    where
      -- by which of the two scenarios comes before the other; the earlier one is least by transitivity
      of_two : (b : Bool) → is_before g order t s ≡ b → IsFirst g order (λ u. p u || q u) (cond b (Some t) (Some s))
      of_two true t_before = record {
        lawful = q_first.lawful;
        holds = or_right (p t) (q t) q_first.holds;
        least = λ u is_scenario passes. ⊎_elim
            (λ (one_passes : p u ≡ true).
            not_before_transitive g order t s u (before_one_way g order t s t_before)
            (p_first.least u is_scenario one_passes))
            (λ (one_passes : q u ≡ true). q_first.least u is_scenario one_passes)
            (or_cases (p u) (q u) passes);
      }
      of_two false t_not_before = record {
        lawful = p_first.lawful;
        holds = or_left (p s) (q s) p_first.holds;
        least = λ u is_scenario passes. ⊎_elim
            (λ (one_passes : p u ≡ true). p_first.least u is_scenario one_passes)
            (λ (one_passes : q u ≡ true).
            not_before_transitive g order s t u t_not_before (q_first.least u is_scenario one_passes))
            (or_cases (p u) (q u) passes);
      }

  -- the first scenario that passes one of a list of tests is the earliest of theirs
  pub first_of_all : {X : Type 0} (test : X → Scenario → Bool) (answer : X → Option Scenario) (cs : List X) →
      ((c : X) → Contains cs c → IsFirst g order (test c) (answer c)) →
      IsFirst g order (λ s. list_any (λ c. test c s) cs) (first_of g order answer cs)
  first_of_all test answer [] each_first = λ s is_scenario. refl
  first_of_all test answer (c ∷ cs) each_first =
      first_or (test c) (λ s. list_any (λ d. test d s) cs) (answer c) (first_of g order answer cs)
      (each_first c (Contains-first c cs))
      (first_of_all test answer cs (λ d within. each_first d (Contains-rest c cs d within)))

  -- along an order of all processes a test has one answer: two that are the first are equal
  pub one_first : IsPermutation (numbers_below (process_count g)) order →
      (p : Scenario → Bool) (a b : Option Scenario) → IsFirst g order p a → IsFirst g order p b → a ≡ b
  one_first all p None None a_first b_first = refl
  one_first all p None (Some t) fails b_first = absurd (both_ways (p t) (fails t b_first.lawful) b_first.holds)
  one_first all p (Some s) None a_first fails = absurd (both_ways (p s) (fails s a_first.lawful) a_first.holds)
  one_first all p (Some s) (Some t) a_first b_first =
      ap Some (one_least g order all (λ u. IsTrue (p u)) s t a_first b_first)
