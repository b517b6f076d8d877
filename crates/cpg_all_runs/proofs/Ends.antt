-- The greatest of numbers that are read off runs, such as finishes, is that of all runs, with the least scenario that
-- has it.
use Rattle.std.proofs.Common.{◌≡◌, ◌≢◌, ◌∙◌, ℕ, ◌<◌, ◌≤◌, List, map, length, get_or, Contains, Option, Some, None}
use Rattle.std.proofs.Common.{IfSome, IfNone, arith, sym, ap, ap₂, subst, inl, inr}
use Rattle.std.proofs.lemmas.List.{get_or_default}
use Rattle.std.proofs.lemmas.Bool.{cases_lt}
use Rattle.cpg_base.specs.Numbers.{numbers_below}
use Rattle.cpg_base.specs.Graph.{Graph, process_count}
use Rattle.cpg_base.proofs.Lists.{Contains-map_parts, numbers-Contains, greatest_cases}
use Rattle.cpg_order.specs.Urgency.{IsTopological}
use Rattle.cpg_base.specs.Scenario.{Scenario, IsScenario, IsLeast, is_before}
use Rattle.cpg_run.specs.Run.{Times, IsRun}
use Rattle.cpg_run.specs.Finish.{IsLeastEnding, IsWorst, excess_of, excess_in_run, IsLeastExceeding, IsExcess}
use Rattle.cpg_run.proofs.Ends.{finish_is_end}
use Rattle.cpg_run.proofs.RunUnique.{run_unique}
use Rattle.cpg_all_runs.specs.Listing.{AreScenarios}
use Rattle.cpg_all_runs.specs.Peaks.{IsFirstGreatest, IsFirstEnding, IsFirstExceeding}
use Rattle.cpg_all_runs.specs.Runs.{AreRuns}
use Rattle.cpg_all_runs.proofs.Measured.{HasIn, AreMeasured, measured}

module _ (g : Graph) (order : List ℕ) (top : IsTopological g order) where
  -- given: the run t of a scenario s
  module _ (frozen : List (Option ℕ)) (s : Scenario) (t : Times) (run : IsRun g order frozen s t) where
    -- what the search finds is the least process that ends at the finish; it finds none only if there is no process,
    -- since else some process ends then
    pub ends_last : (by : Option ℕ) → IfSome by (λ p. IsFirstEnding t t.finish p) →
        IfNone by ((q : ℕ) → q < process_count g → get_or t.ends q None ≢ Some t.finish) →
        IsLeastEnding g t t.finish by
    ends_last None some none = elim (cases_lt 0 (process_count g)) [
      | inl pos ↦ let last_end = finish_is_end g order top frozen s t run pos in
          absurd (none last_end.0 last_end.1 last_end.2)
      | inr is_empty ↦ omega arith
    ]
    ends_last (Some p) some none = (some.ends, some.first)

  -- given: a number (`value`) that is read off each run, and the place `at` of the greatest (`is_first`)
  -- `all`: the list has each scenario once; `are_measured`: `numbers` has for each scenario the number of its run
  module _ (value : Times → ℕ) (urgency : List ℕ) (frozen : List (Option ℕ)) (list : List Scenario)
      (all : AreScenarios g list) (numbers : List ℕ) (are_measured : AreMeasured g order frozen value list numbers)
      (at : ℕ) (is_first : IsFirstGreatest g urgency (length list) list numbers at) where
    -- the number at the place of a scenario is that of its run, as it has just one
    number_is : (s : Scenario) (t : Times) (c : Contains list s) → IsRun g order frozen s t →
        get_or numbers c.0 0 ≡ value t
    number_is s t c run =
        let its_run = are_measured.each c.0 s c.1 in
        sym its_run.2 ∙ ap value (run_unique g order top frozen s its_run.0 t
        (subst (λ z. IsRun g order frozen z its_run.0) c.2 its_run.1) run)

    -- no run has a greater number than the one at that place, since each scenario is in the list
    pub peak_greatest : (s : Scenario) (t : Times) → IsScenario g s → IsRun g order frozen s t →
        value t ≤ get_or numbers at 0
    peak_greatest s t lawful run = let listed = all.all s lawful in
        omega (arith, is_first.most listed.0 listed.1, number_is s t listed run)

    -- the scenario at that place is the least one whose run has the greatest number
    pub peak_least : (s d : Scenario) → s ≡ get_or list at d →
        IsLeast g urgency (HasIn g order frozen value (get_or numbers at 0)) s
    peak_least s d is_at = record {
      lawful = all.lawful s (at, is_first.there, get_or_default list at s d is_first.there ∙ sym is_at);
      holds = subst (HasIn g order frozen value (get_or numbers at 0)) (sym is_at)
          (are_measured.each at d is_first.there);
      least = λ z lawful has.
          let listed = all.all z lawful in
          let not_before = is_first.first listed.0 z listed.1 (number_is z has.0 listed has.1 ∙ has.2) in
          sym (ap₂ (is_before g urgency) listed.2 (get_or_default list at z d is_first.there ∙ sym is_at)) ∙ not_before;
    }

  -- if some run of a scenario has the number n, each has, as it has just one
  one_number : (value : Times → ℕ) (frozen : List (Option ℕ)) (n : ℕ) (s : Scenario) (t : Times) →
      HasIn g order frozen value n s → IsRun g order frozen s t → value t ≡ n
  one_number value frozen n s t has run = ap value (run_unique g order top frozen s t has.0 run has.1) ∙ has.2

  -- given: the runs of all scenarios, a number of each, and the place `at` of the greatest number (`is_first`)
  -- `all`: the list has each scenario once; `are`: `runs` has the run of each; `scenario_at`, `run_at`: s is the
  -- scenario at that place, and t its run; `by`: the process to name, if there is one
  module _ (urgency : List ℕ) (frozen : List (Option ℕ)) (list : List Scenario) (all : AreScenarios g list)
      (runs : List Times) (are : AreRuns g order frozen list runs)
      (numbers : List ℕ) (at : ℕ) (is_first : IsFirstGreatest g urgency (length list) list numbers at) (s : Scenario)
      (t : Times) (scenario_at : (d : Scenario) → s ≡ get_or list at d)
      (run_at : (d : Times) → t ≡ get_or runs at d) (by : Option ℕ) where
    -- the run at that place is the run of the scenario there
    its_run : IsRun g order frozen s t
    its_run = subst (λ z. IsRun g order frozen z t) (sym (scenario_at s))
        (subst (IsRun g order frozen (get_or list at s)) (sym (run_at t)) (are.each at s t is_first.there))

    -- if the numbers are the finishes of the runs, what is found is the greatest finish
    pub is_worst : numbers ≡ map (λ u. u.finish) runs → IfSome by (λ p. IsFirstEnding t t.finish p) →
        IfNone by ((q : ℕ) → q < process_count g → get_or t.ends q None ≢ Some t.finish) →
        IsWorst g urgency order frozen (get_or numbers at 0) s by
    is_worst is some none =
        let are_measured = measured g order frozen (λ u. u.finish) list runs numbers are is in
        let least = peak_least (λ u. u.finish) urgency frozen list all numbers are_measured at is_first s s
        (scenario_at s) in
        record {
          greatest = peak_greatest (λ u. u.finish) urgency frozen list all numbers are_measured at is_first;
          least = least;
          by = λ u run. subst (λ n. IsLeastEnding g u n by)
              (one_number (λ v. v.finish) frozen (get_or numbers at 0) s u least.holds run)
              (subst (λ (v : Times). IsLeastEnding g v v.finish by) (run_unique g order top frozen s t u its_run run)
              (ends_last frozen s t its_run by some none));
        }

    -- if the numbers are the excesses of the runs, what is found is the greatest excess
    pub is_excess : numbers ≡ map (excess_in_run g) runs → IsLeastExceeding g t (excess_in_run g t) by →
        IsExcess g urgency order frozen (get_or numbers at 0) s by
    is_excess is exceeds =
        let are_measured = measured g order frozen (excess_in_run g) list runs numbers are is in
        let least = peak_least (excess_in_run g) urgency frozen list all numbers are_measured at is_first s s
        (scenario_at s) in
        record {
          greatest = peak_greatest (excess_in_run g) urgency frozen list all numbers are_measured at is_first;
          least = least;
          by = λ u run. subst (λ n. IsLeastExceeding g u n by)
              (one_number (excess_in_run g) frozen (get_or numbers at 0) s u least.holds run)
              (subst (λ (v : Times). IsLeastExceeding g v (excess_in_run g v) by)
              (run_unique g order top frozen s t u its_run run) exceeds);
        }

-- if the greatest excess isn't 0, some process has it, so the search finds the least one
pub least_exceeding : (g : Graph) (t : Times) (by : Option ℕ) → 0 < excess_in_run g t →
    IfSome by (IsFirstExceeding g t (excess_in_run g t)) →
    IfNone by ((q : ℕ) → q < process_count g → excess_of g t q ≢ excess_in_run g t) →
    IsLeastExceeding g t (excess_in_run g t) by
least_exceeding g t None some found none =
    elim (greatest_cases (map (excess_of g t) (numbers_below (process_count g)))) [
      | inl is_zero ↦ is_zero
      | inr listed ↦ let its_process =
          Contains-map_parts (excess_of g t) (numbers_below (process_count g)) (excess_in_run g t) listed in
          absurd (none its_process.0 (numbers-Contains (process_count g) its_process.0 its_process.1) its_process.2)
    ]
least_exceeding g t (Some p) some found none = (some, found.has, found.first)
