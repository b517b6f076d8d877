-- If the trees give the ends of all runs, the peak of the ends is the greatest finish, and the peak of the excesses
-- the greatest excess.
use Rattle.std.proofs.Common.{◌≡◌, ◌∙◌, ℕ, ◌-◌, ◌<◌, ◌≤◌, ◌⊎◌, false, nat_lt, List, map, length, get_or, All, Option}
use Rattle.std.proofs.Common.{Some, None, unwrap_or, arith, sym, ap, subst, inl, inr, lt-ltb, le-ltb}
use Rattle.std.proofs.lemmas.Option.{none-some, same_Some}
use Rattle.std.proofs.lemmas.Bool.{cases_lt, cond-true, cond-false}
use Rattle.std.proofs.lemmas.List.Elements.{All-get_or}
use Rattle.cpg_base.specs.Numbers.{numbers_below}
use Rattle.cpg_base.specs.Graph.{Graph, process_count}
use Rattle.cpg_base.specs.Duration.{due}
use Rattle.cpg_base.proofs.Lists.{numbers-Contains, Contains-numbers, Contains-map, Contains-map_parts, greatest_above}
use Rattle.cpg_base.proofs.Lists.{greatest_cases}
use Rattle.cpg_order.specs.Urgency.{IsTopological}
use Rattle.cpg_base.specs.Scenario.{Scenario, IsScenario, IsLeast, is_before}
use Rattle.cpg_run.specs.Run.{Times, IsRun}
use Rattle.cpg_run.specs.Finish.{IsLeastEnding, IsWorst, excess_of, excess_in_run, IsLeastExceeding, IsExcess}
use Rattle.cpg_run.proofs.Ends.{end_below, finish_is_end, finish_of_none}
use Rattle.cpg_run.proofs.RunExists.{a_run}
use Rattle.cpg_run.proofs.ZeroScenario.{zero_lawful, zero_first}
use Rattle.cpg_tree.specs.Tree.{TreeState}
use Rattle.cpg_tree.specs.GraphTrees.{IsTree}
use Rattle.cpg_tree.specs.GraphTrees.{no_tree}
use Rattle.cpg_tree_columns.specs.Past.{time_past}
use Rattle.cpg_tree_columns.specs.Peaks.{tree_at, EndsAt, EndsPast, IsPeakBy, IsPeak}
use Rattle.cpg_core.specs.RunEnds.{GiveEnds}
use Rattle.cpg_tree_columns.specs.declared.measuring.Peak.{Peak}
use Rattle.cpg_tree.proofs.OnePath.{scenario_few, the_path}
use Rattle.cpg_tree_columns.proofs.PeaksGrow.{past_end}

-- ---- how far a time is past its due

-- a time that is past its due by x is x later, and x isn't 0
past_is : (o : Option ℕ) (due x : ℕ) → time_past due o ≡ Some x → (0 < x) × (unwrap_or o 0 - due ≡ x)
past_is None due x is_x = absurd (none-some x is_x)
past_is (Some end) due x is_x = elim (cases_lt due end) [
  | inl late ↦ let by_x : end - due ≡ x =
      same_Some _ _ (sym (cond-true (nat_lt due end) (Some (end - due)) None (lt-ltb due end late)) ∙ is_x) in
      (omega (arith, late, by_x), by_x)
  | inr in_time ↦ absurd (none-some x
      (sym (cond-false (nat_lt due end) (Some (end - due)) None (le-ltb due end in_time)) ∙ is_x))
]

-- the other way: a time that is later than the due by x, which isn't 0, is past it by x
past_from : (o : Option ℕ) (due x : ℕ) → 0 < x → unwrap_or o 0 - due ≡ x → time_past due o ≡ Some x
past_from None due x pos is_x = absurd (omega (arith, pos, is_x))
past_from (Some end) due x pos is_x =
    cond-true (nat_lt due end) (Some (end - due)) None (lt-ltb due end (omega (arith, pos, is_x)))
    ∙ ap (λ n. Some n) is_x

-- ---- a number of each run that is the greatest of numbers of its processes

-- given: a topological order, and frozen times
module _ (g : Graph) (order : List ℕ) (top : IsTopological g order) (frozen : List (Option ℕ)) where
  -- `most t` is the greatest of the values that processes have in run t, and 0 if none has one
  record IsMost (value : Times → ℕ → Option ℕ) (most : Times → ℕ) : Type 0 where
    -- no process has a greater value
    pub above : (s : Scenario) (t : Times) → IsRun g order frozen s t → (q x : ℕ) → q < process_count g →
        value t q ≡ Some x → x ≤ most t
    -- it is 0, or some process's
    pub either : (s : Scenario) (t : Times) → IsRun g order frozen s t →
        (most t ≡ 0) ⊎ ((q : ℕ) × (q < process_count g) × (value t q ≡ Some (most t)))
    -- if some process has the same number in any run, some process of this run has it
    pub reached : (s : Scenario) (t u : Times) → IsRun g order frozen s t → (p : ℕ) → p < process_count g →
        value u p ≡ Some (most t) →
        (q : ℕ) × (q < process_count g) × (value t q ≡ Some (most t))

  -- what `has` says of a scenario is what `value` says of its run
  record AreValues (value : Times → ℕ → Option ℕ) (has : ℕ → ℕ → Scenario → Type 0) : Type 0 where
    -- what a process has in a scenario is its value in the run
    pub into : (s : Scenario) (t : Times) → IsScenario g s → IsRun g order frozen s t → (q x : ℕ) →
        q < process_count g → has q x s →
        value t q ≡ Some x
    -- and the other way
    pub from : (s : Scenario) (t : Times) → IsScenario g s → IsRun g order frozen s t → (q x : ℕ) →
        q < process_count g → value t q ≡ Some x → has q x s

  -- the run of some scenario has the number
  abbrev RunHas : (Times → ℕ) → ℕ → Scenario → Type 0
  RunHas most n s = (t : Times) × IsRun g order frozen s t × (most t ≡ n)

  -- given: a value of each process in a run, the greatest of these, and a peak
  -- `value`, `most`, `is_most`: the value of each process in a run, and the greatest; `has`, `are`: these values by
  -- scenario
  module _ (value : Times → ℕ → Option ℕ) (most : Times → ℕ) (is_most : IsMost value most)
      (has : ℕ → ℕ → Scenario → Type 0)
      (are : AreValues value has) (urgency : List ℕ) (peak : Peak) where
    -- no run has a greater number than the peak's time
    run_below : (o : Option ℕ) → IsPeakBy g urgency (process_count g) has peak o → (s : Scenario) (t : Times) →
        IsScenario g s → IsRun g order frozen s t →
        most t ≤ peak.time
    run_below None is_peak s t law run = elim (is_most.either s t run) [
      | inl is_none ↦ omega (arith, is_none)
      | inr has_it ↦ absurd (is_peak.none has_it.0 (most t) s has_it.1 law
          (are.from s t law run has_it.0 (most t) has_it.1 has_it.2))
    ]
    run_below (Some p) is_peak s t law run = elim (is_most.either s t run) [
      | inl is_none ↦ omega (arith, is_none)
      | inr has_it ↦ is_peak.most has_it.0 (most t) s has_it.1 law
          (are.from s t law run has_it.0 (most t) has_it.1 has_it.2)
    ]

    -- the peak's scenario is the first one whose run has the greatest value: if no process has the peak, all values
    -- are 0 and the first scenario of all is the one; otherwise it is the first in which that process has the value
    run_least : (o : Option ℕ) → IsPeakBy g urgency (process_count g) has peak o →
        IsLeast g urgency (RunHas most peak.time) peak.scenario
    run_least None is_peak =
        -- no process has a value: the first scenario of all, whose greatest value is 0
        let law : IsScenario g peak.scenario = subst (IsScenario g) (sym is_peak.scenario) (zero_lawful g) in
        let its_run = a_run g order frozen peak.scenario top in
        record {
          lawful = law;
          holds = (
            its_run.0,
            its_run.1,
            omega (arith, run_below None is_peak peak.scenario its_run.0 law its_run.1, is_peak.time),
          );
          least = λ u lawful other_run. subst (λ z. is_before g urgency u z ≡ false) (sym is_peak.scenario)
              (zero_first g urgency u);
        }
    run_least (Some p) is_peak =
        -- process p has the greatest value, in the peak's scenario
        let law = is_peak.least.lawful in
        let its_run = a_run g order frozen peak.scenario top in
        let there = are.into peak.scenario its_run.0 law its_run.1 p peak.time is_peak.there is_peak.is in
        record {
          lawful = law;
          holds = (
            its_run.0,
            its_run.1,
            omega (
              arith,
              run_below (Some p) is_peak peak.scenario its_run.0 law its_run.1,
              is_most.above peak.scenario its_run.0 its_run.1 p peak.time is_peak.there there,
            ),
          );
          least = λ u lawful other_run.
              -- a run with as great a value has it by some process, so its scenario doesn't come before
              let its_process = is_most.reached u other_run.0 its_run.0 other_run.1 p is_peak.there
              (there ∙ ap (λ n. Some n) (sym other_run.2)) in
              is_peak.least.least u lawful (
                its_process.0,
                its_process.1,
                subst (λ n. has its_process.0 n u) other_run.2
                    (are.from u other_run.0 lawful other_run.1 its_process.0 (most other_run.0) its_process.1
                    its_process.2),
              );
        }

  -- ---- ends

  -- the finish of a run is the greatest of its ends
  ends_most : IsMost (λ t q. get_or t.ends q None) (λ t. t.finish)
  ends_most = record {
    above = λ s t run q x below has_end. end_below g order frozen s t run q x has_end;
    either = λ s t run. elim (cases_lt 0 (process_count g)) [
      | inl pos ↦ inr (finish_is_end g order top frozen s t run pos)
      | inr not_less ↦ inl (finish_of_none g order top frozen s t run (omega (arith, not_less)))
    ];
    reached = λ s t u run p below has_end. finish_is_end g order top frozen s t run (omega (arith, below));
  }

  -- ---- how far ends are past their dues

  -- by how much a process ends past its due in a run, if it does
  abbrev past_of : Times → ℕ → Option ℕ
  past_of t q = time_past (due g q) (get_or t.ends q None)

  -- the excess of a run is 0, or that of one of its processes
  past_either : (t : Times) →
      (excess_in_run g t ≡ 0) ⊎ ((q : ℕ) × (q < process_count g) × (past_of t q ≡ Some (excess_in_run g t)))
  -- the excess is the greatest of a list, so it is 0 or in the list
  past_either t = elim (cases_lt 0 (excess_in_run g t)) [
    | inr is_zero ↦ inl (omega (arith, is_zero))
    | inl pos ↦ elim (greatest_cases (map (excess_of g t) (numbers_below (process_count g)))) [
      | inl is_zero ↦ inl is_zero
      | inr listed ↦
          let found = Contains-map_parts (excess_of g t) (numbers_below (process_count g)) (excess_in_run g t) listed in
          inr (
            found.0,
            numbers-Contains (process_count g) found.0 found.1,
            past_from (get_or t.ends found.0 None) (due g found.0) (excess_in_run g t) pos found.2,
          )
    ]
  ]

  -- the excess of a run is the greatest of those of its processes
  past_most : IsMost past_of (excess_in_run g)
  past_most = record {
    above = λ s t run q x below past.
        let there =
        Contains-map (excess_of g t) (numbers_below (process_count g)) q (Contains-numbers (process_count g) q below) in
        omega (
          arith,
          greatest_above (map (excess_of g t) (numbers_below (process_count g))) (excess_of g t q) there,
          (past_is (get_or t.ends q None) (due g q) x past).1,
        );
    either = λ s t run. past_either t;
    reached = λ s t u run p below past. elim (past_either t) [
      | inl is_zero ↦ absurd (omega (
        arith,
        is_zero,
        (past_is (get_or u.ends p None) (due g p) (excess_in_run g t) past).0,
      ))
      | inr found ↦ found
    ];
  }

  -- ---- of trees

  -- given: trees that give the ends of all runs
  module _ (trees : List (TreeState (Option ℕ))) (all : All (IsTree g) trees) (count : length trees ≡ process_count g)
      (support : GiveEnds g order frozen trees) where
    -- each process has a tree of its ends
    tree_of : (q : ℕ) → q < process_count g → IsTree g (tree_at g trees q)
    tree_of q below = All-get_or (IsTree g) trees q (no_tree g.faults) (omega (arith, below, count)) all

    -- the trees' values are the ends of the runs
    ends_values : AreValues (λ t q. get_or t.ends q None) (EndsAt g trees)
    ends_values = record {
      into = λ s t law run q x below valued. sym (support s t law run q below valued.0 valued.1) ∙ valued.2;
      from = λ s t law run q x below has_end.
          let path = the_path g.faults (tree_at g trees q).paths (tree_of q below).each s (scenario_few g s law) in
          (path.0, path.1, support s t law run q below path.0 path.1 ∙ has_end);
    }

    -- so how far these are past the dues is how far the runs' ends are
    past_values : AreValues past_of (EndsPast g trees)
    past_values = record {
      into = λ s t law run q x below past. ap (time_past (due g q)) (ends_values.into s t law run q past.0 below past.1)
          ∙ past.2;
      from = λ s t law run q x below past.
          let its_end = past_end (get_or t.ends q None) (due g q) x past in (
            its_end.0,
            ends_values.from s t law run q its_end.0 below its_end.1,
            ap (time_past (due g q)) (sym its_end.1) ∙ past,
          );
    }

    -- given: an urgency order, and a peak
    module _ (urgency : List ℕ) (peak : Peak) where
      -- the process of the peak is the least one that ends at its time
      ends_by : (o : Option ℕ) → IsPeakBy g urgency (process_count g) (EndsAt g trees) peak o → (t : Times) →
          IsRun g order frozen peak.scenario t →
          IsLeastEnding g t peak.time o
      -- without a peak there are no processes, as one of them would end at the finish
      ends_by None is_peak t run = elim (cases_lt 0 (process_count g)) [
        | inl pos ↦
            let law : IsScenario g peak.scenario = subst (IsScenario g) (sym is_peak.scenario) (zero_lawful g) in
            let last_end = finish_is_end g order top frozen peak.scenario t run pos in
            absurd (is_peak.none last_end.0 t.finish peak.scenario last_end.1 law
            (ends_values.from peak.scenario t law run last_end.0 t.finish last_end.1 last_end.2))
        | inr none ↦ omega (arith, none)
      ]
      ends_by (Some p) is_peak t run =
          let law = is_peak.least.lawful in (
            ends_values.into peak.scenario t law run p peak.time is_peak.there is_peak.is,
            λ q sooner ends. is_peak.first q sooner
                (ends_values.from peak.scenario t law run q peak.time (omega (arith, sooner, is_peak.there)) ends),
          )

      -- the process of the peak is the least one that exceeds by its time
      past_by : (o : Option ℕ) → IsPeakBy g urgency (process_count g) (EndsPast g trees) peak o → (t : Times) →
          IsRun g order frozen peak.scenario t →
          IsLeastExceeding g t peak.time o
      -- an excess above 0 is how far an end is past its due
      past_by None is_peak t run = is_peak.time
      past_by (Some p) is_peak t run =
          let law = is_peak.least.lawful in
          let late = past_is (get_or t.ends p None) (due g p) peak.time
          (past_values.into peak.scenario t law run p peak.time is_peak.there is_peak.is) in (
            late.0,
            late.1,
            λ q sooner past. is_peak.first q sooner
                (past_values.from peak.scenario t law run q peak.time (omega (arith, sooner, is_peak.there))
                (past_from (get_or t.ends q None) (due g q) peak.time late.0 past)),
          )

      -- the peak of the ends is the greatest finish
      pub peak_is_worst : IsPeak g urgency (process_count g) (EndsAt g trees) peak →
          IsWorst g urgency order frozen peak.time peak.scenario peak.process
      peak_is_worst is_peak = record {
        greatest = run_below (λ t q. get_or t.ends q None) (λ t. t.finish) ends_most
            (EndsAt g trees) ends_values urgency peak peak.process is_peak;
        least = run_least (λ t q. get_or t.ends q None) (λ t. t.finish) ends_most
            (EndsAt g trees) ends_values urgency peak peak.process is_peak;
        by = ends_by peak.process is_peak;
      }

      -- the peak of what is past the dues is the greatest excess
      pub peak_is_excess : IsPeak g urgency (process_count g) (EndsPast g trees) peak →
          IsExcess g urgency order frozen peak.time peak.scenario peak.process
      peak_is_excess is_peak = record {
        greatest =
            run_below past_of (excess_in_run g) past_most (EndsPast g trees) past_values urgency peak peak.process
            is_peak;
        least =
            run_least past_of (excess_in_run g) past_most (EndsPast g trees) past_values urgency peak peak.process
            is_peak;
        by = past_by peak.process is_peak;
      }
