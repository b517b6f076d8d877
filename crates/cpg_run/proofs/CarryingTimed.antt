-- Carrying rows have the times of the runs. A column of theirs matches only if its item is active, so an item that is
-- never active has no column.
use Rattle.std.proofs.Common.{ℕ, ◌<◌, ◌≤◌, ◌≡◌, true, false, List, [], ◌∷◌, length, filter, get_or, Contains, Option}
use Rattle.std.proofs.Common.{None, option_to_list, arith, refl, sym, ap, ◌∙◌, subst, inl, inr}
use Rattle.std.proofs.lemmas.Bool.{cases_lt, both_ways}
use Rattle.std.proofs.lemmas.List.{get_or_past}
use Rattle.std.proofs.lemmas.List.Elements.{All-contains}
use Rattle.std.proofs.lemmas.List.FromFn.{length-map-range_with_len}
use Rattle.cpg_base.specs.Graph.{Graph, item_count, item_at}
use Rattle.cpg_base.specs.Activity.{item_active}
use Rattle.cpg_base.proofs.Lists.{Contains-first, Contains-map, Contains-filter, in_option}
use Rattle.cpg_base.specs.Scenario.{Scenario, IsScenario}
use Rattle.cpg_cube.specs.Cube.{matches}
use Rattle.cpg_merging.specs.Merged.{IsLeastMatch}
use Rattle.cpg_cube.specs.declared.column.Column.{Column}
use Rattle.cpg_cube.specs.Column.{times_in}
use Rattle.cpg_run.specs.Run.{Times, IsRun, time_by}
use Rattle.cpg_run.proofs.RunExists.{a_run}
use Rattle.cpg_run.proofs.Runs.{time_parts}
use Rattle.cpg_run.specs.Carried.{row_at}
use Rattle.cpg_run.specs.RowLaws.{IsTimed, HaveTimesOf}
use Rattle.cpg_run.specs.Carrying.{AreCarrying}

-- given: carrying rows
-- `timed`: the graph is admitted, and `frozen` has its frozen times. `all`: each row carries no more than it may.
module _ (g : Graph) (urgency order : List ℕ) (frozen : List (Option ℕ)) (timed : IsTimed g urgency order frozen)
    (rows : List (List Column)) (all : AreCarrying g urgency order frozen rows) where
  -- a number beyond the items has no columns
  row_past : (x : ℕ) → item_count g ≤ x → row_at rows x ≡ []
  row_past x at_most = get_or_past rows x [] (omega (arith, all.count, at_most))

  -- a number beyond the items has no time in a run
  time_past : (s : Scenario) (t : Times) → IsRun g order frozen s t → (x : ℕ) → item_count g ≤ x →
      get_or t.times x None ≡ None
  time_past s t run x at_most = get_or_past t.times x None
      (omega (
        arith,
        ap length run.times,
        length-map-range_with_len (time_by g order frozen s t) 0
            (item_count g),
        at_most,
      ))

  -- every row has the times of the runs
  pub carrying_times : (x : ℕ) → HaveTimesOf g order frozen x (row_at rows x)
  carrying_times x s t law run = elim (cases_lt x (item_count g)) [
    | inl less ↦ (all.each x less).times s t law run
    | inr past ↦ ap (λ cs. times_in cs s) (row_past x past) ∙ sym (ap option_to_list (time_past s t run x past))
  ]

  -- A column matches only in scenarios in which its item is active: the column's time is then the time that the run has for the
  -- item.
  pub carrying_active : (x : ℕ) (c : Column) → Contains (row_at rows x) c → (s : Scenario) → IsScenario g s →
      matches c.cube s ≡ true →
      (x < item_count g) ×
      (item_active g s.values (item_at g x) ≡ true)
  carrying_active x c in_row s law matched =
      let found_run = a_run g order frozen s timed.admitted.topological in
      let there = Contains-map (λ (c : Column). c.time) (filter (λ (c : Column). matches c.cube s) (row_at rows x)) c
      (Contains-filter (λ (c : Column). matches c.cube s) (row_at rows x) c matched in_row) in
      let parts = time_parts g order frozen s found_run.0 found_run.1 x c.time
      (in_option (get_or found_run.0.times x None) c.time
      (subst (λ ns. Contains ns c.time) (carrying_times x s found_run.0 law found_run.1) there)) in
      (parts.0, parts.1)

  -- an item that is active in no scenario has no column, as each column matches some scenario
  pub never_columns : (x : ℕ) → ((s : Scenario) → IsScenario g s → item_active g s.values (item_at g x) ≡ false) →
      row_at rows x ≡ []
  never_columns x never = elim (cases_lt x (item_count g)) [
    | inr past ↦ row_past x past
    | inl less ↦ empty (row_at rows x) (λ c j.
        let least = All-contains (λ (c : Column). (s : Scenario) × IsLeastMatch g urgency c s) (row_at rows x) c
        (all.each x less).met j in
        both_ways _ (never least.0 least.1.lawful) (carrying_active x c j least.0 least.1.lawful least.1.holds).1)
  ]
    where
      -- a list that contains no column is empty
      empty : (cs : List Column) → ((c : Column) → Contains cs c → ⊥) → cs ≡ []
      empty [] h = refl
      empty (c ∷ cs) h = absurd (h c (Contains-first c cs))
