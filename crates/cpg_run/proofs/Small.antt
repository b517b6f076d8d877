-- The times of a run stay small if the frozen times are early.
use Rattle.std.proofs.Common.{◌≡◌, ◌∙◌, ℕ, ◌^◌, List, length, get_or, Option, None, unwrap_or, arith, ap, inl, inr}
use Rattle.std.proofs.lemmas.Bool.{cases_lt}
use Rattle.std.proofs.lemmas.List.{get_or_past}
use Rattle.std.proofs.lemmas.List.FromFn.{length-map-range_with_len}
use Rattle.cpg_base.specs.Graph.{Graph, process_count, item_count}
use Rattle.cpg_base.specs.Limits.{IsWithinLimits}
use Rattle.cpg_base.specs.Scenario.{IsScenario, Scenario}
use Rattle.cpg_order.specs.Urgency.{IsTopological}
use Rattle.cpg_order.proofs.Moments.{moment_before_last, end_before_last, last}
use Rattle.cpg_run.specs.Run.{Times, IsRun, time_in, end_in, time_by, end_by}
use Rattle.cpg_run.specs.Known.{AreEarly, AreSmall}
use Rattle.cpg_run.proofs.Rising.{AreLow, SmallBefore, small_before, last_le}

-- given: the run t of a scenario s under frozen times below 2 ^ 58 (`early`)
-- `within`: the graph is within the limits. `lawful`: s is a scenario of it. `early`: frozen times are small enough.
module _ (g : Graph) (order : List ℕ) (frozen : List (Option ℕ)) (s : Scenario) (t : Times) (within : IsWithinLimits g)
    (topological : IsTopological g order) (lawful : IsScenario g s)
    (early : AreEarly frozen) (run : IsRun g order frozen s t) where
  -- frozen times are early if they are below 2 ^ 58, so they are low above that base
  low : AreLow (2 ^ 58) g order frozen
  low = record { low = λ x time l e. omega (arith, early x time e) }

  -- all times before the last moment are at most its bound above that base
  at_last : SmallBefore (2 ^ 58) g order frozen s t (last g)
  at_last = small_before (2 ^ 58) g order frozen s t within topological lawful low run (last g)

  -- each time and each end of a run is below 2 ^ 59: one of the graph comes before the last moment, whose bound is below that, and
  -- any other is 0
  pub run_small : AreSmall t
  run_small = record {
    times = λ x. elim (cases_lt x (item_count g)) [
      | inl below_or_past ↦ omega (
        arith,
        at_last.items x below_or_past
            (moment_before_last g order topological x below_or_past),
        last_le g within,
      )
      | inr below_or_past ↦ let no_time : time_in t x ≡ 0 = ap (λ o. unwrap_or o 0)
          (get_or_past t.times x None (omega
          (arith, ap length run.times, length-map-range_with_len (time_by g order frozen s t) 0 (item_count g)))) in
          omega arith
    ];
    ends = λ p. elim (cases_lt p (process_count g)) [
      | inl below_or_past ↦ omega (
        arith,
        at_last.ends p below_or_past
            (end_before_last g order topological p below_or_past),
        last_le g within,
      )
      | inr below_or_past ↦ let no_time : end_in t p ≡ 0 = ap (λ o. unwrap_or o 0) (get_or_past t.ends p None
          (omega (arith, ap length run.ends, length-map-range_with_len (end_by g s t) 0 (process_count g)))) in
          omega arith
    ];
  }
