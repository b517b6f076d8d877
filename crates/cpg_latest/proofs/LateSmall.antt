-- Under early frozen times the latest times are below 2 ^ 59: each is reached in a run, whose times are.
use Rattle.std.proofs.Common.{ℕ, ◌≡◌, ◌≤◌, Bool, List, [], length, Option, None, unwrap_or, arith, ap, inl, inr}
use Rattle.std.proofs.lemmas.Bool.{cases_lt}
use Rattle.std.proofs.lemmas.List.{get_or_past}
use Rattle.std.proofs.lemmas.List.FromFn.{length-map-range_with_len}
use Rattle.cpg_base.specs.Graph.{Graph, process_count, condition_count, item_count}
use Rattle.cpg_base.specs.Limits.{IsWithinLimits}
use Rattle.cpg_order.specs.Urgency.{IsTopological}
use Rattle.cpg_run.specs.Known.{AreEarly, AreSmall}
use Rattle.cpg_run.specs.Run.{Times, time_in, end_in, time_by}
use Rattle.cpg_run.proofs.Small.{run_small}
use Rattle.cpg_latest.specs.Latest.{AreLatest, with_faults, latest_end_by}
use Rattle.cpg_latest.specs.Laws.{AreReached}
use Rattle.cpg_latest.proofs.Reached.{are_reached}

-- given: the latest times of an outcome with n faults (`late n`), under frozen times below 2 ^ 58 (`early`)
module _ (g : Graph) (order : List ℕ) (frozen : List (Option ℕ)) (values : List Bool) (late : ℕ → Times)
    (within : IsWithinLimits g) (topological : IsTopological g order)
    (long : length values ≡ condition_count g) (early : AreEarly frozen) (are : AreLatest g order frozen values late)
    (n : ℕ) (few : n ≤ g.faults) where
  -- the latest times are reached in runs
  reached : AreReached g order frozen values late n
  reached = are_reached g order frozen values late topological long are n few

  -- the latest times are below 2 ^ 59: an item of the graph is no later than in some run, and any other has the time 0
  pub late_small : AreSmall (late n)
  late_small = record {
    times = λ at_most. elim (cases_lt at_most (item_count g)) [
      -- no later than in the run that reaches it
      | inl inside ↦
          let in_run = reached.items at_most inside in
          let small =
          run_small g order frozen (with_faults values in_run.faults) in_run.times within topological
          in_run.lawful early in_run.run in
          omega (arith, in_run.is, small.times at_most)
      | inr past ↦ let no_time : time_in (late n) at_most ≡ 0 = ap (λ o. unwrap_or o 0)
          (get_or_past (late n).times at_most None
          (omega (
            arith,
            ap length (are.times n few),
            length-map-range_with_len (time_by g order frozen (with_faults values []) (late n)) 0 (item_count g),
          ))) in omega arith
    ];
    -- a process of the graph ends no later than in some run, and any other has the end 0
    ends = λ at_most. elim (cases_lt at_most (process_count g)) [
      | inl l ↦
          let in_run = reached.ends at_most l in
          let small =
          run_small g order frozen (with_faults values in_run.faults) in_run.times within topological
          in_run.lawful early in_run.run in
          omega (arith, in_run.is, small.ends at_most)
      | inr past ↦ let no_end : end_in (late n) at_most ≡ 0 = ap (λ o. unwrap_or o 0)
          (get_or_past (late n).ends at_most None
          (omega (
            arith,
            ap length (are.ends n few),
            length-map-range_with_len (latest_end_by g late n) 0 (process_count g),
          ))) in omega arith
    ];
  }
