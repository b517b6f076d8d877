-- A run with at most n faults is no later than the latest times of its outcome with n faults: by induction on the moments in
-- which the times of a run follow from each other.
use Rattle.std.proofs.Common.{◌≡◌, ℕ, zero, suc, ◌+◌, ◌-◌, ◌<◌, ◌≤◌, ltb, lt-ltb, le-ltb, ltb-true, List, get_or, map}
use Rattle.std.proofs.Common.{sum, Option, None, option_to_list, arith, inl, inr}
use Rattle.std.proofs.lemmas.Bool.{cases_Bool}
use Rattle.cpg_base.specs.Numbers.{numbers_below}
use Rattle.cpg_base.specs.Graph.{Graph, process_count, item_count, item_at}
use Rattle.cpg_base.specs.Activity.{item_active}
use Rattle.cpg_base.specs.Scenario.{Scenario, fault_of}
use Rattle.cpg_base.proofs.Lists.{greatest-cons, greatest_above, Contains-map, Contains-numbers}
use Rattle.cpg_order.specs.Urgency.{IsTopological}
use Rattle.cpg_order.proofs.Moments.{moment, moment_of_end, moment_of_start, moment_before_last, end_before_last, last}
use Rattle.cpg_run.specs.Run.{Times, IsRun, time_in, end_in, unfrozen_time}
use Rattle.cpg_run.proofs.Runs.{time_in_active, end_active, acts_start}
use Rattle.cpg_latest.specs.Latest.{AreLatest, end_with}
use Rattle.cpg_latest.specs.Laws.{IsNoLater}
use Rattle.cpg_latest.proofs.Faults.{spent, spent-le, spent-more, spent-one}
use Rattle.cpg_latest.proofs.LateTimes.{late_active, late_end_active}
use Rattle.cpg_latest.proofs.RunsGrow.{time_inactive, end_inactive}
use Rattle.cpg_latest.proofs.Rests.{Cause, Cause.fixed, Cause.item, Cause.ended, IsBefore, value_in, unfrozen_grows}

-- given: the run t of a scenario, and the latest times of its outcome: `late n` are those with n faults
module _ (g : Graph) (order : List ℕ) (frozen : List (Option ℕ)) (s : Scenario) (t : Times) (late : ℕ → Times)
    (topological : IsTopological g order)
    (run : IsRun g order frozen s t) (are : AreLatest g order frozen s.values late) where
  -- the faults of the processes that end before a moment
  spent_by : ℕ → ℕ
  spent_by m = spent (λ q. ltb (moment_of_end g order q) m) 0 s.faults

  -- by a later moment no fewer faults are spent
  spent_later : (m l : ℕ) → m ≤ l → spent_by m ≤ spent_by l
  unfolding spent_by
  spent_later m l no_later =
      spent-more (λ q. ltb (moment_of_end g order q) m) (λ q. ltb (moment_of_end g order q) l) 0 s.faults
      (λ q is_before. let earlier = ltb-true (moment_of_end g order q) m is_before in
      lt-ltb (moment_of_end g order q) l (omega (arith, earlier, no_later)))

  -- if p ends at the moment m or later, the faults spent before m and those of p are all spent just after p has ended
  spent_with : (m p : ℕ) → m ≤ moment_of_end g order p →
      spent_by m + fault_of s p ≤ spent_by (moment_of_end g order p + 1)
  unfolding spent_by
  spent_with m p at_most = spent-one (λ q. ltb (moment_of_end g order q) m)
      (λ q. ltb (moment_of_end g order q) (moment_of_end g order p + 1)) 0 p p s.faults
      (λ q is_before. let earlier = ltb-true (moment_of_end g order q) m is_before in
      lt-ltb (moment_of_end g order q) (moment_of_end g order p + 1) (omega (arith, earlier, at_most)))
      (let same : 0 + p ≡ p = omega arith in same)
      (le-ltb (moment_of_end g order p) m at_most)
      (lt-ltb (moment_of_end g order p) (moment_of_end g order p + 1) (omega arith))

  -- before the moment m no time of the run is later than the latest one with n faults, if at most n are spent by it
  record AboveBefore (m : ℕ) : Type 0 where
    -- the time of each item whose moment is before m
    items : (n x : ℕ) → n ≤ g.faults → x < item_count g → moment g order x < m → spent_by (moment g order x) ≤ n →
        time_in t x ≤ time_in (late n) x
    -- the end of each process whose moment is before m
    ends : (n p : ℕ) → n ≤ g.faults → p < process_count g → moment_of_end g order p < m →
        spent_by (moment_of_end g order p + 1) ≤ n →
        end_in t p ≤ end_in (late n) p

  -- what the item x rests on is no later in the run than in the latest times: a fixed number is the same, and an item or an end
  -- has an earlier moment, by which no more faults are spent
  cause_le : (m x n : ℕ) → AboveBefore m → moment g order x ≤ m → n ≤ g.faults → spent_by (moment g order x) ≤ n
      → (c : Cause) → IsBefore g order (moment g order x) c → value_in t c ≤ value_in (late n) c
  cause_le m x n a k few b fixed before = omega arith
  cause_le m x n a k few b (item y) before = a.items n y few before.0 (omega (arith, before.1, k))
      (omega (arith, b, spent_later (moment g order y) (moment g order x) (omega (arith, before.1))))
  cause_le m x n a k few b (ended p) before = a.ends n p few before.0 (omega (arith, before.1, k))
      (omega (arith, b, spent_later (moment_of_end g order p + 1) (moment g order x) (omega (arith, before.1))))

  -- an item's unfrozen time is no later in the run than in the latest times
  unfrozen_le : (m x n : ℕ) → AboveBefore m → moment g order x ≤ m → x < item_count g → n ≤ g.faults →
      spent_by (moment g order x) ≤ n
      → unfrozen_time g order s t x ≤ unfrozen_time g order s (late n) x
  unfrozen_le m x n before at_most within few b = unfrozen_grows g order topological s t (late n) x within
      (cause_le m x n before at_most few b)

  -- if the unfrozen time of an item is no later than its latest unfrozen one, its time is no later either: both wait for the same
  -- frozen time, and an inactive item has the time 0
  time_le : (x n : ℕ) → x < item_count g → n ≤ g.faults →
      unfrozen_time g order s t x ≤ unfrozen_time g order s (late n) x →
      time_in t x ≤ time_in (late n) x
  time_le x n within few h = elim (cases_Bool (item_active g s.values (item_at g x))) [
    | inl is ↦ omega (
      arith,
      h,
      time_in_active g order frozen s t run x within is,
      late_active g order frozen s late are n few x within is,
      greatest-cons (unfrozen_time g order s t x) (option_to_list (get_or frozen x None)),
      greatest-cons (unfrozen_time g order s (late n) x) (option_to_list (get_or frozen x None)),
    )
    | inr is ↦ omega (arith, time_inactive g order frozen s t run x within is)
  ]

  -- An end is no later in the run than in the latest times. With j faults of its own, at most n - j are spent by its start, so
  -- the start is no later than the latest one with n - j, and the end than the one that this gives.
  end_le : (m p n : ℕ) → AboveBefore m → moment_of_end g order p ≤ m → p < process_count g → n ≤ g.faults →
      spent_by (moment_of_end g order p + 1) ≤ n →
      end_in t p ≤ end_in (late n) p
  end_le m p n before k within few b =
      let start = moment_of_start g order topological p within in
      let own = spent_with (moment g order p) p (omega (arith, start)) in
      elim (cases_Bool (item_active g s.values (item_at g p))) [
        | inl is ↦ omega (
          arith,
          before.items (n - fault_of s p) p (omega (arith, few)) (omega arith) (omega (arith, start, k))
              (omega (arith, own, b)),
          end_active g order frozen s t run p within (acts_start g order frozen s t run p within is),
          late_end_active g order frozen s late are n few p within is,
          greatest_above (map (end_with g late n p) (numbers_below (n + 1))) (end_with g late n p (fault_of s p))
              (Contains-map (end_with g late n p) (numbers_below (n + 1)) (fault_of s p)
              (Contains-numbers (n + 1) (fault_of s p) (omega (arith, own, b)))),
        )
        | inr is ↦ omega (arith, end_inactive g order frozen s t run p within is)
      ]

  -- by induction on m: no item or end before the moment m is later in the run than in the latest times
  above_before : (m : ℕ) → AboveBefore m
  above_before zero =
      record { items = λ n x few l h b. absurd (omega arith); ends = λ n p few l h b. absurd (omega arith) }
  above_before (suc m) =
      let before = above_before m in
      record {
        items = λ n x few within sooner spent. time_le x n within few
            (unfrozen_le m x n before (omega arith) within few spent);
        ends = λ n p few within sooner spent. end_le m p n before (omega arith) within few spent;
      }

  -- by any moment no more faults are spent than the scenario has
  all_spent : (m n : ℕ) → sum s.faults ≤ n → spent_by m ≤ n
  unfolding spent_by
  all_spent m n at_most = omega (arith, at_most, spent-le (λ q. ltb (moment_of_end g order q) m) 0 s.faults)

  -- the run is no later than the latest times with n faults, if it has at most n: all its moments come before the last
  pub no_later : (n : ℕ) → sum s.faults ≤ n → n ≤ g.faults → IsNoLater g order s t (late n)
  no_later n at_most few =
      let before = above_before (last g) in
      record {
        items =
            λ x within. before.items n x few within (moment_before_last g order topological x within)
            (all_spent (moment g order x) n at_most);
        unfrozen = λ x within. unfrozen_le (last g) x n before
            (let sooner = moment_before_last g order topological x within in
            omega (arith, sooner)) within few (all_spent (moment g order x) n at_most);
        ends = λ p within.
            before.ends n p few within (end_before_last g order topological p within)
            (all_spent (moment_of_end g order p + 1) n at_most);
      }
