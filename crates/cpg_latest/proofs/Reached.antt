-- Each latest time with n faults is reached in some run with at most n faults: by induction on the moments in which the times
-- of a run follow from each other.
use Rattle.std.proofs.Common.{◌≡◌, ℕ, zero, suc, ◌+◌, ◌-◌, ◌<◌, ◌≤◌, true, Bool, List, [], length, get_or, map, sum}
use Rattle.std.proofs.Common.{replicate, Option, None, option_to_list, arith, refl, sym, subst, ◌∙◌, inl, inr}
use Rattle.std.proofs.lemmas.Bool.{cases_Bool}
use Rattle.std.proofs.lemmas.List.{length-replicate}
use Rattle.std.proofs.lemmas.List.Folds.{sum_by-replicate}
use Rattle.cpg_base.specs.Numbers.{numbers_below}
use Rattle.cpg_base.specs.Graph.{Graph, process_count, condition_count, item_count, item_at}
use Rattle.cpg_base.specs.Activity.{item_active}
use Rattle.cpg_base.proofs.Lists.{greatest-cons, greatest_above, greatest_cases, Contains-map_parts, numbers-Contains}
use Rattle.cpg_order.specs.Urgency.{IsTopological}
use Rattle.cpg_order.proofs.Moments.{moment, moment_of_end, moment_of_start, moment_before_last, end_before_last, last}
use Rattle.cpg_run.specs.Run.{Times, time_in, end_in, unfrozen_time, bounds_of_item}
use Rattle.cpg_run.proofs.RunExists.{the_run, run_exists}
use Rattle.cpg_run.proofs.Runs.{time_in_active, end_active, acts_start}
use Rattle.cpg_latest.specs.Latest.{AreLatest, end_with, latest_end, with_faults}
use Rattle.cpg_latest.specs.Laws.{IsReached, AreReached}
use Rattle.cpg_latest.proofs.Faults.{add_at, length-add_at, sum-add_at, add_at-grows, add_at-there}
use Rattle.cpg_latest.proofs.LateTimes.{late_active, late_inactive, late_end_active, late_end_inactive}
use Rattle.cpg_latest.proofs.RunsGrow.{times_grow, duration_grows}
use Rattle.cpg_latest.proofs.Rests.{Cause, Cause.fixed, Cause.item, Cause.ended, IsBefore, value_in, rests}

-- given: the latest times of an outcome: `late n` are those with n faults
module _ (g : Graph) (order : List ℕ) (frozen : List (Option ℕ)) (values : List Bool) (late : ℕ → Times)
    (topological : IsTopological g order)
    (long : length values ≡ condition_count g) (are : AreLatest g order frozen values late) where
  -- a number that is 0 is reached in the run without faults
  without : (n : ℕ) (of : Times → ℕ) (v : ℕ) → v ≡ 0 → IsReached g order frozen values n of v
  without n of v same = record {
    faults = replicate (process_count g) 0;
    lawful = record {
      values = long;
      faults = length-replicate {A = ℕ} (process_count g) 0;
      budget = omega (arith, sum_by-replicate (λ (x : ℕ). x) (process_count g) 0);
    };
    few = omega (arith, sum_by-replicate (λ (x : ℕ). x) (process_count g) 0);
    times = the_run g order frozen (with_faults values (replicate (process_count g) 0)) topological;
    run = run_exists g order frozen (with_faults values (replicate (process_count g) 0)) topological;
    is = omega (arith, same);
  }

  -- the latest times and ends before the moment m are reached
  record ReachedBefore (m : ℕ) : Type 0 where
    -- the time of each item whose moment is before m
    items : (n x : ℕ) → n ≤ g.faults → x < item_count g → moment g order x < m →
        IsReached g order frozen values n (λ t. time_in t x) (time_in (late n) x)
    -- the end of each process whose moment is before m
    ends : (n p : ℕ) → n ≤ g.faults → p < process_count g → moment_of_end g order p < m →
        IsReached g order frozen values n (λ t. end_in t p) (end_in (late n) p)

  -- what a bound of the item x rests on is reached in a run: 0 always is, and an item or an end has an earlier moment
  cause_reached : (m x n : ℕ) → ReachedBefore m → moment g order x ≤ m → n ≤ g.faults
      → (c : Cause) → IsBefore g order (moment g order x) c →
      IsReached g order frozen values n (λ t. value_in t c) (value_in (late n) c)
  cause_reached m x n a k few fixed before = without n (λ t. 0) 0 refl
  cause_reached m x n a k few (item y) before = a.items n y few before.0 (omega (arith, before.1, k))
  cause_reached m x n a k few (ended p) before = a.ends n p few before.0 (omega (arith, before.1, k))

  -- An item's unfrozen time is reached in a run. It is 0, or one of the bounds; that rests on one thing alone, and grows with
  -- it, so the run that reaches the one thing reaches the bound.
  unfrozen_reached : (m x n : ℕ) → ReachedBefore m → moment g order x ≤ m → x < item_count g → n ≤ g.faults
      → IsReached g order frozen values n (λ t. unfrozen_time g order (with_faults values []) t x)
      (unfrozen_time g order (with_faults values []) (late n) x)
  unfrozen_reached m x n before no_later within few =
      elim (greatest_cases (bounds_of_item g order (with_faults values []) (late n) x (item_at g x))) [
        | inl zero_is ↦ without n (λ t. unfrozen_time g order (with_faults values []) t x)
            (unfrozen_time g order (with_faults values []) (late n) x) zero_is
        | inr among ↦
            -- the run that reaches what the greatest bound rests on
            let rests_on = rests g order topological (with_faults values []) (late n) x
            (unfrozen_time g order (with_faults values []) (late n) x) within among in
            let reached = cause_reached m x n before no_later few rests_on.cause rests_on.early in
            record {
              faults = reached.faults;
              lawful = reached.lawful;
              few = reached.few;
              times = reached.times;
              run = reached.run;
              is = omega (
                arith,
                rests_on.is,
                rests_on.grows (late n) reached.times reached.is,
                greatest_above (bounds_of_item g order (with_faults values []) reached.times x (item_at g x))
                    (rests_on.bound reached.times) (rests_on.among reached.times),
              );
            }
      ]

  -- if an item's unfrozen time is reached, so is its time: both wait for the same frozen time, and an inactive item has the time 0
  time_reached : (x n : ℕ) → x < item_count g → n ≤ g.faults
      → IsReached g order frozen values n (λ t. unfrozen_time g order (with_faults values []) t x)
      (unfrozen_time g order (with_faults values []) (late n) x)
      → IsReached g order frozen values n (λ t. time_in t x) (time_in (late n) x)
  time_reached x n within few is_reached = elim (cases_Bool (item_active g values (item_at g x))) [
    | inl is ↦ record {
      faults = is_reached.faults;
      lawful = is_reached.lawful;
      few = is_reached.few;
      times = is_reached.times;
      run = is_reached.run;
      is = omega (
        arith,
        is_reached.is,
        time_in_active g order frozen (with_faults values is_reached.faults) is_reached.times
            is_reached.run x within is,
        late_active g order frozen (with_faults values []) late are n few x within is,
        greatest-cons (unfrozen_time g order (with_faults values []) is_reached.times x)
            (option_to_list (get_or frozen x None)),
        greatest-cons (unfrozen_time g order (with_faults values []) (late n) x)
            (option_to_list (get_or frozen x None)),
      );
    }
    | inr is ↦ without n (λ t. time_in t x) (time_in (late n) x)
        (late_inactive g order frozen (with_faults values []) late are n few x within is)
  ]

  -- If the start of p with n - j faults is reached, so is its end with j more of its own: the run with j more faults in p starts
  -- p no earlier, and p lasts as long or longer in it.
  with_own : (n p j : ℕ) → p < process_count g → n ≤ g.faults → j ≤ n → item_active g values (item_at g p) ≡ true
      → IsReached g order frozen values (n - j) (λ t. time_in t p) (time_in (late (n - j)) p)
      → IsReached g order frozen values n (λ t. end_in t p) (end_with g late n p j)
  with_own n p j within few own is is_reached =
      -- the run's faults with j more of p, which are at most n in all
      let more = add_at is_reached.faults p j in
      let total : sum more ≤ n = omega (arith, sum-add_at is_reached.faults p j, is_reached.few, own) in
      let times = the_run g order frozen (with_faults values more) topological in
      let run = run_exists g order frozen (with_faults values more) topological in
      record {
        faults = more;
        lawful = record {
          values = long;
          faults = length-add_at is_reached.faults p j ∙ is_reached.lawful.faults;
          budget = omega (arith, total, few);
        };
        few = total;
        times = times;
        run = run;
        is = omega (
          arith,
          is_reached.is,
          times_grow g order frozen values is_reached.faults more topological
              (add_at-grows is_reached.faults p j) is_reached.times times is_reached.run run p (omega arith),
          duration_grows g p j (get_or more p 0)
              (add_at-there is_reached.faults p j (omega (arith, is_reached.lawful.faults, within))),
          end_active g order frozen (with_faults values more) times run p within
              (acts_start g order frozen (with_faults values more) times run p within is),
        );
      }

  -- if the starts of p with each number of faults are reached, so is its latest end, which is 0 or one with some j own faults
  end_reached : (p n : ℕ) → p < process_count g → n ≤ g.faults
      → ((i : ℕ) → i ≤ g.faults → IsReached g order frozen values i (λ t. time_in t p) (time_in (late i) p))
      → IsReached g order frozen values n (λ t. end_in t p) (end_in (late n) p)
  end_reached p n within few start = elim (cases_Bool (item_active g values (item_at g p))) [
    | inl acts ↦ subst (IsReached g order frozen values n (λ t. end_in t p))
        (sym (late_end_active g order frozen (with_faults values []) late are n few p within acts))
        (elim (greatest_cases (map (end_with g late n p) (numbers_below (n + 1)))) [
          | inl zero_is ↦ without n (λ t. end_in t p) (latest_end g late n p) zero_is
          | inr among ↦
              let own_faults = Contains-map_parts (end_with g late n p) (numbers_below (n + 1))
              (latest_end g late n p) among in
              let within_faults = numbers-Contains (n + 1) own_faults.0 own_faults.1 in
              subst (IsReached g order frozen values n (λ t. end_in t p)) own_faults.2
              (with_own n p own_faults.0 within few (omega (arith, within_faults)) acts
              (start (n - own_faults.0) (omega (arith, few))))
        ])
    | inr idle ↦ without n (λ t. end_in t p) (end_in (late n) p)
        (late_end_inactive g order frozen (with_faults values []) late are n few p within idle)
  ]

  -- by induction on m: each latest time and each latest end before the moment m is reached in a run
  reached_before : (m : ℕ) → ReachedBefore m
  reached_before zero =
      record { items = λ n x few l h. absurd (omega arith); ends = λ n p few l h. absurd (omega arith) }
  reached_before (suc m) =
      let before = reached_before m in
      record {
        items = λ n x few within sooner. time_reached x n within few
            (unfrozen_reached m x n before (omega arith) within few);
        ends = λ n p few within sooner. end_reached p n within few
            (λ i less. before.items i p less (omega arith)
            (omega (arith, sooner, moment_of_start g order topological p within)));
      }

  -- each latest time with n faults is reached in some run with at most n, as all moments come before the last
  pub are_reached : (n : ℕ) → n ≤ g.faults → AreReached g order frozen values late n
  are_reached n few =
      let before = reached_before (last g) in
      record {
        items = λ x within. before.items n x few within (moment_before_last g order topological x within);
        unfrozen = λ x within. unfrozen_reached (last g) x n before
            (let sooner = moment_before_last g order topological x within in
            omega (arith, sooner)) within few;
        ends = λ p within. before.ends n p few within (end_before_last g order topological p within);
      }
