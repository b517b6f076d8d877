-- If each process has as many faults or more in the second of two scenarios of an outcome, nothing in its run is sooner.
use Rattle.std.proofs.Common.{◌≡◌, ℕ, zero, suc, ◌+◌, ◌*◌, ◌<◌, ◌≤◌, false, Bool, List, get_or, Option, None}
use Rattle.std.proofs.Common.{option_map, option_to_list, unwrap_or, arith, ap, ◌∙◌, inl, inr}
use Rattle.std.specs.Int.{div_ceil}
use Rattle.std.proofs.Math.Nat.{mul-le-mul_right}
use Rattle.std.proofs.lemmas.Bool.{cases_Bool, cond-false}
use Rattle.cpg_base.specs.Graph.{Graph, process_count, process_at, item_count, item_at}
use Rattle.cpg_base.specs.Activity.{item_active}
use Rattle.cpg_base.specs.Duration.{duration}
use Rattle.cpg_base.specs.Scenario.{Scenario, fault_of}
use Rattle.cpg_base.proofs.Lists.{greatest-cons}
use Rattle.cpg_order.specs.Urgency.{IsTopological}
use Rattle.cpg_order.proofs.Moments.{moment, moment_of_end, moment_of_start, moment_before_last, end_before_last, last}
use Rattle.cpg_run.specs.Run.{Times, IsRun, time_in, end_in, unfrozen_time}
use Rattle.cpg_run.proofs.Runs.{time_is, time_in_active, end_is, end_active, acts_start}
use Rattle.cpg_latest.specs.Latest.{with_faults}
use Rattle.cpg_latest.proofs.Rests.{Cause, Cause.fixed, Cause.item, Cause.ended, IsBefore, value_in, unfrozen_grows}

-- an execution with more faults lasts no less
pub duration_grows : (g : Graph) (p m n : ℕ) → m ≤ n → duration g p m ≤ duration g p n
duration_grows g p m n at_most =
    let more : m
    * ((process_at g p).mu + div_ceil (process_at g p).wcet (process_at g p).parts + (process_at g p).alpha) ≤ n *
    ((process_at g p).mu + div_ceil (process_at g p).wcet (process_at g p).parts + (process_at g p).alpha) =
    mul-le-mul_right
    ((process_at g p).mu + div_ceil (process_at g p).wcet (process_at g p).parts + (process_at g p).alpha) at_most in
    omega arith

-- given: the run t of a scenario s
module _ (g : Graph) (order : List ℕ) (frozen : List (Option ℕ)) (s : Scenario) (t : Times)
    (run : IsRun g order frozen s t) where
  -- an item that isn't active has no time, so its time counts as 0
  pub time_inactive : (x : ℕ) → x < item_count g → item_active g s.values (item_at g x) ≡ false → time_in t x ≡ 0
  time_inactive x within fails = ap (λ o. unwrap_or o 0) (time_is g order frozen s t run x within
      ∙ cond-false _ _ _ fails)

  -- a process that isn't active has no start, so its end counts as 0
  pub end_inactive : (p : ℕ) → p < process_count g → item_active g s.values (item_at g p) ≡ false → end_in t p ≡ 0
  end_inactive p within fails = ap (λ o. unwrap_or o 0) (end_is g order frozen s t run p within
      ∙ ap (λ o. option_map (λ start. start + duration g p (fault_of s p)) o)
      (time_is g order frozen s t run p (omega arith) ∙ cond-false _ _ _ fails))

-- given: two runs of an outcome, t with the fault counts `fs` and u with the counts `hs`; in u each process has as many
-- faults as in t, or more (`more`)
module _ (g : Graph) (order : List ℕ) (frozen : List (Option ℕ)) (values : List Bool) (fs hs : List ℕ)
    (topological : IsTopological g order)
    (more : (q : ℕ) → get_or fs q 0 ≤ get_or hs q 0) (t u : Times) (run : IsRun g order frozen
    (with_faults values fs) t) (other : IsRun g order frozen (with_faults values hs) u) where
  -- before moment m no time of t is later than that of u
  record GrowBefore (m : ℕ) : Type 0 where
    -- the time of each item whose moment is before m
    items : (x : ℕ) → x < item_count g → moment g order x < m → time_in t x ≤ time_in u x
    -- the end of each process whose moment is before m
    ends : (p : ℕ) → p < process_count g → moment_of_end g order p < m → end_in t p ≤ end_in u p

  -- what an item rests on is no sooner in the second run, as it has an earlier moment
  cause_le : (m x : ℕ) → GrowBefore m → moment g order x ≤ m → (c : Cause) → IsBefore g order (moment g order x) c →
      value_in t c ≤ value_in u c
  cause_le m x before at_most fixed is_before = omega arith
  cause_le m x before at_most (item y) is_before = before.items y is_before.0 (omega (arith, is_before.1))
  cause_le m x before at_most (ended p) is_before = before.ends p is_before.0 (omega (arith, is_before.1))

  -- if all before the moment m is no earlier in u, neither is an item at the moment m: its bounds grow, and an inactive item has
  -- the time 0
  time_le : (m x : ℕ) → GrowBefore m → moment g order x ≤ m → x < item_count g → time_in t x ≤ time_in u x
  time_le m x before at_most within = elim (cases_Bool (item_active g values (item_at g x))) [
    | inl is ↦ omega (
      arith,
      unfrozen_grows g order topological (with_faults values fs) t u x within (cause_le m x before at_most),
      time_in_active g order frozen (with_faults values fs) t run x within is,
      time_in_active g order frozen (with_faults values hs) u other x within is,
      greatest-cons (unfrozen_time g order (with_faults values fs) t x) (option_to_list (get_or frozen x None)),
      greatest-cons (unfrozen_time g order (with_faults values hs) u x) (option_to_list (get_or frozen x None)),
    )
    | inr is ↦ omega (arith, time_inactive g order frozen (with_faults values fs) t run x within is)
  ]

  -- if p starts no earlier in u, it ends no earlier, as it has at least as many faults there
  end_le : (p : ℕ) → p < process_count g → time_in t p ≤ time_in u p → end_in t p ≤ end_in u p
  end_le p within h = elim (cases_Bool (item_active g values (item_at g p))) [
    | inl is ↦ omega (
      arith,
      h,
      duration_grows g p (get_or fs p 0) (get_or hs p 0) (more p),
      end_active g order frozen (with_faults values fs) t run p within
          (acts_start g order frozen (with_faults values fs) t run p within is),
      end_active g order frozen (with_faults values hs) u other p within
          (acts_start g order frozen (with_faults values hs) u other p within is),
    )
    | inr is ↦ omega (arith, end_inactive g order frozen (with_faults values fs) t run p within is)
  ]

  -- by induction on m: what comes before the moment m is no earlier in the second run
  grow_before : (m : ℕ) → GrowBefore m
  grow_before zero = record { items = λ x l h. absurd (omega arith); ends = λ p l h. absurd (omega arith) }
  grow_before (suc m) =
      let before = grow_before m in
      record {
        items = λ x within sooner. time_le m x before (omega arith) within;
        ends = λ p within sooner. end_le p within
            (before.items p (omega arith) (omega (arith, moment_of_start g order topological p within)));
      }

  -- no item is sooner in the second run
  pub times_grow : (x : ℕ) → x < item_count g → time_in t x ≤ time_in u x
  times_grow x within = (grow_before (last g)).items x within (moment_before_last g order topological x within)

  -- no process ends sooner in the second run
  pub ends_grow : (p : ℕ) → p < process_count g → end_in t p ≤ end_in u p
  ends_grow p within = (grow_before (last g)).ends p within (end_before_last g order topological p within)
