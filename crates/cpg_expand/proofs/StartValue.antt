-- The time of a start that isn't frozen, and the end after it, are the run's.
use Rattle.std.proofs.Common.{ℕ, ◌+◌, ◌^◌, ◌<◌, ◌≤◌, ◌≡◌, nat_lt, max, Bool, true, false, if◌then◌else◌, List, ◌∷◌}
use Rattle.std.proofs.Common.{length, map, filter, get_or, Option, Some, None, unwrap_or, option_map}
use Rattle.std.proofs.Common.{option_to_list, Contains, arith, le-ltb, lt-ltb, refl, sym, ap, ◌∙◌, subst}
use Rattle.std.proofs.lemmas.Bool.{cond-true, cond-false}
use Rattle.cpg_base.specs.Numbers.{greatest, numbers_below}
use Rattle.cpg_base.specs.Limits.{IsWithinLimits}
use Rattle.cpg_base.specs.Duration.{duration}
use Rattle.cpg_base.specs.Graph.{Graph, process_at, process_count, condition_count, item_count, node_of, inputs}
use Rattle.cpg_base.specs.Graph.{producer}
use Rattle.cpg_base.specs.Activity.{active, item_active, live}
use Rattle.cpg_base.specs.Scenario.{IsScenario, Scenario, fault_of, number_of}
use Rattle.cpg_base.proofs.Items.{item_at-start}
use Rattle.cpg_base.proofs.Lists.{get_or-map-below, greatest-map-le, Contains-filter_parts}
use Rattle.cpg_order.specs.Urgency.{IsTopological, IsUrgencyOrder}
use Rattle.cpg_base.specs.Order.{place}
use Rattle.cpg_order.specs.Deciding.{decides}
use Rattle.cpg_order.specs.Guard.{Guard, way, IsGuardOf}
use Rattle.cpg_rules.proofs.Ways.{ways_are_deciding}
use Rattle.cpg_run.specs.Run.{Times, IsRun, end_in, input_bounds, input_there, heard_there, unfrozen_time, time_by}
use Rattle.cpg_run.specs.Run.{end_by}
use Rattle.cpg_base.proofs.Durations.{duration_short}
use Rattle.cpg_cube.specs.declared.column.Column.{Column}
use Rattle.cpg_run.specs.Carried.{carried_at_start, carried_at_end}
use Rattle.cpg_tree.specs.Space.{HasAtMostFaults}
use Rattle.cpg_tree.specs.Tree.{TreeState}
use Rattle.cpg_expand.specs.Agreeing.{HasValueFrom}
use Rattle.cpg_tree_times.specs.Values.{ended}
use Rattle.cpg_expand.specs.Ending.{durations_of, IsEndTree}
use Rattle.cpg_run.specs.Known.{AreSmall}
use Rattle.cpg_run.specs.Most.{IsMost}
use Rattle.cpg_run.specs.Progress.{Knows, IsReady}
use Rattle.cpg_run.proofs.Mosts.{most_deciding}
use Rattle.cpg_run.proofs.Runs.{end_active}
use Rattle.cpg_run.proofs.Starts.{known_input, known_heard_of, decided_sooner, start_is}

-- the times and ends of a run for what stands before a place, and none for what stands there or later
settled : Graph → List ℕ → Times → ℕ → Times
settled g order t i = record {
  times = map (λ x. if nat_lt (place order (producer g x)) i then get_or t.times x None else None)
      (numbers_below (item_count g));
  ends = map (λ p. if nat_lt (place order p) i then get_or t.ends p None else None) (numbers_below (process_count g));
  finish = 0;
}

-- they tell exactly what is known of the run before that place
settled_knows : (g : Graph) (order : List ℕ) (t : Times) (i : ℕ) → Knows g order t i (settled g order t i)
unfolding settled
settled_knows g order t i = record {
  times = λ x below sooner. get_or-map-below
      (λ x. if nat_lt (place order (producer g x)) i then get_or t.times x None else None)
      (item_count g) x None below ∙
      cond-true _ (get_or t.times x None) None (lt-ltb (place order (producer g x)) i sooner);
  later = λ x below no_sooner. get_or-map-below
      (λ x. if nat_lt (place order (producer g x)) i then get_or t.times x None else None)
      (item_count g) x None below ∙
      cond-false _ (get_or t.times x None) None (le-ltb (place order (producer g x)) i no_sooner);
  ends = λ p below sooner. get_or-map-below (λ p. if nat_lt (place order p) i then get_or t.ends p None else None)
      (process_count g) p None below ∙
      cond-true _ (get_or t.ends p None) None (lt-ltb (place order p) i sooner);
  no_ends = λ p below no_sooner. get_or-map-below (λ p. if nat_lt (place order p) i then get_or t.ends p None else None)
      (process_count g) p None below ∙
      cond-false _ (get_or t.ends p None) None (le-ltb (place order p) i no_sooner);
}

-- if an option is `n` where a test holds and none elsewhere, it is also `m` there and none elsewhere, for m the
-- option's own number
by_test : (b : Bool) (n m : ℕ) (o : Option ℕ) → o ≡ (if b then Some n else None) → (b ≡ true → m ≡ unwrap_or o 0) →
    (if b then Some m else None) ≡ o
by_test true n m o is same = ap (λ k. Some k) (same refl ∙ ap (λ p. unwrap_or p 0) is) ∙ sym is
by_test false n m o is same = sym is

-- given: one scenario with its run, the guard of a process, and when its node is ready
-- `urgency`, `is_urgency`, `urgent`: the urgency order; `frozen`, `s`, `long`, `t`, `run`: a scenario and its run
-- `p`, `l`, `guard`, `is_guard`: a process and its guard; `r`, `ready`: from when on its node is ready for it
module _ (g : Graph) (order : List ℕ) (topological : IsTopological g order) (urgency : List ℕ)
    (is_urgency : IsUrgencyOrder g urgency) (urgent : IsTopological g urgency) (frozen : List (Option ℕ))
    (s : Scenario) (long : length s.values ≡ condition_count g) (t : Times) (run : IsRun g order frozen s t) (p : ℕ)
    (l : p < process_count g) (guard : Guard) (is_guard : IsGuardOf g urgency p guard)
    (r : ℕ) (ready : IsReady g order s t (place order p) (node_of g p) r) where
  -- what is known of the run before p's place
  known : Times
  known = settled g order t (place order p)

  -- it is the run's times and ends of what is earlier
  knows : Knows g order t (place order p) known
  unfolding known
  knows = settled_knows g order t (place order p)

  -- the latest time at which p's node hears a test on the guard's way is the latest for all conditions that decide p
  pub most : IsMost (λ c. (c < condition_count g) × (decides g s.values p c ≡ true)) (heard_there g t (node_of g p))
      (greatest (map (heard_there g t (node_of g p)) (way guard s.values)))
  most = most_deciding (heard_there g t (node_of g p)) g urgency urgent s.values p
      (greatest (map (heard_there g t (node_of g p)) (way guard s.values)))
      (ap (λ cs. greatest (map (heard_there g t (node_of g p)) cs))
      (ways_are_deciding g urgency p guard s.values is_urgency urgent is_guard long))

  -- a condition that decides p is heard at the time that is known, since its process is earlier
  same_heard : (c : ℕ) → c < condition_count g → decides g s.values p c ≡ true →
      heard_there g known (node_of g p) c ≡ heard_there g t (node_of g p) c
  same_heard c low decides_p = known_heard_of g order t (place order p) known knows (node_of g p) c low
      (decided_sooner g order t (place order p) known knows topological s p l refl p c (omega arith) low decides_p)

  -- so the latest of these times is known, too
  most_known : IsMost (λ c. (c < condition_count g) × (decides g s.values p c ≡ true))
      (heard_there g known (node_of g p)) (greatest (map (heard_there g t (node_of g p)) (way guard s.values)))
  most_known = record {
    above = λ c decides_p. omega (arith, most.above c decides_p, same_heard c decides_p.0 decides_p.1);
    least = λ b all_below. most.least b
        (λ c decides_p. omega (arith, all_below c decides_p, same_heard c decides_p.0 decides_p.1));
  }

  -- the inputs are there at the times that are known, since their sources are earlier
  same_inputs : greatest (input_bounds g s known p) ≡ greatest (input_bounds g s t p)
  same_inputs =
      let same = λ (e : ℕ) (is_input : Contains (filter (live g s.values) (inputs g p)) e).
      known_input g order t (place order p) known knows topological s p l refl e
      (Contains-filter_parts (live g s.values) (inputs g p) e is_input).0 in
      omega (
        arith,
        greatest-map-le (input_there g known) (input_there g t) (filter (live g s.values) (inputs g p))
            (λ e is_input. omega (arith, same e is_input)),
        greatest-map-le (input_there g t) (input_there g known) (filter (live g s.values) (inputs g p))
            (λ e is_input. omega (arith, same e is_input)),
      )

  -- until when p waits on its node: that the node is ready, and has heard all conditions on the guard's way
  abbrev pub waited : ℕ
  waited = max r (greatest (map (heard_there g t (node_of g p)) (way guard s.values)))

  -- p's time in the run is the one that the run's rule gives
  time_at : get_or t.times p None ≡ time_by g order frozen s t p
  time_at = ap (λ ts. get_or ts p None) run.times
      ∙ get_or-map-below (time_by g order frozen s t) (item_count g) p None (omega (arith, l))

  -- an active process waits no longer than until it ends
  pub waited_ends : active g s.values p ≡ true → waited ≤ end_in t p
  waited_ends on =
      let found = start_is g order t (place order p) known knows topological s p l refl frozen run on r
      (greatest (map (heard_there g t (node_of g p)) (way guard s.values))) ready most_known in
      let ends = end_active g order frozen s t run p l on in
      omega (arith, found, ends)

  -- if p isn't frozen, the latest of that wait, of its release and of its live inputs is its start in the run
  pub start_value : get_or frozen p None ≡ None →
      (if active g s.values p then Some (max (max waited (process_at g p).release) (greatest (input_bounds g s t p)))
      else None) ≡ get_or t.times p None
  -- an active process has the greatest of its bounds as its time, which is that latest one, since no frozen time is
  -- among them
  start_value thawed =
      by_test (active g s.values p) (greatest (unfrozen_time g order s t p ∷ option_to_list (get_or frozen p None)))
      (max (max waited (process_at g p).release) (greatest (input_bounds g s t p))) (get_or t.times p None)
      (time_at ∙ ap (λ (b : Bool). if b
      then Some (greatest (unfrozen_time g order s t p ∷ option_to_list (get_or frozen p None))) else None)
      (ap (item_active g s.values) (item_at-start g p l)))
      (λ on.
      let found = start_is g order t (place order p) known knows topological s p l refl frozen run on r
      (greatest (map (heard_there g t (node_of g p)) (way guard s.values))) ready most_known in
      omega (arith, found, same_inputs, ap (λ o. unwrap_or o 0) thawed))

-- ---- ends

-- the end after a start is the start with its duration: both are so small that the sum isn't cut off
ended_by : (ds : List ℕ) (n d : ℕ) (o : Option ℕ) → get_or ds n 0 ≡ d → d < 2 ^ 40 → unwrap_or o 0 < 2 ^ 59 →
    ended ds n o ≡ option_map (λ start. start + d) o
ended_by ds n d None is_d short early = refl
ended_by ds n d (Some start) is_d short early = ap (λ m. Some m) (omega (arith, is_d, short, early))

-- given: one scenario with its run, and a process that has no more faults than the graph allows
-- `frozen`, `s`, `law`, `t`, `run`, `small`: a scenario and its run with small times
-- `p`, `l`, `few`: a process that has no more faults there than the graph allows
module _ (g : Graph) (limits : IsWithinLimits g) (order : List ℕ) (frozen : List (Option ℕ)) (s : Scenario)
    (law : IsScenario g s) (t : Times) (run : IsRun g order frozen s t) (small : AreSmall t)
    (p : ℕ) (l : p < process_count g) (few : fault_of s p ≤ g.faults) where
  -- the number of the variable p in the scenario is p's fault count
  count_is : number_of s p ≡ fault_of s p
  count_is = cond-true _ (fault_of s p) _ (lt-ltb p 128 (let few_processes = limits.few_processes in omega arith))

  -- the start with the duration for that number is p's end in the run
  pub end_value : ended (durations_of g p) (number_of s p) (get_or t.times p None) ≡ get_or t.ends p None
  end_value = ap (λ n. ended (durations_of g p) n (get_or t.times p None)) count_is
      ∙ ended_by (durations_of g p) (fault_of s p) (duration g p (fault_of s p)) (get_or t.times p None)
      (get_or-map-below (duration g p) (g.faults + 1) (fault_of s p) 0 (omega (arith, few)))
      (duration_short g limits p (fault_of s p) l few) (small.times p)
      ∙ sym (ap (λ es. get_or es p None) run.ends ∙ get_or-map-below (end_by g s t) (process_count g) p None l)

  -- the tree of the end agrees with what is carried at the end
  pub end_line : (rows : List (List Column)) (start end : TreeState (Option ℕ)) → HasAtMostFaults g.faults s →
      IsEndTree g p start end →
      HasValueFrom s (carried_at_start g order rows s p) (get_or t.times p None) start →
      HasValueFrom s (carried_at_end g order rows s p) (get_or t.ends p None) end
  end_line rows start end few ends starts =
      subst (λ (o : Option ℕ). HasValueFrom s (carried_at_end g order rows s p) o end) end_value
      (ends s few (carried_at_start g order rows s p) (get_or t.times p None) starts)
