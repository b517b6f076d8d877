-- If what is carried beside a start in one scenario holds in another, the process starts there too, at the same time, and the same
-- is carried beside it.
use Rattle.std.proofs.Common.{ℕ, zero, suc, ◌+◌, ◌<◌, ◌≤◌, ◌≡◌, ◌==◌, Bool, true, false, if◌then◌else◌, List, [], ◌∷◌}
use Rattle.std.proofs.Common.{◌++◌, length, map, filter, flat_map, get_or, Contains, Option, Some, None}
use Rattle.std.proofs.Common.{option_to_list, unwrap_or, arith, sym, ap, ap₂, ◌∙◌, subst, inl, inr, eqb-true, lt-ltb}
use Rattle.std.proofs.Common.{◌&&◌}
use Rattle.std.proofs.lemmas.Bool.{cases_Bool, cond-true, cond-false, and_parts, and_from, eqb-false, not-false}
use Rattle.cpg_base.specs.Numbers.{numbers_below, greatest}
use Rattle.cpg_base.specs.Graph.{Graph, process_count, edge_count, condition_count, item_count, item_at, process_at}
use Rattle.cpg_base.specs.Graph.{node_of, source, target, inputs, is_message, is_frozen, is_frozen_item}
use Rattle.cpg_base.specs.Graph.{message_item, broadcast_item, process_of, home, value_variable}
use Rattle.cpg_base.specs.Activity.{is_active, activation, active, live, item_active}
use Rattle.cpg_base.specs.Duration.{duration}
use Rattle.cpg_base.specs.Bus.{slot_length}
use Rattle.cpg_base.proofs.Lists.{Contains-first, Contains-map, Contains-filter, Contains-filter_parts}
use Rattle.cpg_base.proofs.Lists.{Contains-flat_map_parts, Contains-numbers, numbers-Contains, from_all, same_map}
use Rattle.cpg_base.proofs.Lists.{same_filter}
use Rattle.cpg_base.proofs.Lists.{same_flat_map, same_truth}
use Rattle.cpg_base.proofs.Inputs.{inputs_parts}
use Rattle.cpg_base.proofs.Items.{item_at-start, item_at-message, item_at-broadcast, process_of_below}
use Rattle.cpg_base.specs.Order.{place, before_on_node}
use Rattle.cpg_order.specs.Deciding.{decides, deciding}
use Rattle.cpg_base.specs.Scenario.{Scenario, IsScenario, fault_of, number_of}
use Rattle.cpg_order.proofs.Acyclic.{activation_is, input_goes_up}
use Rattle.cpg_order.proofs.ConditionsOf.{same_live_inputs}
use Rattle.cpg_order.proofs.DecidingLaws.{deciding_is_active, decides_earlier}
use Rattle.cpg_order.proofs.DecidingSame.{deciding_same, activation_same}
use Rattle.cpg_base.proofs.NumbersOf.{one_value, number_of-value, number_of-fault}
use Rattle.cpg_order.proofs.UrgencyIsTopological.{urgency_is_topological}
use Rattle.cpg_cube.specs.Cube.{holds, matches}
use Rattle.cpg_table.specs.Heard.{exactly}
use Rattle.cpg_cube.specs.declared.column.Column.{Column}
use Rattle.cpg_run.specs.Alike.{Admitted}
use Rattle.cpg_run.specs.Run.{Times, IsRun, end_in, input_there, heard_there, start_bounds, input_bounds}
use Rattle.cpg_run.specs.Run.{processor_bounds, hearing_bounds, bounds_of_item, unfrozen_time}
use Rattle.cpg_run.specs.Supported.{up_to}
use Rattle.cpg_run.proofs.Awaited.{Earlier, earlier_parts, earlier_from, up_to_before, up_to_cases, up_to_earlier}
use Rattle.cpg_run.proofs.Awaited.{up_to_parts}
use Rattle.cpg_run.proofs.Rule8.{has_frozen_time}
use Rattle.cpg_run.proofs.Runs.{time_active, has_time, end_active}
use Rattle.cpg_run.specs.Carried.{row_at, carried_by_row, number_known, decided, heard, received, executed, passed}
use Rattle.cpg_run.specs.Carried.{carried_at_start, carried_at_end}
use Rattle.cpg_run.specs.RowLaws.{IsEarlier, HaveTimesOf, IsTimed}
use Rattle.cpg_run.proofs.CarriedBefore.{hears_earlier, receives_earlier}
use Rattle.cpg_run.proofs.CubesOf.{holds_left, holds_right, holds_each, holds_both, holds_all, same_number}
use Rattle.cpg_run.proofs.SameInRows.{tells_nothing, SameTold, told_alike}

-- if two tests leave the same of a list, they have the same outcome for each of its elements
pub same_filter_at : (p q : ℕ → Bool) (xs : List ℕ) → filter p xs ≡ filter q xs → (x : ℕ) → Contains xs x → p x ≡ q x
same_filter_at p q xs is x among = same_truth (p x) (q x)
    (λ h. (Contains-filter_parts q xs x (subst (λ ys. Contains ys x) is (Contains-filter p xs x h among))).1)
    (λ h. (Contains-filter_parts p xs x (subst (λ ys. Contains ys x) (sym is) (Contains-filter q xs x h among))).1)

-- What the laws on two scenarios start from: the frozen times of an admitted graph (`timed`), rows that have the times of
-- the runs for all items of processes before `bound` (`times`), and the runs t and w of the scenarios s and u.
pub record HaveRuns (g : Graph) (urgency order : List ℕ) (frozen : List (Option ℕ)) (rows : List (List Column)) (bound : ℕ)
    (s u : Scenario) (t w : Times) : Type 0 where
  -- the graph is admitted, and the frozen times are its own
  pub timed : IsTimed g urgency order frozen
  -- the rows of items from processes before the bound have the times of the runs
  pub times : (y : ℕ) → IsEarlier g order bound y → HaveTimesOf g order frozen y (row_at rows y)
  -- s and u are scenarios of the graph
  pub lawful_s : IsScenario g s
  pub lawful_u : IsScenario g u
  -- t is the run of s, and w that of u
  pub run_t : IsRun g order frozen s t
  pub run_w : IsRun g order frozen u w

-- given: two scenarios with their runs, and rows with the times of the runs before a place
-- `z` has the facts on both: s and u are scenarios, t and w are their runs under the frozen times, and the rows up to
-- the place `bound` have the times of the runs.
module _ (g : Graph) (urgency order : List ℕ) (frozen : List (Option ℕ)) (rows : List (List Column)) (bound : ℕ)
    (s u : Scenario) (t w : Times)
    (z : HaveRuns g urgency order frozen rows bound s u t w) where
  -- what the graph is admitted with
  admission : Admitted g urgency order
  admission = z.timed.admitted

  -- a frozen item that is active in both has its frozen time
  pub frozen_time_same : (x : ℕ) → x < item_count g → is_frozen g x ≡ true →
      item_active g s.values (item_at g x) ≡ true →
      item_active g u.values (item_at g x) ≡ true →
      get_or t.times x None ≡ get_or w.times x None
  frozen_time_same x below frozen_one on also =
      has_time g order frozen s t z.run_t x below on
      ∙ sym (has_frozen_time g order frozen z.timed.frozen_times s z.lawful_s t z.run_t x below frozen_one on)
      ∙ has_frozen_time g order frozen z.timed.frozen_times u z.lawful_u w z.run_w x below frozen_one also
      ∙ sym (has_time g order frozen u w z.run_w x below also)

  -- an item that is active in both has the same time if its bounds are the same
  pub free_time_same : (x : ℕ) → x < item_count g → item_active g s.values (item_at g x) ≡ true →
      item_active g u.values (item_at g x) ≡ true →
      unfrozen_time g order s t x ≡ unfrozen_time g order u w x → get_or t.times x None ≡ get_or w.times x None
  free_time_same x below on also same_bounds = time_active g order frozen s t z.run_t x below on
      ∙ ap (λ n. Some (greatest (n ∷ option_to_list (get_or frozen x None)))) same_bounds ∙
      sym (time_active g order frozen u w z.run_w x below also)

  -- if y is an item of a process before the bound, it has the same time in both scenarios, and its row carries the same
  Told : ℕ → Type 0
  Told y = (e : IsEarlier g order bound y) →
      SameTold g order frozen rows y e.0 (z.times y e) s u z.lawful_s z.lawful_u t w z.run_t z.run_w

  -- this holds if y is active in s and what its row carries there holds in u
  told : (y : ℕ) → item_active g s.values (item_at g y) ≡ true → matches (carried_by_row rows s y) u ≡ true → Told y
  unfolding Told
  told y on carried_holds is_earlier = told_alike g order frozen rows y is_earlier.0 (z.times y is_earlier)
      s u z.lawful_s z.lawful_u t w z.run_t z.run_w on carried_holds

  -- ---- if what decides a process holds

  -- given: a process p, and that what decides it in s holds in u (`decided_holds`)
  module _ (p : ℕ) (decided_holds : matches (decided g s p) u ≡ true) where
    -- the variable of a condition that decides the process has the same number in both
    value_same : (c : ℕ) → Contains (deciding g s.values p) c →
        number_of u (value_variable c) ≡ number_of s (value_variable c)
    value_same c decides_it = same_number u s (value_variable c)
        (from_all (holds u) (decided g s p) (number_known s (value_variable c)) decided_holds
        (Contains-map (λ (c : ℕ). number_known s (value_variable c)) (deciding g s.values p) c decides_it))

    -- a condition that decides the process has the same value in both
    agrees : (c : ℕ) → c < condition_count g → decides g s.values p c ≡ true →
        get_or s.values c false ≡ get_or u.values c false
    agrees c below decides_it = one_value _ _ (sym (number_of-value s c) ∙
        sym (value_same c (Contains-filter (decides g s.values p) (numbers_below (condition_count g)) c decides_it
        (Contains-numbers (condition_count g) c below))) ∙ number_of-value u c)

    -- the process has the same activation in both
    activation_is_same : activation g s.values p ≡ activation g u.values p
    unfolding admission
    activation_is_same = activation_same g urgency admission.urgent p s.values u.values z.lawful_s.values
        z.lawful_u.values agrees

    -- the process is active in both scenarios or in neither
    pub active_is_same : active g s.values p ≡ active g u.values p
    active_is_same = ap is_active activation_is_same

    -- the same conditions decide the process in both
    deciding_is_same : deciding g s.values p ≡ deciding g u.values p
    unfolding admission
    deciding_is_same = deciding_same g urgency admission.urgent p s.values u.values agrees

    -- what decides the process is the same in both: the same conditions, with the same values
    pub decided_is_same : decided g u p ≡ decided g s p
    decided_is_same = ap (map (λ (c : ℕ). number_known u (value_variable c))) (sym deciding_is_same)
        ∙ same_map (λ (c : ℕ). number_known u (value_variable c)) (λ (c : ℕ). number_known s (value_variable c))
        (deciding g s.values p) (λ c decides_it. ap (exactly (value_variable c)) (value_same c decides_it))

    module _ (within : p < process_count g) where
      -- a condition that decides the process is one of the graph, of an active process
      decides_is_active : (c : ℕ) → Contains (deciding g s.values p) c →
          (c < condition_count g) × (active g s.values (process_of g c) ≡ true)
      unfolding admission
      decides_is_active c decides_it =
          let conditions = Contains-filter_parts (decides g s.values p)
          (numbers_below (condition_count g)) c decides_it in
          let below = numbers-Contains (condition_count g) c conditions.0 in (
            below,
            deciding_is_active g urgency admission.urgent
                (urgency_is_topological g admission.formed order admission.topological urgency admission.urgent)
                s.values p c below conditions.1,
          )

      -- given: p stands before the place `bound` or at it, so the rows of all that comes before p have the times of the runs
      module _ (at : place order p ≤ bound) where
        -- if what p hears in s of the conditions that decide it holds in u, it hears the same there
        module _ (heard_holds : matches (heard g rows s p) u ≡ true) where
          -- the broadcast of a deciding condition of another node tells the same in both scenarios: it is sent, as the graph has
          -- two nodes and the condition's process is active, and what its row tells in s is carried beside the start and so holds
          -- in u
          hears : (c : ℕ) → Contains (deciding g s.values p) c → (node_of g (process_of g c) == node_of g p) ≡ false →
              Told (broadcast_item g c)
          unfolding admission
          hears c decides_it far =
              let its_process = decides_is_active c decides_it in
              let two : 1 < length g.nodes = omega (
                arith,
                eqb-false (node_of g (process_of g c)) (node_of g p) far,
                admission.formed.nodes p within,
                admission.formed.nodes (process_of g c) (process_of_below g c its_process.0),
              ) in
              let tells : matches (carried_by_row rows s (broadcast_item g c)) u ≡ true =
              subst (λ b. matches (if b then [] else carried_by_row rows s (broadcast_item g c)) u ≡ true) far
              (holds_each u (λ c. if node_of g (process_of g c) == node_of g p then []
              else carried_by_row rows s (broadcast_item g c)) (deciding g s.values p) c heard_holds decides_it) in
              told (broadcast_item g c) (ap (item_active g s.values) (item_at-broadcast g c)
              ∙ and_from _ _ (lt-ltb 1 (length g.nodes) two) its_process.1) tells

          -- the broadcast of such a condition is an item of a process before the bound
          hears_at : (c : ℕ) → Contains (deciding g s.values p) c → IsEarlier g order bound (broadcast_item g c)
          unfolding admission
          hears_at c decides_it = let sent_earlier = hears_earlier g order admission.topological s p c decides_it in
              (sent_earlier.0, omega (arith, sent_earlier.1, at))

          -- the broadcast of a condition that decides p, from another node, has the same time in both
          pub hears_time : (c : ℕ) → Contains (deciding g s.values p) c →
              (node_of g (process_of g c) == node_of g p) ≡ false →
              get_or t.times (broadcast_item g c) None ≡ get_or w.times (broadcast_item g c) None
          unfolding Told
          hears_time c decides_it far = (hears c decides_it far (hears_at c decides_it)).time

          -- p hears the same in both: no row for a condition of its own node, and the same of each broadcast
          pub heard_is_same : heard g rows u p ≡ heard g rows s p
          unfolding Told
          heard_is_same = ap (flat_map (λ c. if node_of g (process_of g c) == node_of g p then []
              else carried_by_row rows u (broadcast_item g c))) (sym deciding_is_same)
              ∙ same_flat_map
              (λ c. if node_of g (process_of g c) == node_of g p then []
              else carried_by_row rows u (broadcast_item g c))
              (λ c. if node_of g (process_of g c) == node_of g p then []
              else carried_by_row rows s (broadcast_item g c))
              (deciding g s.values p)
              (λ c decides_it. elim (cases_Bool (node_of g (process_of g c) == node_of g p)) [
                | inl near ↦ cond-true _ _ _ near ∙ sym (cond-true _ _ _ near)
                | inr far ↦ ap (λ ls. if node_of g (process_of g c) == node_of g p then [] else ls)
                    (hears c decides_it far (hears_at c decides_it)).tells
              ])

        -- ---- its inputs, if it is active

        -- given: p is active in s
        module _ (on : active g s.values p ≡ true) where
          -- the same inputs of the process are live
          live_is_same : filter (live g s.values) (inputs g p) ≡ filter (live g u.values) (inputs g p)
          unfolding admission
          live_is_same =
              let some : 0 < process_count g = omega (arith, within) in
              let mine = activation_is g order admission.topological s.values p some in
              let its = activation_is g order admission.topological u.values p some in
              same_live_inputs (process_at g p).join (inputs g p) (live g s.values) (live g u.values)
              (λ j. admission.joins p s.values within j z.lawful_s.values)
              (λ j. admission.joins p u.values within j z.lawful_u.values)
              (sym mine ∙ activation_is_same ∙ its)
              (ap is_active (sym mine) ∙ on)

          -- each input is live in both scenarios or in neither
          live_at : (e : ℕ) → Contains (inputs g p) e → live g s.values e ≡ live g u.values e
          live_at e input = same_filter_at (live g s.values) (live g u.values) (inputs g p) live_is_same e input

          -- the message of a message edge is active exactly if the edge is live
          message_acts : (v : List Bool) (e : ℕ) → e < edge_count g → is_message g e ≡ true →
              item_active g v (item_at g (message_item g e)) ≡ live g v e
          message_acts v e below on_bus = ap (item_active g v) (item_at-message g e below)
              ∙ ap (λ b. b && live g v e) on_bus

          -- the message of an input is an item of a process before the bound
          receives_at : (e : ℕ) → Contains (inputs g p) e → IsEarlier g order bound (message_item g e)
          unfolding admission
          receives_at e input = let sent_earlier = receives_earlier g order admission.topological p e input in
              (sent_earlier.0, omega (arith, sent_earlier.1, at))

          -- given: what the messages to p told in s holds in u (`received_holds`)
          module _ (received_holds : matches (received g rows s p) u ≡ true) where
            -- the message of a live input tells in both scenarios
            receives : (e : ℕ) → Contains (inputs g p) e → is_message g e ≡ true → live g s.values e ≡ true →
                Told (message_item g e)
            receives e input is is_live = told (message_item g e)
                (message_acts s.values e (inputs_parts g p e input).0 is ∙ is_live)
                (subst (λ b. matches (if b then carried_by_row rows s (message_item g e) else []) u ≡ true) is
                (holds_each u (λ e. if is_message g e then carried_by_row rows s (message_item g e) else [])
                (inputs g p) e received_holds input))

            -- the message of a live input has the same time in both
            pub receives_time : (e : ℕ) → Contains (inputs g p) e → is_message g e ≡ true → live g s.values e ≡ true →
                get_or t.times (message_item g e) None ≡ get_or w.times (message_item g e) None
            unfolding Told
            receives_time e input is is_live = (receives e input is is_live (receives_at e input)).time

            -- the row of an input's message carries the same in both: by `receives` if the edge is live, and nothing in either if
            -- not
            message_same : (e : ℕ) → Contains (inputs g p) e → is_message g e ≡ true →
                carried_by_row rows u (message_item g e) ≡ carried_by_row rows s (message_item g e)
            unfolding Told
            message_same e input is = let below = (inputs_parts g p e input).0 in
                let at = receives_at e input in
                elim (cases_Bool (live g s.values e)) [
                  | inl is_live ↦ (receives e input is is_live at).tells
                  | inr off ↦
                      tells_nothing g order frozen rows (message_item g e) at.0 (z.times (message_item g e) at) u
                      z.lawful_u w z.run_w (message_acts u.values e below is ∙ sym (live_at e input) ∙ off)
                      ∙ sym (tells_nothing g order frozen rows (message_item g e) at.0
                      (z.times (message_item g e) at) s z.lawful_s t z.run_t (message_acts s.values e below is ∙ off))
                ]

            -- the process receives the same in both
            pub received_is_same : received g rows u p ≡ received g rows s p
            received_is_same = same_flat_map
                (λ e. if is_message g e then carried_by_row rows u (message_item g e) else [])
                (λ e. if is_message g e then carried_by_row rows s (message_item g e) else [])
                (inputs g p)
                (λ e input. elim (cases_Bool (is_message g e)) [
                  | inl is ↦ ap (λ ls. if is_message g e then ls else []) (message_same e input is)
                  | inr no_message ↦ cond-false _ _ _ no_message ∙ sym (cond-false _ _ _ no_message)
                ])

  -- ---- ends

  -- a process has the same count of faults in both if the literal of its count in s holds in u
  count_same : (p : ℕ) → p < process_count g → holds u (number_known s p) ≡ true → fault_of s p ≡ fault_of u p
  unfolding admission
  count_same p below count_holds = sym (number_of-fault s p (omega (arith, below, admission.formed.few_processes)))
      ∙ sym (same_number u s p count_holds)
      ∙ number_of-fault u p (omega (arith, below, admission.formed.few_processes))

  -- p starts in u too, at the same time, and the same is carried beside its start
  pub record SameStart (p : ℕ) : Type 0 where
    -- p is active in u
    pub acts : active g u.values p ≡ true
    -- it starts at the same time in both runs
    pub time : get_or t.times p None ≡ get_or w.times p None
    -- the same is carried beside its start in both scenarios
    pub told : carried_at_start g order rows u p ≡ carried_at_start g order rows s p

  -- the process then ends at the same time in both, if its count of faults in s holds in u
  pub end_is_same : (p : ℕ) → p < process_count g → active g s.values p ≡ true → SameStart p →
      holds u (number_known s p) ≡ true →
      end_in t p ≡ end_in w p
  end_is_same p below on same count_holds = end_active g order frozen s t z.run_t p below on
      ∙ ap₂ (λ o f. unwrap_or o 0 + duration g p f) same.time (count_same p below count_holds)
      ∙ sym (end_active g order frozen u w z.run_w p below same.acts)

  -- the same is carried beside the end of p in both, if its fault count is the same too
  pub end_told_same : (p : ℕ) → SameStart p → holds u (number_known s p) ≡ true →
      carried_at_end g order rows u p ≡ carried_at_end g order rows s p
  end_told_same p same count_holds = ap₂ (λ ls n. ls ++ exactly p n ∷ []) same.told (same_number u s p count_holds)

  -- ---- what a node carries on from a process

  -- each part of what a node carries on from q in s holds in u
  record Passes (q : ℕ) : Type 0 where
    -- what decides q
    decided : matches (decided g s q) u ≡ true
    -- what the broadcasts of that told
    heard : matches (heard g rows s q) u ≡ true
    -- what its execution adds, if it is active
    executed : active g s.values q ≡ true → matches (executed g rows s q) u ≡ true

  -- if all that a node carries on from q holds in u, each of its parts does; `executed` is a part only if q is active
  passes_parts : (q : ℕ) → matches (passed g rows s q) u ≡ true → Passes q
  passes_parts q all_hold =
      let front = holds_left u (decided g s q ++ heard g rows s q)
      (if active g s.values q then executed g rows s q else []) all_hold in
      let last = holds_right u (decided g s q ++ heard g rows s q)
      (if active g s.values q then executed g rows s q else []) all_hold in
      record {
        decided = holds_left u (decided g s q) (heard g rows s q) front;
        heard = holds_right u (decided g s q) (heard g rows s q) front;
        executed = λ on. subst (λ b. matches (if b then executed g rows s q else []) u ≡ true) on last;
      }

  -- if what an execution adds holds in u, so does the count of faults in it
  executed_count : (q : ℕ) → matches (executed g rows s q) u ≡ true → holds u (number_known s q) ≡ true
  executed_count q all_hold = from_all (holds u) (number_known s q ∷ []) (number_known s q)
      (holds_right u (if (process_at g q).frozen then [] else received g rows s q) (number_known s q ∷ []) all_hold)
      (Contains-first (number_known s q) [])

  -- if what an execution that is not frozen adds holds in u, so does what the messages to it told
  executed_received : (q : ℕ) → (process_at g q).frozen ≡ false → matches (executed g rows s q) u ≡ true →
      matches (received g rows s q) u ≡ true
  executed_received q free all_hold = subst (λ b. matches (if b then [] else received g rows s q) u ≡ true) free
      (holds_left u (if (process_at g q).frozen then [] else received g rows s q) (number_known s q ∷ []) all_hold)

  -- what an execution adds is the same in both if it holds in u
  executed_is_same : (q : ℕ) → q < process_count g → place order q ≤ bound → Passes q → active g s.values q ≡ true →
      executed g rows u q ≡ executed g rows s q
  executed_is_same q below at passes on =
      let all_hold = passes.executed on in
      ap (λ n. (if (process_at g q).frozen then [] else received g rows u q) ++ exactly q n ∷ [])
      (same_number u s q (executed_count q all_hold))
      ∙ ap (λ ls. ls ++ number_known s q ∷ []) (elim (cases_Bool (process_at g q).frozen) [
        | inl frozen_one ↦ cond-true _ _ _ frozen_one ∙ sym (cond-true _ _ _ frozen_one)
        | inr free ↦ cond-false _ _ _ free ∙ received_is_same q passes.decided below at on
            (executed_received q free all_hold)
            ∙ sym (cond-false _ _ _ free)
      ])

  -- what a node carries on from a process is the same in both if it holds in u
  passed_is_same : (q : ℕ) → q < process_count g → place order q ≤ bound → Passes q →
      passed g rows u q ≡ passed g rows s q
  passed_is_same q below at passes = ap₂ ◌++◌
      (ap₂ ◌++◌ (decided_is_same q passes.decided) (heard_is_same q passes.decided below at passes.heard))
      (elim (cases_Bool (active g s.values q)) [
        | inl on ↦ cond-true _ _ _ (sym (active_is_same q passes.decided) ∙ on) ∙ executed_is_same q below at passes on
            ∙ sym (cond-true _ _ _ on)
        | inr off ↦ cond-false _ _ _ (sym (active_is_same q passes.decided) ∙ off) ∙ sym (cond-false _ _ _ off)
      ])

  -- ---- a start that is not frozen

  -- each process before the place n is the same at its start if it is active in s and what is carried there holds in u
  Before : ℕ → Type 0
  Before n = (q : ℕ) → place order q < n → q < process_count g → active g s.values q ≡ true →
      matches (carried_at_start g order rows s q) u ≡ true → SameStart q

  -- each part of what is carried beside a start that isn't frozen holds in u
  record Starts (p : ℕ) : Type 0 where
    -- what each earlier process of the node passes on
    before : (q : ℕ) → Contains (before_on_node g order p) q → Passes q
    -- what decides p
    decided : matches (decided g s p) u ≡ true
    -- what the broadcasts of that told
    heard : matches (heard g rows s p) u ≡ true
    -- what the messages to p told
    received : matches (received g rows s p) u ≡ true

  -- if what is carried beside a start that is not frozen holds in u, its parts hold together
  free_parts : (p : ℕ) → (process_at g p).frozen ≡ false → matches (carried_at_start g order rows s p) u ≡ true →
      matches (flat_map (passed g rows s) (before_on_node g order p) ++ decided g s p ++ heard g rows s p
      ++ received g rows s p) u ≡ true
  free_parts p free all_hold = subst (λ ls. matches ls u ≡ true) (cond-false _ _ _ free) all_hold

  -- what is carried beside a start that is not frozen holds in u if its four parts do
  free_from : (p : ℕ) → (process_at g p).frozen ≡ false →
      matches (flat_map (passed g rows s) (before_on_node g order p)) u ≡ true →
      matches (decided g s p) u ≡ true →
      matches (heard g rows s p) u ≡ true →
      matches (received g rows s p) u ≡ true → matches (carried_at_start g order rows s p) u ≡ true
  free_from p free before_hold decided_hold heard_hold received_hold = subst (λ ls. matches ls u ≡ true)
      (sym (cond-false _ _ _ free))
      (holds_both u (flat_map (passed g rows s) (before_on_node g order p) ++ decided g s p ++ heard g rows s p)
      (received g rows s p)
      (holds_both u (flat_map (passed g rows s) (before_on_node g order p) ++ decided g s p) (heard g rows s p)
      (holds_both u (flat_map (passed g rows s) (before_on_node g order p)) (decided g s p) before_hold decided_hold)
      heard_hold) received_hold)

  -- what a process before it on its node carries on holds in u
  passes_at : (p : ℕ) → (process_at g p).frozen ≡ false → matches (carried_at_start g order rows s p) u ≡ true →
      (q : ℕ) → Contains (before_on_node g order p) q →
      matches (passed g rows s q) u ≡ true
  passes_at p free all_hold q before_p = holds_each u (passed g rows s) (before_on_node g order p) q
      (holds_left u (flat_map (passed g rows s) (before_on_node g order p)) (decided g s p)
      (holds_left u (flat_map (passed g rows s) (before_on_node g order p) ++ decided g s p) (heard g rows s p)
      (holds_left u (flat_map (passed g rows s) (before_on_node g order p) ++ decided g s p ++ heard g rows s p)
      (received g rows s p) (free_parts p free all_hold)))) before_p

  -- if what is carried beside the start of p, which isn't frozen, holds in u, each of its parts does
  starts_parts : (p : ℕ) → (process_at g p).frozen ≡ false → matches (carried_at_start g order rows s p) u ≡ true →
      Starts p
  starts_parts p free all_hold =
      let three =
      holds_left u (flat_map (passed g rows s) (before_on_node g order p) ++ decided g s p ++ heard g rows s p)
      (received g rows s p) (free_parts p free all_hold) in
      record {
        before = λ q before_p. passes_parts q (passes_at p free all_hold q before_p);
        decided = holds_right u (flat_map (passed g rows s) (before_on_node g order p)) (decided g s p)
            (holds_left u (flat_map (passed g rows s) (before_on_node g order p) ++ decided g s p)
            (heard g rows s p) three);
        heard = holds_right u (flat_map (passed g rows s) (before_on_node g order p) ++ decided g s p)
            (heard g rows s p) three;
        received =
            holds_right u (flat_map (passed g rows s) (before_on_node g order p) ++ decided g s p ++ heard g rows s p)
            (received g rows s p) (free_parts p free all_hold);
      }

  -- given: a start that is not frozen, such that what is carried beside it holds in u
  -- `at`: p is at the place `bound` or before it. `free`: its start isn't frozen. `on`: it is active in s.
  -- `start_holds`: what is carried beside its start in s holds in u. `earlier`: the theorem holds for the processes
  -- before p.
  module _ (p : ℕ) (within : p < process_count g) (at : place order p ≤ bound) (free : (process_at g p).frozen ≡ false)
      (on : active g s.values p ≡ true)
      (start_holds : matches (carried_at_start g order rows s p) u ≡ true) (earlier : Before (place order p)) where
    -- each part of what is carried beside the start holds in u
    parts : Starts p
    parts = starts_parts p free start_holds

    -- a process before on the node is earlier in the order
    earlier_at : (q : ℕ) → Contains (before_on_node g order p) q → Earlier g order z.timed.admitted.topological p q
    earlier_at q before_p = earlier_parts g order z.timed.admitted.topological p q before_p

    -- What is carried beside the start of an active process q before p on its node holds in u as well. If q is frozen, it is what
    -- decides q; otherwise all of its parts are among those of p, as the processes before q are before p.
    carried_before : (q : ℕ) → Contains (before_on_node g order p) q → active g s.values q ≡ true →
        matches (carried_at_start g order rows s q) u ≡ true
    carried_before q before_p acts =
        let q_earlier = earlier_at q before_p in
        let mine = parts.before q before_p in
        elim (cases_Bool (process_at g q).frozen) [
          | inl frozen_or_not ↦ subst (λ ls. matches ls u ≡ true) (sym (cond-true _ _ _ frozen_or_not)) mine.decided
          | inr frozen_or_not ↦ free_from q frozen_or_not
              (holds_all u (passed g rows s) (before_on_node g order q)
              (λ first before_q. passes_at p free start_holds first
              (up_to_earlier g order z.timed.admitted.topological p q first q_earlier
              (up_to_before g order z.timed.admitted.topological q first before_q))))
              mine.decided mine.heard (executed_received q frozen_or_not (mine.executed acts))
        ]

    -- a process before on the node starts at the same time in both
    start_before : (q : ℕ) → Contains (before_on_node g order p) q → active g s.values q ≡ true → SameStart q
    unfolding Before
    start_before q before_p acts = let q_earlier = earlier_at q before_p in
        earlier q q_earlier.earlier q_earlier.within acts (carried_before q before_p acts)

    -- a process before on the node ends at the same time in both
    end_before : (q : ℕ) → Contains (before_on_node g order p) q → active g s.values q ≡ true → end_in t q ≡ end_in w q
    end_before q before_p acts = end_is_same q (earlier_at q before_p).within acts (start_before q before_p acts)
        (executed_count q ((parts.before q before_p).executed acts))

    -- what decides a process up to p on its node holds in u
    decided_up_to : (q : ℕ) → Contains (up_to g order p) q → matches (decided g s q) u ≡ true
    decided_up_to q up_to_p = elim (up_to_cases g order z.timed.admitted.topological p q up_to_p) [
      | inl before_p ↦ (parts.before q before_p).decided
      | inr is ↦ subst (λ q. matches (decided g s q) u ≡ true) is parts.decided
    ]

    -- what such a process hears holds in u
    heard_up_to : (q : ℕ) → Contains (up_to g order p) q → matches (heard g rows s q) u ≡ true
    heard_up_to q up_to_p = elim (up_to_cases g order z.timed.admitted.topological p q up_to_p) [
      | inl before_p ↦ (parts.before q before_p).heard
      | inr is ↦ subst (λ q. matches (heard g rows s q) u ≡ true) is parts.heard
    ]

    -- the ends that p waits for on its processor are the same in both
    processor_same : processor_bounds g order s t p ≡ processor_bounds g order u w p
    processor_same = same_map (end_in t) (end_in w) (filter (active g s.values) (before_on_node g order p))
        (λ q before_p.
        let active_before = Contains-filter_parts (active g s.values) (before_on_node g order p) q before_p in
        end_before q active_before.0 active_before.1)
        ∙ ap (map (end_in w)) (same_filter (active g s.values) (active g u.values) (before_on_node g order p)
        (λ q before_p. active_is_same q (parts.before q before_p).decided))

    -- each condition that the start waits for is heard at the same time in both: one of the node itself at an earlier end on the
    -- node, any other by a broadcast whose time is carried with it
    hearing_at : (c : ℕ) → Contains (flat_map (deciding g s.values) (up_to g order p)) c →
        heard_there g t (node_of g p) c ≡ heard_there g w (node_of g p) c
    hearing_at c waited_for =
        let decided_one = Contains-flat_map_parts (deciding g s.values) (up_to g order p) c waited_for in
        let q : ℕ = decided_one.0 in
        let up = up_to_parts g order z.timed.admitted.topological p q within decided_one.1 in
        let its_process = decides_is_active q (decided_up_to q decided_one.1) up.within c decided_one.2 in
        let sooner = decides_earlier g order z.timed.admitted.topological s.values q c its_process.0
        (Contains-filter_parts (decides g s.values q) (numbers_below (condition_count g)) c decided_one.2).1 in
        elim (cases_Bool (node_of g (process_of g c) == node_of g p)) [
          | inl near ↦ cond-true _ _ _ near
              ∙ end_before (process_of g c) (earlier_from g order z.timed.admitted.topological p (process_of g c)
              (record {
                within = process_of_below g c its_process.0;
                node = eqb-true _ _ near;
                earlier = omega (arith, sooner, up.place);
              })) its_process.1
              ∙ sym (cond-true _ _ _ near)
          | inr far ↦ cond-false _ _ _ far
              ∙ ap (λ o. unwrap_or o 0 + slot_length g (home g (broadcast_item g c)))
              (hears_time q (decided_up_to q decided_one.1) up.within (omega (arith, up.place, at))
              (heard_up_to q decided_one.1) c decided_one.2
              (subst (λ n. (node_of g (process_of g c) == n) ≡ false) (sym up.node) far))
              ∙ sym (cond-false _ _ _ far)
        ]

    -- the bounds of hearing are the same: the same conditions are waited for in both, and each is heard at the same time
    hearing_same : hearing_bounds g order s t p ≡ hearing_bounds g order u w p
    hearing_same = same_map (heard_there g t (node_of g p)) (heard_there g w (node_of g p))
        (flat_map (deciding g s.values) (up_to g order p)) hearing_at
        ∙ ap (map (heard_there g w (node_of g p))) (same_flat_map (deciding g s.values) (deciding g u.values)
        (up_to g order p) (λ q j. deciding_is_same q (decided_up_to q j)))

    -- each live input is there at the same time in both: a message, whose time is carried with it, or the end of an earlier process
    -- on the node
    input_at : (e : ℕ) → Contains (inputs g p) e → live g s.values e ≡ true → input_there g t e ≡ input_there g w e
    input_at e is_input is_live =
        let of_edge = inputs_parts g p e is_input in
        elim (cases_Bool (is_message g e)) [
          | inl kind ↦ cond-true _ _ _ kind ∙ ap (λ o. unwrap_or o 0 + slot_length g (home g (message_item g e)))
              (receives_time p parts.decided within at on parts.received e is_input kind is_live) ∙
              sym (cond-true _ _ _ kind)
          | inr kind ↦
              let near : node_of g (source g e) ≡ node_of g (target g e) = eqb-true _ _ (not-false _ kind) in
              cond-false _ _ _ kind
              ∙ end_before (source g e) (earlier_from g order z.timed.admitted.topological p (source g e)
              (record {
                within = z.timed.admitted.formed.sources e of_edge.0;
                node = near ∙ ap (node_of g) of_edge.1;
                earlier = input_goes_up g order z.timed.admitted.topological p e is_input;
              }))
              (and_parts _ _ is_live).0
              ∙ sym (cond-false _ _ _ kind)
        ]

    -- the inputs are there at the same time
    inputs_same : input_bounds g s t p ≡ input_bounds g u w p
    inputs_same = same_map (input_there g t) (input_there g w) (filter (live g s.values) (inputs g p))
        (λ e is_input. let live_input = Contains-filter_parts (live g s.values) (inputs g p) e is_input in
        input_at e live_input.0 live_input.1)
        ∙ ap (map (input_there g w)) (live_is_same p parts.decided within at on)

    -- all bounds of the start are the same
    bounds_same : start_bounds g order s t p ≡ start_bounds g order u w p
    bounds_same = ap₂ (λ xs ys. (process_at g p).release ∷ xs ++ ys) (ap₂ ◌++◌ inputs_same processor_same) hearing_same

    -- if p isn't frozen, its start is the same in both: p is active in u too, its bounds are the same, and so is each part of
    -- what is carried
    free_start : SameStart p
    free_start =
        let also = sym (active_is_same p parts.decided) ∙ on in
        let item = item_at-start g p within in
        record {
          acts = also;
          time = free_time_same p (omega (arith, within)) (ap (item_active g s.values) item ∙ on)
              (ap (item_active g u.values) item ∙ also)
              (ap (λ i. greatest (bounds_of_item g order s t p i)) item ∙ ap greatest bounds_same
              ∙ sym (ap (λ i. greatest (bounds_of_item g order u w p i)) item));
          told = cond-false _ _ _ free
              ∙ ap₂ ◌++◌ (ap₂ ◌++◌ (ap₂ ◌++◌
              (same_flat_map (passed g rows u) (passed g rows s) (before_on_node g order p)
              (λ q before_p. let q_earlier = earlier_at q before_p in
              passed_is_same q q_earlier.within (omega (arith, q_earlier.earlier, at)) (parts.before q before_p)))
              (decided_is_same p parts.decided))
              (heard_is_same p parts.decided within at parts.heard))
              (received_is_same p parts.decided within at on parts.received)
              ∙ sym (cond-false _ _ _ free);
        }

  -- ---- each start

  -- if what is carried beside a frozen start holds in u, the start is the same in both
  frozen_start : (p : ℕ) → p < process_count g → (process_at g p).frozen ≡ true → active g s.values p ≡ true →
      matches (carried_at_start g order rows s p) u ≡ true → SameStart p
  frozen_start p below frozen_one on all_hold =
      let decided_holds = subst (λ ls. matches ls u ≡ true) (cond-true _ _ _ frozen_one) all_hold in
      let also = sym (active_is_same p decided_holds) ∙ on in
      let item = item_at-start g p below in
      record {
        acts = also;
        time = frozen_time_same p (omega (arith, below)) (ap (is_frozen_item g) item ∙ frozen_one)
            (ap (item_active g s.values) item ∙ on) (ap (item_active g u.values) item ∙ also);
        told = cond-true _ _ _ frozen_one ∙ decided_is_same p decided_holds ∙ sym (cond-true _ _ _ frozen_one);
      }

  -- `Before n` for each n up to the bound, by induction: a start that isn't frozen rests on those at earlier places
  starts_below : (n : ℕ) → n ≤ suc bound → Before n
  unfolding Before
  starts_below zero up_to_bound q before_n below on all_hold = absurd (omega (arith, before_n))
  starts_below (suc n) up_to_bound q before_n below on all_hold = elim (cases_Bool (process_at g q).frozen) [
    | inl frozen_one ↦ frozen_start q below frozen_one on all_hold
    | inr free ↦ free_start q below (omega (arith, before_n, up_to_bound)) free on all_hold
        (λ r c. starts_below n (omega (arith, up_to_bound)) r (omega (arith, before_n, c)))
  ]

  -- if what is carried beside a start holds in u, the start is the same in both
  pub start_alike : (p : ℕ) → p < process_count g → place order p ≤ bound → active g s.values p ≡ true →
      matches (carried_at_start g order rows s p) u ≡ true → SameStart p
  unfolding Before
  start_alike p below at on all_hold = starts_below (suc bound) (omega arith) p (omega (arith, at)) below on all_hold
