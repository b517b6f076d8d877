-- The start that is found for the process at a place, from what is known before the place, is its start in the run.
use Rattle.std.proofs.Common.{◌≡◌, ◌∙◌, ℕ, ◌+◌, ◌<◌, ◌≤◌, max, true, ◌==◌, if◌then◌else◌, List, [], ◌∷◌, ◌++◌, length}
use Rattle.std.proofs.Common.{get_or, filter, flat_map, Contains, Option, Some, None, option_to_list}
use Rattle.std.proofs.Common.{unwrap_or, arith, refl, sym, ap, ap₂, inl, inr, subst, eq-eqb, eqb-true}
use Rattle.std.proofs.lemmas.Bool.{cases_lt}
use Rattle.std.proofs.lemmas.List.{get_or_past}
use Rattle.std.proofs.lemmas.List.Elements.{Contains-append_left, Contains-append_right, Contains-append_cases}
use Rattle.cpg_base.specs.Numbers.{numbers_below, greatest}
use Rattle.cpg_base.specs.Graph.{Graph, process_count, edge_count, condition_count, item_count, message_item}
use Rattle.cpg_base.specs.Graph.{broadcast_item, producer, producer_of_item, process_of, process_at, node_of, home}
use Rattle.cpg_base.specs.Graph.{source}
use Rattle.cpg_base.specs.Graph.{inputs, is_message}
use Rattle.cpg_base.specs.Activity.{active, live}
use Rattle.cpg_base.specs.Bus.{slot_length}
use Rattle.cpg_base.proofs.Inputs.{inputs_parts}
use Rattle.cpg_base.proofs.Items.{item_at-start, item_at-message, item_at-broadcast, process_of_below}
use Rattle.cpg_base.proofs.Lists.{greatest-cons, greatest-le, greatest_above, Contains-first, Contains-cases}
use Rattle.cpg_base.proofs.Lists.{Contains-nil, Contains-map, Contains-filter, Contains-filter_parts, Contains-flat_map}
use Rattle.cpg_base.proofs.Lists.{Contains-flat_map_parts, Contains-numbers, numbers-Contains}
use Rattle.cpg_order.specs.Urgency.{IsTopological}
use Rattle.cpg_base.specs.Order.{place, before, before_on_node}
use Rattle.cpg_order.specs.Deciding.{decides, deciding}
use Rattle.cpg_base.specs.Scenario.{Scenario}
use Rattle.cpg_order.proofs.Acyclic.{input_goes_up, source_in_order}
use Rattle.cpg_order.proofs.DecidingLaws.{decides_earlier}
use Rattle.cpg_base.proofs.Places.{Contains-order, Contains-before, from_order, on_node_before}
use Rattle.cpg_run.specs.Run.{Times, IsRun, time_in, end_in, frame_there, input_there, heard_there, input_bounds}
use Rattle.cpg_run.specs.Run.{start_bounds, bounds_of_item, unfrozen_time}
use Rattle.cpg_run.proofs.Runs.{time_in_active, start_acts, release_below, input_below, before_below, hearing_below}
use Rattle.cpg_run.specs.Known.{AreSmall, frozen_in}
use Rattle.cpg_run.specs.Most.{IsMost}
use Rattle.cpg_run.specs.Progress.{Knows, IsReady}
use Rattle.cpg_run.proofs.Bounded.{start_bounds_le, passing_le}

-- the greatest of the list of an optional time is the time, or 0 if there is none
pub greatest_option : (o : Option ℕ) → greatest (option_to_list o) ≡ unwrap_or o 0
greatest_option None = refl
greatest_option (Some n) = greatest-cons n [] ∙ omega arith

-- two numbers that are each at most the other are the same
pub both_ways_equal : (a b : ℕ) → a ≤ b → b ≤ a → a ≡ b
both_ways_equal a b a_at_most b_at_most = omega arith

-- given: what is known before place i: the times and ends of all processes before it, as they are in the run t
module _ (g : Graph) (order : List ℕ) (t : Times) (i : ℕ) (known : Times) (knows : Knows g order t i known) where
  -- what is known of the time of an item before the place is its time in the run
  pub known_item : (x : ℕ) → x < item_count g → place order (producer g x) < i → time_in known x ≡ time_in t x
  known_item x below less = ap (λ o. unwrap_or o 0) (knows.times x below less)

  -- what is known of the end of a process before the place is its end in the run
  pub known_end : (q : ℕ) → q < process_count g → place order q < i → end_in known q ≡ end_in t q
  known_end q below less = ap (λ o. unwrap_or o 0) (knows.ends q below less)

  -- what is known of the arrival of an earlier process's frame is its arrival in the run
  known_frame : (x : ℕ) → x < item_count g → place order (producer g x) < i → frame_there g known x ≡ frame_there g t x
  known_frame x below less = ap (λ n. n + slot_length g (home g x)) (known_item x below less)

  -- what is known of when an input is there, whose source is before the place, is so in the run
  pub known_input_of : (e : ℕ) → e < edge_count g → source g e < process_count g → place order (source g e) < i →
      input_there g known e ≡ input_there g t e
  known_input_of e e_below l less = ap₂ (λ v w. if is_message g e then v else w)
      (known_frame (message_item g e) (omega arith)
      (omega (arith, ap (λ j. place order (producer_of_item g j)) (item_at-message g e e_below))))
      (known_end (source g e) l less)

  -- what is known of when a node hears a condition of a process before the place is so in the run
  pub known_heard_of : (node c : ℕ) → c < condition_count g → place order (process_of g c) < i →
      heard_there g known node c ≡ heard_there g t node c
  known_heard_of node c below less = ap₂ (λ v w. if node_of g (process_of g c) == node then v else w)
      (known_end (process_of g c) (process_of_below g c below) less)
      (known_frame (broadcast_item g c) (omega arith)
      (omega (arith, ap (λ j. place order (producer_of_item g j)) (item_at-broadcast g c))))

  -- if the times of a run are below 2 ^ 59, so is what is known of it: it is a time of the run, or 0
  pub known_small : length known.times ≡ item_count g → length known.ends ≡ process_count g → AreSmall t →
      AreSmall known
  known_small items processes small = record {
    -- of an item of an earlier process its time of the run is known, and of any other nothing
    times = λ x. elim (cases_lt x (item_count g)) [
      | inr past ↦ let no_time : time_in known x ≡ 0 =
          ap (λ o. unwrap_or o 0) (get_or_past known.times x None (omega arith)) in
          omega arith
      | inl below ↦ elim (cases_lt (place order (producer g x)) i) [
        | inl place_order ↦ omega (arith, known_item x below place_order, small.times x)
        | inr place_order ↦ let no_time : time_in known x ≡ 0 =
            ap (λ o. unwrap_or o 0) (knows.later x below place_order) in omega arith
      ]
    ];
    -- of an earlier process its end of the run is known, and of any other nothing
    ends = λ p. elim (cases_lt p (process_count g)) [
      | inr past ↦ let no_time : end_in known p ≡ 0 =
          ap (λ o. unwrap_or o 0) (get_or_past known.ends p None (omega arith)) in
          omega arith
      | inl below ↦ elim (cases_lt (place order p) i) [
        | inl place_order ↦ omega (arith, known_end p below place_order, small.ends p)
        | inr place_order ↦ let no_time : end_in known p ≡ 0 =
            ap (λ o. unwrap_or o 0) (knows.no_ends p below place_order) in omega arith
      ]
    ];
  }

  -- given: the process at the place
  module _ (topological : IsTopological g order) (s : Scenario) (p : ℕ) (p_below : p < process_count g)
      (at : place order p ≡ i) where
    -- what is known of when an input of p is there is so in the run
    pub known_input : (e : ℕ) → Contains (inputs g p) e → input_there g known e ≡ input_there g t e
    known_input e among =
        let below = (inputs_parts g p e among).0 in
        known_input_of e below (source_in_order g order topological e below)
        (omega (arith, input_goes_up g order topological p e among))

    -- a condition that decides a process up to the place is that of an earlier process
    pub decided_sooner : (q c : ℕ) → place order q ≤ i → c < condition_count g → decides g s.values q c ≡ true →
        place order (process_of g c) < i
    decided_sooner q c at_most below is_true = omega
        (arith, decides_earlier g order topological s.values q c below is_true)

    -- an earlier process on the node of p is before p on its node
    before_in : (q : ℕ) → q < process_count g → place order q < i → node_of g q ≡ node_of g p →
        Contains (before_on_node g order p) q
    before_in q below less same =
        Contains-filter (λ (r : ℕ). node_of g r == node_of g p) (before order p) q (eq-eqb _ _ same)
        (Contains-before order q p (Contains-order (process_count g) order topological.all q below) (omega arith))

    -- a condition that decides a process up to p on its node is one that p's start waits for
    in_hearing : (q c : ℕ) → Contains (before_on_node g order p ++ p ∷ []) q → c < condition_count g →
        decides g s.values q c ≡ true
        → Contains (flat_map (deciding g s.values) (before_on_node g order p ++ p ∷ [])) c
    in_hearing q c among below is_true = Contains-flat_map (deciding g s.values)
        (before_on_node g order p ++ p ∷ []) q c among
        (Contains-filter (decides g s.values q) (numbers_below (condition_count g)) c is_true
        (Contains-numbers (condition_count g) c below))

    -- if v is the greatest time at which the node hears a condition that decides p, by what is known, it is so in the run
    pub decided_in_run : (v : ℕ) →
        IsMost (λ c. (c < condition_count g) × (decides g s.values p c ≡ true)) (heard_there g known (node_of g p)) v
        → IsMost (λ c. (c < condition_count g) × (decides g s.values p c ≡ true)) (heard_there g t (node_of g p)) v
    decided_in_run v m = record {
      above = λ c d.
          omega (arith, m.above c d, known_heard_of (node_of g p) c d.0 (decided_sooner p c (omega arith) d.0 d.1));
      least = λ b h. m.least b
          (λ c d. omega (arith, h c d, known_heard_of (node_of g p) c d.0 (decided_sooner p c (omega arith) d.0 d.1)));
    }

    -- given: when the node is ready, and when it has heard what decides the process, which is active
    -- `run`, `acts`: t is the run, and p is active in it. `is_ready`: the node is ready once the active processes
    -- before p have ended and it has heard what decides them. `is_heard`: it has heard what decides p.
    module _ (frozen : List (Option ℕ)) (run : IsRun g order frozen s t) (acts : active g s.values p ≡ true)
        (ready heard : ℕ) (is_ready : IsReady g order s t i (node_of g p) ready)
        (is_heard : IsMost (λ c. (c < condition_count g) × (decides g s.values p c ≡ true))
        (heard_there g known (node_of g p)) heard) where
      -- the time by which all live inputs are there, by what is known
      abbrev inputs_by : ℕ
      inputs_by = greatest (input_bounds g s known p)

      -- the time found: the greatest of all bounds and the frozen time
      abbrev found : ℕ
      found = max (max (max (max ready heard) (process_at g p).release) inputs_by) (frozen_in frozen p)

      -- the start in the run is the greatest of its bounds and its frozen time
      time_is : time_in t p ≡ max (greatest (start_bounds g order s t p)) (frozen_in frozen p)
      time_is = time_in_active g order frozen s t run p (omega arith) (start_acts g order frozen s t run p p_below acts)
          ∙ greatest-cons (unfrozen_time g order s t p) (option_to_list (get_or frozen p None))
          ∙ ap₂ max (ap (λ j. greatest (bounds_of_item g order s t p j)) (item_at-start g p p_below))
          (greatest_option (get_or frozen p None))

      -- the node is ready by the start
      ready_by : ready ≤ time_in t p
      ready_by = is_ready.least (time_in t p)
          (λ q k less same a. before_below g order frozen s t run p q p_below acts (before_in q k less same) a)
          (λ q c k less same h d. hearing_below g order frozen s t run p c p_below acts (in_hearing q c
          (Contains-append_left (before_on_node g order p) (p ∷ []) q (before_in q k less same)) h d))

      -- all that decides the process has been heard by the start
      heard_by : heard ≤ time_in t p
      heard_by = (decided_in_run heard is_heard).least (time_in t p)
          (λ c d. hearing_below g order frozen s t run p c p_below acts (in_hearing p c
          (Contains-append_right (before_on_node g order p) (p ∷ []) p (Contains-first p [])) d.0 d.1))

      -- the inputs are there by the start
      inputs_in : inputs_by ≤ time_in t p
      inputs_in = greatest-le (input_bounds g s known p) (time_in t p)
          (λ v among. passing_le (input_there g known) (filter (live g s.values) (inputs g p)) v (time_in t p)
          (λ e is_live. let live_input = Contains-filter_parts (live g s.values) (inputs g p) e is_live in
          omega (
            arith,
            known_input e live_input.0,
            input_below g order frozen s t run p e p_below acts live_input.0
                live_input.1,
          )) among)

      -- each condition that the start waits for is heard by the time found: one that decides p by `heard`, one that decides a
      -- process before p on its node by `ready`
      heard_found : (c : ℕ) → Contains (flat_map (deciding g s.values) (before_on_node g order p ++ p ∷ [])) c →
          heard_there g t (node_of g p) c ≤ found
      heard_found c waited_for =
          let decided = Contains-flat_map_parts (deciding g s.values)
          (before_on_node g order p ++ p ∷ []) c waited_for in
          let parts = Contains-filter_parts (decides g s.values decided.0)
          (numbers_below (condition_count g)) c decided.2 in
          let c_below = numbers-Contains (condition_count g) c parts.0 in
          elim (Contains-append_cases (before_on_node g order p) (p ∷ []) decided.0 decided.1) [
            -- it decides an earlier process of the node, so it is heard by the time that the node is ready
            | inl which ↦
                let before_p = on_node_before g order p decided.0 which in
                let same : node_of g decided.0 ≡ node_of g p = eqb-true _ _
                (Contains-filter_parts (λ (r : ℕ). node_of g r == node_of g p)
                (before order p) decided.0 which).1 in
                omega (
                  arith,
                  is_ready.heard decided.0 c (from_order (process_count g) order topological.all decided.0 before_p.0)
                      (omega (arith, before_p.1)) same c_below parts.1,
                )
            -- it decides p itself
            | inr which ↦ elim (Contains-cases p [] decided.0 which) [
              | inl is_p ↦ omega (
                arith,
                (decided_in_run heard is_heard).above c
                    (c_below, subst (λ q. decides g s.values q c ≡ true) (sym is_p) parts.1),
              )
              | inr none ↦ absurd (Contains-nil decided.0 none)
            ]
          ]

      -- no bound of the start is later than the time found: by its kind, the release, an input, an end before p on its node, or a
      -- condition heard
      bounds_found : greatest (start_bounds g order s t p) ≤ found
      bounds_found = start_bounds_le g order s t p found (omega arith)
          (λ e among is_live. omega (
            arith,
            known_input e among,
            greatest_above (input_bounds g s known p) (input_there g known e)
                (Contains-map (input_there g known) (filter (live g s.values) (inputs g p)) e
                (Contains-filter (live g s.values) (inputs g p) e is_live among)),
          ))
          (λ q among is_live.
          let before_p = on_node_before g order p q among in
          let same : node_of g q ≡ node_of g p =
          eqb-true _ _ (Contains-filter_parts (λ (r : ℕ). node_of g r == node_of g p) (before order p) q among).1 in
          omega (
            arith,
            is_ready.ends q (from_order (process_count g) order topological.all q before_p.0)
                (omega (arith, before_p.1)) same is_live,
          ))
          heard_found

      -- the time found is the start of p in the run: each of its parts is at most the start, and no bound of the start is above it
      pub start_is : max (max (max (max ready heard) (process_at g p).release) (greatest (input_bounds g s known p)))
          (frozen_in frozen p) ≡ time_in t p
      start_is = both_ways_equal found (time_in t p)
          (omega (arith, ready_by, heard_by, inputs_in, release_below g order frozen s t run p p_below acts, time_is))
          (omega (arith, time_is, bounds_found))
