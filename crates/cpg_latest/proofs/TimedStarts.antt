-- The start of the process at a place follows from what is known before the place.
use Rattle.std.proofs.Common.{◌≡◌, ◌∙◌, ℕ, ◌+◌, ◌<◌, ◌≤◌, max, true, ◌==◌, if◌then◌else◌, List, [], ◌∷◌, ◌++◌, length}
use Rattle.std.proofs.Common.{get_or, filter, flat_map, Contains, Option, Some, None, option_to_list}
use Rattle.std.proofs.Common.{unwrap_or, arith, refl, sym, ap, ap₂, inl, inr, subst, eq-eqb, eqb-true}
use Rattle.std.proofs.lemmas.Bool.{cases_lt}
use Rattle.std.proofs.lemmas.List.{get_or_past}
use Rattle.std.proofs.lemmas.List.Elements.{Contains-append_left, Contains-append_right, Contains-append_cases}
use Rattle.cpg_base.specs.Numbers.{numbers_below, greatest}
use Rattle.cpg_base.specs.Graph.{Graph, process_count, edge_count, condition_count, item_count, message_item}
use Rattle.cpg_base.specs.Graph.{broadcast_item, producer, producer_of_item, process_of, process_at, node_of, home}
use Rattle.cpg_base.specs.Graph.{source}
use Rattle.cpg_base.specs.Graph.{inputs, is_message}
use Rattle.cpg_base.specs.Activity.{active, live}
use Rattle.cpg_base.specs.Bus.{slot_length}
use Rattle.cpg_base.proofs.Inputs.{inputs_parts}
use Rattle.cpg_base.proofs.Items.{item_at-start, item_at-message, item_at-broadcast, process_of_below}
use Rattle.cpg_base.proofs.Lists.{greatest-cons, greatest-le, greatest_above, Contains-first, Contains-cases}
use Rattle.cpg_base.proofs.Lists.{Contains-nil, Contains-map, Contains-filter, Contains-filter_parts, Contains-flat_map}
use Rattle.cpg_base.proofs.Lists.{Contains-flat_map_parts, Contains-numbers, numbers-Contains}
use Rattle.cpg_order.specs.Urgency.{IsTopological}
use Rattle.cpg_base.specs.Order.{place, before, before_on_node}
use Rattle.cpg_order.specs.Deciding.{decides, deciding}
use Rattle.cpg_base.specs.Scenario.{Scenario}
use Rattle.cpg_order.proofs.Acyclic.{input_goes_up, source_in_order}
use Rattle.cpg_order.proofs.DecidingLaws.{decides_earlier}
use Rattle.cpg_base.proofs.Places.{Contains-order, Contains-before, from_order, on_node_before}
use Rattle.cpg_latest.specs.Timed.{IsTimed}
use Rattle.cpg_run.specs.Run.{Times, time_in, end_in, frame_there, input_there, heard_there, input_bounds, start_bounds}
use Rattle.cpg_run.specs.Run.{bounds_of_item, unfrozen_time}
use Rattle.cpg_latest.proofs.Timed.{time_in_active, start_acts, release_below, input_below, before_below, hearing_below}
use Rattle.cpg_run.specs.Known.{AreSmall, frozen_in}
use Rattle.cpg_run.specs.Most.{IsMost}
use Rattle.cpg_run.specs.Progress.{Knows, IsReady}
use Rattle.cpg_run.proofs.Bounded.{start_bounds_le, passing_le}

-- the greatest of the list of an optional time is that time, or 0
pub greatest_option : (o : Option ℕ) → greatest (option_to_list o) ≡ unwrap_or o 0
greatest_option None = refl
greatest_option (Some n) = greatest-cons n [] ∙ omega arith

-- two numbers are equal if each is at most the other
pub both_ways_equal : (a b : ℕ) → a ≤ b → b ≤ a → a ≡ b
both_ways_equal a b h k = omega arith

-- given: what is known of the times t before the place i
module _ (g : Graph) (order : List ℕ) (t : Times) (i : ℕ) (known : Times) (knows : Knows g order t i known) where
  -- the time of an earlier process's item is known
  pub known_item : (x : ℕ) → x < item_count g → place order (producer g x) < i → time_in known x ≡ time_in t x
  known_item x within h = ap (λ o. unwrap_or o 0) (knows.times x within h)

  -- the end of an earlier process is known
  pub known_end : (q : ℕ) → q < process_count g → place order q < i → end_in known q ≡ end_in t q
  known_end q within h = ap (λ o. unwrap_or o 0) (knows.ends q within h)

  -- the arrival of an earlier process's frame is known
  known_frame : (x : ℕ) → x < item_count g → place order (producer g x) < i → frame_there g known x ≡ frame_there g t x
  known_frame x within h = ap (λ n. n + slot_length g (home g x)) (known_item x within h)

  -- what is known tells when an input from before the place is there, just as the times t do
  pub known_input_of : (e : ℕ) → e < edge_count g → source g e < process_count g → place order (source g e) < i →
      input_there g known e ≡ input_there g t e
  known_input_of e within inside less = ap₂ (λ v w. if is_message g e then v else w)
      (known_frame (message_item g e) (omega arith)
      (omega (arith, ap (λ j. place order (producer_of_item g j)) (item_at-message g e within))))
      (known_end (source g e) inside less)

  -- what is known tells when a node hears a condition from before the place, just as the times t do
  pub known_heard_of : (node c : ℕ) → c < condition_count g → place order (process_of g c) < i →
      heard_there g known node c ≡ heard_there g t node c
  known_heard_of node c within less = ap₂ (λ v w. if node_of g (process_of g c) == node then v else w)
      (known_end (process_of g c) (process_of_below g c within) less)
      (known_frame (broadcast_item g c) (omega arith)
      (omega (arith, ap (λ j. place order (producer_of_item g j)) (item_at-broadcast g c))))

  -- if the times t are below 2 ^ 59, so is what is known of them: it is a time of t, or 0
  pub known_small : length known.times ≡ item_count g → length known.ends ≡ process_count g → AreSmall t →
      AreSmall known
  known_small items processes small = record {
    times = λ x. elim (cases_lt x (item_count g)) [
      | inr past ↦ let no_time : time_in known x ≡ 0 =
          ap (λ o. unwrap_or o 0) (get_or_past known.times x None (omega arith)) in
          omega arith
      | inl within ↦ elim (cases_lt (place order (producer g x)) i) [
        | inl sooner ↦ omega (arith, known_item x within sooner, small.times x)
        | inr not_sooner ↦ let no_time : time_in known x ≡ 0 = ap (λ o. unwrap_or o 0)
            (knows.later x within not_sooner) in omega arith
      ]
    ];
    ends = λ p. elim (cases_lt p (process_count g)) [
      | inr past ↦ let no_end : end_in known p ≡ 0 = ap (λ o. unwrap_or o 0)
          (get_or_past known.ends p None (omega arith)) in
          omega arith
      | inl within ↦ elim (cases_lt (place order p) i) [
        | inl sooner ↦ omega (arith, known_end p within sooner, small.ends p)
        | inr not_sooner ↦ let no_end : end_in known p ≡ 0 = ap (λ o. unwrap_or o 0)
            (knows.no_ends p within not_sooner) in omega arith
      ]
    ];
  }

  module _ (topological : IsTopological g order) (s : Scenario) (p : ℕ) (within : p < process_count g)
      (at : place order p ≡ i) where
    -- what is known tells when each input of the process at the place is there, just as the times t do
    pub known_input : (e : ℕ) → Contains (inputs g p) e → input_there g known e ≡ input_there g t e
    known_input e input =
        let inside = (inputs_parts g p e input).0 in
        known_input_of e inside (source_in_order g order topological e inside)
        (omega (arith, input_goes_up g order topological p e input))

    -- what decides a process at the place or before it is from before the place
    pub decided_sooner : (q c : ℕ) → place order q ≤ i → c < condition_count g → decides g s.values q c ≡ true →
        place order (process_of g c) < i
    decided_sooner q c h inside holds = omega (arith, decides_earlier g order topological s.values q c inside holds)

    -- an earlier process on the same node is one of those before it there
    before_in : (q : ℕ) → q < process_count g → place order q < i → node_of g q ≡ node_of g p →
        Contains (before_on_node g order p) q
    before_in q inside less same =
        Contains-filter (λ (r : ℕ). node_of g r == node_of g p) (before order p) q (eq-eqb _ _ same)
        (Contains-before order q p (Contains-order (process_count g) order topological.all q inside) (omega arith))

    -- a condition that decides one of these processes is among those that their node hears
    in_hearing : (q c : ℕ) → Contains (before_on_node g order p ++ p ∷ []) q → c < condition_count g →
        decides g s.values q c ≡ true
        → Contains (flat_map (deciding g s.values) (before_on_node g order p ++ p ∷ [])) c
    in_hearing q c there inside holds = Contains-flat_map (deciding g s.values)
        (before_on_node g order p ++ p ∷ []) q c there
        (Contains-filter (decides g s.values q) (numbers_below (condition_count g)) c holds
        (Contains-numbers (condition_count g) c inside))

    -- if by what is known the node has heard at v all that decides p, it has in the times t
    pub decided_in_run : (v : ℕ) →
        IsMost (λ c. (c < condition_count g) × (decides g s.values p c ≡ true)) (heard_there g known (node_of g p)) v
        → IsMost (λ c. (c < condition_count g) × (decides g s.values p c ≡ true)) (heard_there g t (node_of g p)) v
    decided_in_run v most = record {
      above = λ c d.
          omega (arith, most.above c d, known_heard_of (node_of g p) c d.0 (decided_sooner p c (omega arith) d.0 d.1));
      least = λ b h. most.least b
          (λ c d. omega (arith, h c d, known_heard_of (node_of g p) c d.0 (decided_sooner p c (omega arith) d.0 d.1)));
    }

    -- given: an active process, when its node is ready, and when that has heard what decides the process
    module _ (frozen : List (Option ℕ)) (run : IsTimed g order frozen s t) (acts : active g s.values p ≡ true)
        (ready heard : ℕ) (is_ready : IsReady g order s t i (node_of g p) ready)
        (is_heard : IsMost (λ c. (c < condition_count g) × (decides g s.values p c ≡ true))
        (heard_there g known (node_of g p)) heard) where
      -- the time by which all live inputs are there, by what is known
      abbrev inputs_by : ℕ
      inputs_by = greatest (input_bounds g s known p)

      -- the time found: the greatest of all bounds and the frozen time
      abbrev found : ℕ
      found = max (max (max (max ready heard) (process_at g p).release) inputs_by) (frozen_in frozen p)

      -- the start of p in the times t is the greatest of its bounds and its frozen time
      time_is : time_in t p ≡ max (greatest (start_bounds g order s t p)) (frozen_in frozen p)
      time_is = time_in_active g order frozen s t run p (omega arith) (start_acts g order frozen s t run p within acts)
          ∙ greatest-cons (unfrozen_time g order s t p) (option_to_list (get_or frozen p None))
          ∙ ap₂ max (ap (λ j. greatest (bounds_of_item g order s t p j)) (item_at-start g p within))
          (greatest_option (get_or frozen p None))

      -- the node is ready by the start, since the start waits for the ends and hearings of which that is the least bound
      ready_by : ready ≤ time_in t p
      ready_by = is_ready.least (time_in t p)
          (λ q inside less same is_active. before_below g order frozen s t run p q within acts
          (before_in q inside less same) is_active)
          (λ q c k less same inside holds. hearing_below g order frozen s t run p c within acts (in_hearing q c
          (Contains-append_left (before_on_node g order p) (p ∷ []) q (before_in q k less same)) inside holds))

      -- all that decides the process has been heard by the start
      heard_by : heard ≤ time_in t p
      heard_by = (decided_in_run heard is_heard).least (time_in t p)
          (λ c d. hearing_below g order frozen s t run p c within acts (in_hearing p c
          (Contains-append_right (before_on_node g order p) (p ∷ []) p (Contains-first p [])) d.0 d.1))

      -- the inputs are there by the start
      inputs_in : inputs_by ≤ time_in t p
      inputs_in = greatest-le (input_bounds g s known p) (time_in t p)
          (λ v there. passing_le (input_there g known) (filter (live g s.values) (inputs g p)) v (time_in t p)
          (λ e among. let parts = Contains-filter_parts (live g s.values) (inputs g p) e among in
          omega (
            arith,
            known_input e parts.0,
            input_below g order frozen s t run p e within
                acts parts.0 parts.1,
          )) there)

      -- a condition that decides p or an earlier process of its node is heard by the time found: for an earlier process when the
      -- node is ready, for p when it has heard what decides p
      heard_found : (c : ℕ) → Contains (flat_map (deciding g s.values) (before_on_node g order p ++ p ∷ [])) c →
          heard_there g t (node_of g p) c ≤ found
      heard_found c there =
          let decided = Contains-flat_map_parts (deciding g s.values) (before_on_node g order p ++ p ∷ []) c there in
          let deciding_it = Contains-filter_parts (decides g s.values decided.0)
          (numbers_below (condition_count g)) c decided.2 in
          let inside = numbers-Contains (condition_count g) c deciding_it.0 in
          elim (Contains-append_cases (before_on_node g order p) (p ∷ []) decided.0 decided.1) [
            -- it decides an earlier process of the node, so it is heard by the time that the node is ready
            | inl among ↦
                let earlier = on_node_before g order p decided.0 among in
                let same : node_of g decided.0 ≡ node_of g p = eqb-true _ _
                (Contains-filter_parts (λ (r : ℕ). node_of g r == node_of g p) (before order p) decided.0 among).1 in
                omega (
                  arith,
                  is_ready.heard decided.0 c (from_order (process_count g) order topological.all decided.0 earlier.0)
                      (omega (arith, earlier.1)) same inside deciding_it.1,
                )
            -- it decides p itself
            | inr own ↦ elim (Contains-cases p [] decided.0 own) [
              | inl e ↦ omega (
                arith,
                (decided_in_run heard is_heard).above c
                    (inside, subst (λ o. decides g s.values o c ≡ true) (sym e) deciding_it.1),
              )
              | inr none ↦ absurd (Contains-nil decided.0 none)
            ]
          ]

      -- no bound of the start is later than the time found: not the release, an input, an end before it or a hearing
      bounds_found : greatest (start_bounds g order s t p) ≤ found
      bounds_found = start_bounds_le g order s t p found (omega arith)
          (λ e input is_live. omega (
            arith,
            known_input e input,
            greatest_above (input_bounds g s known p) (input_there g known e)
                (Contains-map (input_there g known) (filter (live g s.values) (inputs g p)) e
                (Contains-filter (live g s.values) (inputs g p) e is_live input)),
          ))
          (λ q there is_active.
          let earlier = on_node_before g order p q there in
          let same : node_of g q ≡ node_of g p =
          eqb-true _ _ (Contains-filter_parts (λ (r : ℕ). node_of g r == node_of g p) (before order p) q there).1 in
          omega (
            arith,
            is_ready.ends q (from_order (process_count g) order topological.all q earlier.0)
                (omega (arith, earlier.1)) same is_active,
          ))
          heard_found

      -- the time found is the start of p in the times t: each is at most the other
      pub start_is : max (max (max (max ready heard) (process_at g p).release) (greatest (input_bounds g s known p)))
          (frozen_in frozen p) ≡ time_in t p
      start_is = both_ways_equal found (time_in t p)
          (omega (arith, ready_by, heard_by, inputs_in, release_below g order frozen s t run p within acts, time_is))
          (omega (arith, time_is, bounds_found))
