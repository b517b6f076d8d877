-- What times are that keep the rules of a run but for the ends: which items and processes have one, and what bounds them below.
use Rattle.std.proofs.Common.{◌≡◌, ℕ, ◌+◌, ◌<◌, ◌≤◌, true, List, [], ◌∷◌, ◌++◌, flat_map, length, get_or, Contains}
use Rattle.std.proofs.Common.{Option, Some, None, option_to_list, option_map, unwrap_or, refl, sym, ap, ◌∙◌}
use Rattle.std.proofs.Common.{subst, arith, inl, inr, true≢false}
use Rattle.std.proofs.lemmas.List.{get_or_past}
use Rattle.std.proofs.lemmas.List.FromFn.{length-map-range_with_len}
use Rattle.std.proofs.lemmas.Option.{none-some}
use Rattle.std.proofs.lemmas.Bool.{cond-true, cond-false, cases_lt, cases_Bool}
use Rattle.std.proofs.lemmas.List.Elements.{Contains-append_left, Contains-append_right}
use Rattle.cpg_base.specs.Numbers.{greatest}
use Rattle.cpg_base.specs.Graph.{Graph, process_count, item_count, item_at, process_at, node_of, inputs, is_sent}
use Rattle.cpg_base.specs.Graph.{is_sent_item, home, producer}
use Rattle.cpg_base.specs.declared.item.Item.{Item}
use Rattle.cpg_base.specs.declared.item.Item.TheVariants.{Start, Message, Broadcast}
use Rattle.cpg_base.specs.Activity.{item_active, active, live}
use Rattle.cpg_base.specs.Bus.{next_slot, round}
use Rattle.cpg_base.proofs.Lists.{get_or-map-below, Contains-first, Contains-rest, Contains-map, Contains-filter}
use Rattle.cpg_base.proofs.Lists.{greatest_above}
use Rattle.cpg_base.proofs.Items.{item_at-start}
use Rattle.cpg_base.specs.Scenario.{Scenario}
use Rattle.cpg_base.specs.Order.{before_on_node}
use Rattle.cpg_order.specs.Deciding.{deciding}
use Rattle.cpg_order.specs.Queue.{queued_before}
use Rattle.cpg_latest.specs.Timed.{IsTimed, end_where}
use Rattle.cpg_run.specs.Run.{Times, time_in, end_in, time_by, unfrozen_time, bounds_of_item, start_bounds}
use Rattle.cpg_run.specs.Run.{input_bounds, processor_bounds, hearing_bounds, send_bounds, input_there, heard_there}

-- given: times t that keep the rules of a run but for the ends
module _ (g : Graph) (order : List ℕ) (frozen : List (Option ℕ)) (s : Scenario) (t : Times)
    (run : IsTimed g order frozen s t) where
  -- the item is active in the scenario
  abbrev pub Acts : ℕ → Type 0
  Acts x = item_active g s.values (item_at g x) ≡ true

  -- the time of each item is that of the rules
  pub time_is : (x : ℕ) → x < item_count g → get_or t.times x None ≡ time_by g order frozen s t x
  time_is x within =
      ap (λ ts. get_or ts x None) run.times ∙ get_or-map-below (time_by g order frozen s t) (item_count g) x None within

  -- the time that the rules make for an active item
  abbrev pub time_of : ℕ → ℕ
  time_of x = greatest (unfrozen_time g order s t x ∷ option_to_list (get_or frozen x None))

  -- an active item has its time
  pub time_active : (x : ℕ) → x < item_count g → Acts x → get_or t.times x None ≡ Some (time_of x)
  time_active x within holds = time_is x within ∙ cond-true _ _ _ holds

  -- so that is its time
  pub time_in_active : (x : ℕ) → x < item_count g → Acts x → time_in t x ≡ time_of x
  time_in_active x within acts = ap (λ o. unwrap_or o 0) (time_active x within acts)

  -- an active item has a time
  pub has_time : (x : ℕ) → x < item_count g → Acts x → get_or t.times x None ≡ Some (time_in t x)
  has_time x within acts = time_active x within acts ∙ ap (λ n. Some n) (sym (time_in_active x within acts))

  -- an item that has a time is one of the graph and active
  pub time_parts : (x y : ℕ) → get_or t.times x None ≡ Some y → (x < item_count g) × Acts x × (y ≡ time_in t x)
  time_parts x y is = elim (cases_lt x (item_count g)) [
    | inl within ↦ elim (cases_Bool (item_active g s.values (item_at g x))) [
      | inl a ↦ (within, a, sym (ap (λ o. unwrap_or o 0) is))
      | inr fails ↦ absurd (none-some y (sym (time_is x within ∙ cond-false _ _ _ fails) ∙ is))
    ]
    | inr l ↦ absurd (none-some y (sym (get_or_past t.times x None
        (omega (arith, ap length run.times, length-map-range_with_len (time_by g order frozen s t) 0 (item_count g))))
        ∙ is))
  ]

  -- if a process is active, its start is
  pub start_acts : (p : ℕ) → p < process_count g → active g s.values p ≡ true → Acts p
  start_acts p within a = ap (item_active g s.values) (item_at-start g p within) ∙ a

  -- if its start is active, a process is
  pub acts_start : (p : ℕ) → p < process_count g → Acts p → active g s.values p ≡ true
  acts_start p within a = sym (ap (item_active g s.values) (item_at-start g p within)) ∙ a

  -- the end of each process is the given one, if the process starts
  pub end_is : (p : ℕ) → p < process_count g → get_or t.ends p None ≡ end_where t run.end_of p
  end_is p within =
      ap (λ ts. get_or ts p None) run.ends ∙ get_or-map-below (end_where t run.end_of) (process_count g) p None within

  -- an active process has the given end
  pub has_end : (p : ℕ) → p < process_count g → active g s.values p ≡ true → get_or t.ends p None ≡ Some (run.end_of p)
  has_end p within is_active = end_is p within
      ∙ ap (option_map (λ start. run.end_of p)) (has_time p (omega arith) (start_acts p within is_active))

  -- so that is its end
  pub end_active : (p : ℕ) → p < process_count g → active g s.values p ≡ true → end_in t p ≡ run.end_of p
  end_active p within is_active = ap (λ o. unwrap_or o 0) (has_end p within is_active)

  -- the unfrozen time of an active item is no later than its time
  pub unfrozen_below : (x : ℕ) → x < item_count g → Acts x → unfrozen_time g order s t x ≤ time_in t x
  unfrozen_below x within acts = omega (
    arith,
    time_in_active x within acts,
    greatest_above (unfrozen_time g order s t x ∷ option_to_list (get_or frozen x None)) (unfrozen_time g order s t x)
        (Contains-first _ _),
  )

  -- an active item is no sooner than any of its bounds
  bound_below : (x : ℕ) (b : ℕ) → x < item_count g → Acts x → Contains (bounds_of_item g order s t x (item_at g x)) b →
      b ≤ time_in t x
  bound_below x b within acts there =
      omega (arith, unfrozen_below x within acts, greatest_above (bounds_of_item g order s t x (item_at g x)) b there)

  -- an active process starts no sooner than any of its bounds
  start_bound : (p b : ℕ) → p < process_count g → active g s.values p ≡ true → Contains (start_bounds g order s t p) b →
      b ≤ time_in t p
  start_bound p b within is_active there = bound_below p b (omega arith) (start_acts p within is_active)
      (subst (λ i. Contains (bounds_of_item g order s t p i) b) (sym (item_at-start g p within)) there)

  -- a process starts no earlier than its release
  pub release_below : (p : ℕ) → p < process_count g → active g s.values p ≡ true →
      (process_at g p).release ≤ time_in t p
  release_below p within is_active = start_bound p _ within is_active (Contains-first _ _)

  -- it starts no earlier than its live inputs are there
  pub input_below : (p e : ℕ) → p < process_count g → active g s.values p ≡ true → Contains (inputs g p) e →
      live g s.values e ≡ true →
      input_there g t e ≤ time_in t p
  input_below p e within is_active there is_live = start_bound p (input_there g t e) within is_active
      (Contains-rest _ _ _ (Contains-append_left _ _ _ (Contains-append_left _ _ _
      (Contains-map (input_there g t) _ e (Contains-filter (live g s.values) (inputs g p) e is_live there)))))

  -- it starts no earlier than the processes before it on its node end
  pub before_below : (p q : ℕ) → p < process_count g → active g s.values p ≡ true →
      Contains (before_on_node g order p) q → active g s.values q ≡ true →
      end_in t q ≤ time_in t p
  before_below p q within is_active there holds = start_bound p (end_in t q) within is_active
      (Contains-rest _ _ _ (Contains-append_left _ (hearing_bounds g order s t p) _
      (Contains-append_right (input_bounds g s t p) (processor_bounds g order s t p) _
      (Contains-map (end_in t) _ q (Contains-filter (active g s.values) (before_on_node g order p) q holds there)))))

  -- it starts no earlier than its node hears what decides these or the process itself
  pub hearing_below : (p c : ℕ) → p < process_count g → active g s.values p ≡ true →
      Contains (flat_map (deciding g s.values) (before_on_node g order p ++ p ∷ [])) c →
      heard_there g t (node_of g p) c ≤ time_in t p
  hearing_below p c within is_active there = start_bound p (heard_there g t (node_of g p) c) within is_active
      (Contains-rest _ _ _ (Contains-append_right (input_bounds g s t p ++ processor_bounds g order s t p)
      (hearing_bounds g order s t p) _ (Contains-map (heard_there g t (node_of g p)) _ c there)))

  -- the bounds of an item that is sent are those of a send
  sent_bounds : (x : ℕ) (i : Item) → is_sent_item g i ≡ true →
      bounds_of_item g order s t x i ≡ send_bounds g order s t x
  sent_bounds x (Start p) holds = absurd (true≢false (sym holds))
  sent_bounds x (Message e) holds = refl
  sent_bounds x (Broadcast c) holds = refl

  -- the unfrozen time of what is sent is the greatest of its bounds
  pub unfrozen_sent : (x : ℕ) → is_sent g x ≡ true → unfrozen_time g order s t x ≡ greatest (send_bounds g order s t x)
  unfrozen_sent x goes_out = ap greatest (sent_bounds x (item_at g x) goes_out)

  -- an active item that is sent is no sooner than any of them
  send_bound : (x b : ℕ) → x < item_count g → Acts x → is_sent g x ≡ true → Contains (send_bounds g order s t x) b →
      b ≤ time_in t x
  send_bound x b within acts goes_out there = bound_below x b within acts
      (subst (λ bs. Contains bs b) (sym (sent_bounds x (item_at g x) goes_out)) there)

  -- an item is sent no earlier than in the next slot after its producer's end
  pub producer_below : (x : ℕ) → x < item_count g → Acts x → is_sent g x ≡ true →
      next_slot g (home g x) (end_in t (producer g x)) ≤ time_in t x
  producer_below x within acts goes_out = send_bound x _ within acts goes_out (Contains-first _ _)

  -- an item is sent no earlier than a round after each active item before it in the queue
  pub queue_below : (x y : ℕ) → x < item_count g → Acts x → is_sent g x ≡ true → Contains (queued_before g order x) y →
      Acts y →
      time_in t y + round g ≤ time_in t x
  queue_below x y within acts goes_out there holds = send_bound x (time_in t y + round g) within acts goes_out
      (Contains-rest _ _ _ (Contains-map (λ y. time_in t y + round g) _ y
      (Contains-filter (λ y. item_active g s.values (item_at g y)) (queued_before g order x) y holds there)))
