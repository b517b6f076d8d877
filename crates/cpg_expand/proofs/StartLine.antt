-- The tree of a start agrees with what is carried beside it.
use Rattle.std.proofs.Common.{ℕ, ◌<◌, ◌≤◌, ◌≡◌, ◌==◌, nat_lt, not, max, Bool, true, false, if◌then◌else◌, List, []}
use Rattle.std.proofs.Common.{◌++◌, length, map, flat_map, get_or, Option, Some, None, Contains, ◌⊎◌, arith}
use Rattle.std.proofs.Common.{eq-eqb, lt-ltb, refl, sym, ap, ◌∙◌, subst, inl, inr}
use Rattle.std.proofs.lemmas.Bool.{and_parts, and_from, cases_eq, ne_eqb}
use Rattle.std.proofs.lemmas.List.Elements.{Contains-append_cases, Contains-append_left, Contains-append_right}
use Rattle.cpg_base.specs.Numbers.{greatest}
use Rattle.cpg_base.specs.Limits.{IsWithinLimits}
use Rattle.cpg_base.specs.Graph.{Graph, process_at, process_count, condition_count, edge_count, item_at, node_of}
use Rattle.cpg_base.specs.Graph.{source, target, inputs, is_message, message_item, broadcast_item, process_of}
use Rattle.cpg_base.specs.Activity.{activation, active, is_active, item_active, live}
use Rattle.cpg_base.specs.WellFormed.{HasSingleJoins}
use Rattle.cpg_base.specs.declared.activation.Activation.{Activation}
use Rattle.cpg_base.specs.declared.activation.Activation.TheVariants.{Inactive, Plain, By}
use Rattle.cpg_base.proofs.Inputs.{inputs_parts}
use Rattle.cpg_base.proofs.Items.{item_at-message, item_at-broadcast, process_of_below}
use Rattle.cpg_base.proofs.Lists.{Contains-filter_parts, Contains-flat_map_parts, Contains-nil, Contains-map}
use Rattle.cpg_base.proofs.Lists.{Contains-map_parts, numbers-Contains, Contains-filter, Contains-numbers}
use Rattle.cpg_order.specs.Urgency.{IsTopological, IsUrgencyOrder}
use Rattle.cpg_base.specs.Order.{place, before_on_node}
use Rattle.cpg_order.specs.Deciding.{decides, deciding}
use Rattle.cpg_order.specs.Guard.{Guard, outcome_at, way, IsGuardOf}
use Rattle.cpg_order.specs.Counting.{conditions_along}
use Rattle.cpg_base.specs.Scenario.{Scenario}
use Rattle.cpg_order.proofs.Acyclic.{input_goes_up, source_in_order}
use Rattle.cpg_order.proofs.Along.{from_along}
use Rattle.cpg_order.proofs.DecidingLaws.{decides_earlier, deciding_is_active}
use Rattle.cpg_rules.proofs.Ways.{ways_are_deciding}
use Rattle.cpg_cube.specs.declared.literal.Literal.{Literal}
use Rattle.cpg_cube.specs.declared.column.Column.{Column}
use Rattle.cpg_run.specs.Run.{Times, end_in, input_bounds, heard_there}
use Rattle.cpg_run.specs.Carried.{carried_by_row, decided, heard, passed, carried_at_start, carried_at_end}
use Rattle.cpg_run.proofs.CarriedBefore.{producer_of_message, hears_earlier}
use Rattle.cpg_run.specs.Known.{AreSmall}
use Rattle.cpg_run.specs.Progress.{IsReady}
use Rattle.cpg_run.proofs.Senders.{many_nodes}
use Rattle.cpg_tree.specs.Space.{HasAtMostFaults}
use Rattle.cpg_tree.specs.Tree.{TreeState}
use Rattle.cpg_expand.specs.Agreeing.{HasValueFrom}
use Rattle.cpg_expand.specs.Forest.{ForestState, heard_tree, input_tree, heard_delay, input_delay, times_of, ends_of}
use Rattle.cpg_expand.specs.Guarded.{AreOwnInputsThere, IsStartTree, awaited, start_literals, start_at, value_known}
use Rattle.cpg_expand.specs.Guarded.{values_known}
use Rattle.cpg_expand.specs.Guarded.{support_of, latest_of}
use Rattle.cpg_expand.specs.TreeValues.{HasTreeValues}
use Rattle.cpg_tree.specs.Later.{time_later}
use Rattle.cpg_expand.specs.Waiting.{IsWaitTree, ready_of}
use Rattle.cpg_expand.proofs.AgreeingTrees.{agrees_weaker}
use Rattle.cpg_expand.proofs.CarriedOn.{heard_support, input_support, tests_carried, input_carried, start_carried}
use Rattle.cpg_expand.proofs.StartTimes.{input_time, later_exact, heard_time, latest_heard, awaits_live, start_exact}

-- an inactive process awaits no input
idle_awaits : (inputs : List ℕ) (a : Activation) → is_active a ≡ false → (e : ℕ) → Contains (awaited inputs a) e → ⊥
idle_awaits inputs Inactive is e awaits = Contains-nil e awaits
idle_awaits inputs Plain is e awaits = absurd (off is)
  where
    -- a plain leaf is active, so true would be false
    off : true ≡ false → ⊥
    off same = cc
idle_awaits inputs (By d) is e awaits = absurd (off is)
  where
    -- a leaf of a join that is active by one input is active too
    off : true ≡ false → ⊥
    off same = cc

-- an input from another node is a message
pub message_at : (g : Graph) (p e : ℕ) → target g e ≡ p → (node_of g (source g e) ≡ node_of g p → ⊥) →
    is_message g e ≡ true
message_at g p e to other =
    ap not (ne_eqb (node_of g (source g e)) (node_of g (target g e)) (λ same. other (same ∙ ap (node_of g) to)))

-- if the process of a condition is active and runs on another node than p, the condition's broadcast is sent
pub frame_sent : (g : Graph) (s : Scenario) (p : ℕ) → p < process_count g →
    ((q : ℕ) → q < process_count g → node_of g q < length g.nodes) → (c : ℕ) →
    c < condition_count g →
    active g s.values (process_of g c) ≡ true →
    (node_of g (process_of g c) == node_of g p) ≡ false → item_active g s.values (item_at g (broadcast_item g c)) ≡ true
frame_sent g s p p_below nodes c c_below acts other =
    subst (λ x. item_active g s.values x ≡ true) (sym (item_at-broadcast g c))
    (and_from (nat_lt 1 (length g.nodes)) (active g s.values (process_of g c))
    (lt-ltb 1 (length g.nodes) (many_nodes (node_of g (process_of g c)) (node_of g p) (length g.nodes)
    (nodes (process_of g c) (process_of_below g c c_below)) (nodes p p_below)
    (λ same. apart (sym (eq-eqb (node_of g (process_of g c)) (node_of g p) same) ∙ other)))) acts)
  where
    -- true isn't false
    apart : true ≡ false → ⊥
    apart same = cc

-- given: one scenario with its times, trees that give these before the place of a process, and the guard of the
-- process
-- `urgency`, `is_urgency`, `urgent`: the urgency order; `s`, `long`, `few`, `t`, `small`: a scenario and its small
-- times
-- `f`, `valued`: trees that give these times for the processes before p's place
-- `p`, `l`, `nodes`: a process, on a node of the graph; `guard`, `is_guard`: its guard
module _ (g : Graph) (limits : IsWithinLimits g) (order : List ℕ) (topological : IsTopological g order)
    (joins : HasSingleJoins g) (urgency : List ℕ) (is_urgency : IsUrgencyOrder g urgency)
    (urgent : IsTopological g urgency)
    (rows : List (List Column)) (s : Scenario) (long : length s.values ≡ condition_count g)
    (few : HasAtMostFaults g.faults s) (t : Times) (small : AreSmall t) (f : ForestState)
    (p : ℕ) (l : p < process_count g) (nodes : (q : ℕ) → q < process_count g → node_of g q < length g.nodes)
    (valued : HasTreeValues g order rows s t (place order p) f) (guard : Guard)
    (is_guard : IsGuardOf g urgency p guard) where
  -- the conditions on the way are those that decide the process
  pub on_way : (c : ℕ) → Contains (way guard s.values) c → Contains (deciding g s.values p) c
  on_way c is_on_way =
      let parts = Contains-filter_parts (decides g s.values p) (conditions_along g urgency) c
      (subst (λ cs. Contains cs c) (ways_are_deciding g urgency p guard s.values is_urgency urgent is_guard long)
      is_on_way) in
      Contains-filter (decides g s.values p) _ c parts.1
      (Contains-numbers (condition_count g) c (from_along g urgency c parts.0).0)

  -- the tree from which it follows when p's node hears one of them gives the run's time
  pub heard_valued : (c : ℕ) → Contains (way guard s.values) c →
      HasValueFrom s (heard_support g order topological rows s (node_of g p) c)
      (heard_time g limits t small (node_of g p) c)
      (heard_tree g f (node_of g p) c)
  heard_valued c is_on_way = by (node_of g (process_of g c) == node_of g p) refl
    where
      -- a condition on the way decides the process
      decides_it : Contains (deciding g s.values p) c
      decides_it = on_way c is_on_way

      -- it is one of the graph's conditions
      low : c < condition_count g
      low = numbers-Contains (condition_count g) c (Contains-filter_parts (decides g s.values p) _ c decides_it).0

      -- it decides the process in this scenario
      decided_true : decides g s.values p c ≡ true
      decided_true = (Contains-filter_parts (decides g s.values p) _ c decides_it).1

      -- its own process is active
      acts : active g s.values (process_of g c) ≡ true
      acts = deciding_is_active g urgency is_urgency urgent s.values p c low decided_true

      -- if that is on another node, the broadcast is sent
      sent_at : (node_of g (process_of g c) == node_of g p) ≡ false →
          item_active g s.values (item_at g (broadcast_item g c)) ≡ true
      sent_at other_node = frame_sent g s p l nodes c low acts other_node

      -- by whether the condition's process is on the node: its end or the time of its broadcast
      by : (b : Bool) → (node_of g (process_of g c) == node_of g p) ≡ b →
          HasValueFrom s
          (if b then carried_at_end g order rows s (process_of g c) else carried_by_row rows s (broadcast_item g c))
          (if b then get_or t.ends (process_of g c) None else get_or t.times (broadcast_item g c) None)
          (if b then ends_of g f (process_of g c) else times_of g f (broadcast_item g c))
      by true is_b = valued.ends (process_of g c) (process_of_below g c low)
          (decides_earlier g order topological s.values p c low decided_true) acts
      by false other_node = let heard_before = hears_earlier g order topological s p c decides_it in
          valued.sends (broadcast_item g c) heard_before.0 (omega arith) heard_before.1 (sent_at other_node)

  -- the tree from which it follows when a live input is there gives the run's time
  input_valued : (e : ℕ) → Contains (inputs g p) e → live g s.values e ≡ true →
      HasValueFrom s (input_support g order topological rows s e) (input_time g limits t small e) (input_tree g f e)
  input_valued e is_input on = by (is_message g e) refl
    where
      -- the edge is one of the graph, and leads to the process
      parts : (e < edge_count g) × (target g e ≡ p)
      parts = inputs_parts g p e is_input

      -- its source stands before the process
      earlier : place order (source g e) < place order p
      earlier = input_goes_up g order topological p e is_input

      -- by whether the input is a message: the message's time or its source's end
      by : (b : Bool) → is_message g e ≡ b →
          HasValueFrom s
          (if b then carried_by_row rows s (message_item g e) else carried_at_end g order rows s (source g e))
          (if b then get_or t.times (message_item g e) None else get_or t.ends (source g e) None)
          (if b then times_of g f (message_item g e) else ends_of g f (source g e))
      by true sent = valued.sends (message_item g e) (let is_edge = parts.0 in omega arith) (omega arith)
          (let same_place = ap (place order) (producer_of_message g e parts.0) in omega (arith, same_place, earlier))
          (subst (λ x. item_active g s.values x ≡ true) (sym (item_at-message g e parts.0))
          (and_from (is_message g e) (live g s.values e) sent on))
      by false not_sent = valued.ends (source g e) (source_in_order g order topological e parts.0) earlier
          (and_parts _ _ on).0

  -- given: the tree of what the process waits for on its node, and when that node is ready
  module _ (wait : TreeState ℕ) (waits : IsWaitTree g f (node_of g p) guard wait) (r : ℕ)
      (is_ready : IsReady g order s t (place order p) (node_of g p) r)
      (ready : HasValueFrom s (flat_map (passed g rows s) (before_on_node g order p)) r
      (ready_of g f (node_of g p))) where
    -- until when the process waits on its node: the node is ready, and all conditions on the way are heard
    abbrev waited : ℕ
    waited = max r (greatest (map (heard_there g t (node_of g p)) (way guard s.values)))

    -- the literals that are carried there: what earlier processes of the node passed on, what decides p, and what it
    -- hears
    abbrev wait_says : List Literal
    wait_says = flat_map (passed g rows s) (before_on_node g order p) ++ decided g s p ++ heard g rows s p

    -- the tree of how long the process waits on its node agrees with what is carried there
    pub wait_line : HasValueFrom s wait_says waited wait
    wait_line = agrees_weaker s wait (flat_map (passed g rows s) (before_on_node g order p)
        ++ support_of s (heard_support g order topological rows s (node_of g p)) (way guard s.values)) wait_says
        (λ z. z ≡ max r (latest_of (heard_delay g (node_of g p)) (heard_time g limits t small (node_of g p))
        (way guard s.values))) (λ z. z ≡ waited) within
        (λ z is_max. is_max ∙ ap (max r) (latest_heard g limits t small (node_of g p) (way guard s.values)))
        (waits s few (flat_map (passed g rows s) (before_on_node g order p)) r ready
        (heard_support g order topological rows s (node_of g p))
        (heard_time g limits t small (node_of g p)) heard_valued)
      where
        -- no literal of the tree goes beyond these
        within : (x : Literal) →
            Contains (flat_map (passed g rows s) (before_on_node g order p)
            ++ support_of s (heard_support g order topological rows s (node_of g p)) (way guard s.values)) x →
            Contains wait_says x
        -- a literal was passed on by a process before p on its node, or is carried for a test
        within x listed = elim (Contains-append_cases (flat_map (passed g rows s) (before_on_node g order p))
            (support_of s (heard_support g order topological rows s (node_of g p)) (way guard s.values)) x listed) [
              | inl in_first ↦ Contains-append_left
                  (flat_map (passed g rows s) (before_on_node g order p) ++ decided g s p)
                  (heard g rows s p) x
                  (Contains-append_left (flat_map (passed g rows s) (before_on_node g order p))
                  (decided g s p) x in_first)
              | inr in_second ↦
                  tests_carried g order topological rows s urgency is_urgency urgent p (way guard s.values) on_way x
                  in_second
            ]

    -- the leaf that the guard comes to is the process's activation
    pub leads : outcome_at guard s.values ≡ activation g s.values p
    leads = is_guard.is s.values long

    -- if p is active, what it awaits are live inputs of its own
    live_if : (b : Bool) → active g s.values p ≡ b → (e : ℕ) →
        Contains (awaited (inputs g p) (activation g s.values p)) e →
        Contains (inputs g p) e × (live g s.values e ≡ true)
    live_if true on e awaits = Contains-filter_parts (live g s.values) (inputs g p) e
        (subst (λ es. Contains es e) (awaits_live g limits order topological joins s long t small p l on) awaits)
    live_if false off e awaits = absurd (none (activation g s.values p) off awaits)
      where
        -- an inactive process awaits nothing, so there is no such input
        none : (a : Activation) → is_active a ≡ false → Contains (awaited (inputs g p) a) e → ⊥
        none a is awaits_it = idle_awaits (inputs g p) a is e awaits_it

    -- the same by the leaf that the guard leads to
    live_input : (e : ℕ) → Contains (awaited (inputs g p) (outcome_at guard s.values)) e →
        Contains (inputs g p) e × (live g s.values e ≡ true)
    live_input e awaits =
        live_if (active g s.values p) refl e
        (subst (λ (a : Activation). Contains (awaited (inputs g p) a) e) leads awaits)

    -- each input comes from the process's own node, or is a message
    ends_there : (e : ℕ) → Contains (inputs g p) e → node_of g (source g e) ≡ node_of g p ⊎ (is_message g e ≡ true)
    ends_there e is_input = elim (cases_eq (node_of g (source g e)) (node_of g p)) [
      | inl same ↦ inl same
      | inr other ↦ inr (message_at g p e (inputs_parts g p e is_input).1 other)
    ]

    -- the inputs of the node itself are there once it is ready
    there : AreOwnInputsThere g (input_time g limits t small) waited (awaited (inputs g p) (outcome_at guard s.values))
    there e awaits own =
        let live_there = live_input e awaits in
        let ended : end_in t (source g e) ≤ r =
        is_ready.ends (source g e) (source_in_order g order topological e (inputs_parts g p e live_there.0).0)
        (input_goes_up g order topological p e live_there.0)
        (same_node (ends_there e live_there.0)) (and_parts _ _ live_there.1).0 in
        subst (λ (b : Bool). time_later 0
        (if b then get_or t.times (message_item g e) None else get_or t.ends (source g e) None) ≤ waited) (sym own)
        (omega (arith, later_exact (get_or t.ends (source g e) None) 0 (small.ends (source g e)) (omega arith), ended))
      where
        -- true isn't false
        untrue : true ≡ false → ⊥
        untrue equal = cc

        -- its source is on the node, since it isn't a message
        same_node : node_of g (source g e) ≡ node_of g p ⊎ (is_message g e ≡ true) →
            node_of g (source g e) ≡ node_of g p
        same_node (inl same) = same
        same_node (inr sends) = absurd (untrue (sym sends ∙ own))

    -- if p isn't frozen, the tree `start` says p's start in s, by what is carried there: the latest of the wait, the
    -- release and the inputs, or none if p is inactive
    pub start_line : (start : TreeState (Option ℕ)) →
        IsStartTree g f wait (process_at g p).release (inputs g p) guard start →
        (process_at g p).frozen ≡ false →
        HasValueFrom s (carried_at_start g order rows s p) (if active g s.values p
        then Some (max (max waited (process_at g p).release) (greatest (input_bounds g s t p))) else None) start
    -- the tree says the literals of the wait and of the inputs (`says`), which are all carried (`within`); its start is
    -- the latest of the wait, the release and the inputs, as in the run (`start_exact`)
    start_line start starts thawed = agrees_weaker s start says (carried_at_start g order rows s p) (λ z. z ≡ at)
        (λ z. z ≡ (if active g s.values p
        then Some (max (max waited (process_at g p).release) (greatest (input_bounds g s t p))) else None)) within
        (λ z equal. equal ∙ ap (λ (a : Activation). start_at waited (process_at g p).release (input_delay g)
        (input_time g limits t small) (inputs g p) a) leads ∙
        start_exact g limits order topological joins s long t small p l waited)
        (starts s few wait_says waited wait_line (input_support g order topological rows s)
        (input_time g limits t small) there (λ e awaits. let live_there = live_input e awaits in
        input_valued e live_there.0 live_there.1))
      where
        -- the literals that the tree of the start says
        says : List Literal
        says = values_known s (way guard s.values)
            ++ start_literals wait_says (input_support g order topological rows s) (inputs g p)
            (outcome_at guard s.values)

        -- the start by the guard's leaf: the latest of the wait, the release and the awaited inputs
        at : Option ℕ
        at = start_at waited (process_at g p).release (input_delay g) (input_time g limits t small) (inputs g p)
            (outcome_at guard s.values)

        -- what an active start says is carried: the wait's literals, and those of its inputs
        of_start : (b : Bool) (x : Literal) →
            Contains (if b then wait_says ++ flat_map (input_support g order topological rows s)
            (awaited (inputs g p) (outcome_at guard s.values)) else []) x →
            Contains (carried_at_start g order rows s p) x
        -- a literal is one of the wait's or of an awaited input's
        of_start false x listed = absurd (Contains-nil x listed)
        of_start true x listed = elim
            (Contains-append_cases wait_says (flat_map (input_support g order topological rows s)
            (awaited (inputs g p) (outcome_at guard s.values))) x listed) [
              | inl in_first ↦ start_carried g order topological rows s p thawed x (inl in_first)
              | inr in_second ↦ let source = Contains-flat_map_parts (input_support g order topological rows s)
                  (awaited (inputs g p) (outcome_at guard s.values)) x in_second in
                  let live_there = live_input source.0 source.1 in
                  start_carried g order topological rows s p thawed x
                  (inr (input_carried g order topological rows s p source.0 live_there.0
                  (ends_there source.0 live_there.0)
                  (source_in_order g order topological source.0 (inputs_parts g p source.0 live_there.0).0)
                  (and_parts _ _ live_there.1).0 x source.2))
            ]

        -- so is all that the tree says
        within : (x : Literal) → Contains says x → Contains (carried_at_start g order rows s p) x
        -- a literal is the value of a test on the way, or of the start
        within x listed = elim (Contains-append_cases (values_known s (way guard s.values)) (start_literals wait_says
            (input_support g order topological rows s) (inputs g p) (outcome_at guard s.values)) x listed) [
              | inl in_first ↦ let condition = Contains-map_parts (value_known s) (way guard s.values) x in_first in
                  start_carried g order topological rows s p thawed x (inl (Contains-append_left
                  (flat_map (passed g rows s) (before_on_node g order p) ++ decided g s p) (heard g rows s p) x
                  (Contains-append_right (flat_map (passed g rows s) (before_on_node g order p)) (decided g s p) x
                  (subst (Contains (decided g s p)) condition.2
                  (Contains-map (value_known s) (deciding g s.values p) condition.0
                  (on_way condition.0 condition.1))))))
              | inr in_second ↦ of_start (is_active (outcome_at guard s.values)) x in_second
            ]
