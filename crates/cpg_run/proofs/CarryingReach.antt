-- The literals of carrying rows are on variables of their items' reach.
use Rattle.std.proofs.Common.{ℕ, zero, suc, ◌<◌, ◌≤◌, ◌≡◌, ◌==◌, true, false, if◌then◌else◌, List, [], ◌∷◌, ◌++◌, map}
use Rattle.std.proofs.Common.{flat_map, Contains, Option, arith, refl, sym, ap, ◌∙◌, subst, inl, inr, eq-eqb}
use Rattle.std.proofs.Common.{eqb-true, true≢false}
use Rattle.std.proofs.lemmas.Bool.{cases_Bool, cond-true, cond-false, and_parts, both_ways}
use Rattle.std.proofs.lemmas.List.Elements.{All-contains, Contains-append_left, Contains-append_right}
use Rattle.cpg_base.specs.Numbers.{numbers_below}
use Rattle.cpg_base.specs.Graph.{Graph, process_count, condition_count, item_count, item_at, process_at, node_of}
use Rattle.cpg_base.specs.Graph.{source, inputs, is_message, is_sent, is_sent_item, is_frozen, message_item}
use Rattle.cpg_base.specs.Graph.{broadcast_item, producer, producer_of_item, process_of, value_variable}
use Rattle.cpg_base.specs.declared.item.Item.{Item}
use Rattle.cpg_base.specs.declared.item.Item.TheVariants.{Start, Message, Broadcast}
use Rattle.cpg_base.specs.Activity.{active, live, item_active}
use Rattle.cpg_base.proofs.Lists.{Contains-first, Contains-rest, Contains-map, Contains-filter_parts, Contains-flat_map}
use Rattle.cpg_base.proofs.Lists.{numbers-Contains, list_any_true, list_any_parts, from_any_false}
use Rattle.cpg_base.proofs.Items.{item_cases, item_at-start}
use Rattle.cpg_order.specs.Deciding.{decides, deciding, conditions_of}
use Rattle.cpg_order.specs.Queue.{queued_before}
use Rattle.cpg_order.specs.Reach.{Reach, IsReach, is_in, reach_of, end_reach, hearing_reach, source_value, input_reach}
use Rattle.cpg_order.specs.Reach.{start_reach, sent_value, send_reach, reach_by_item}
use Rattle.cpg_base.specs.Scenario.{Scenario, IsScenario}
use Rattle.cpg_base.specs.Order.{place, before_on_node}
use Rattle.cpg_order.proofs.ConditionsOf.{in_conditions_of}
use Rattle.cpg_order.proofs.Moments.{producer_in_range}
use Rattle.cpg_order.proofs.Queues.{queued_parts}
use Rattle.cpg_cube.specs.declared.literal.Literal.{Literal}
use Rattle.cpg_cube.specs.Fit.{lows, IsCube}
use Rattle.cpg_cube.specs.Cube.{IsRising, is_whole}
use Rattle.cpg_base.specs.Variable.{top}
use Rattle.cpg_cube.proofs.Ranges.{narrow, range_of_literal}
use Rattle.cpg_table.specs.Heard.{kept_low, kept_high}
use Rattle.cpg_merging.specs.Merged.{IsLeastMatch}
use Rattle.cpg_cube.specs.declared.column.Column.{Column}
use Rattle.cpg_run.proofs.Hearing.{kept_low_below, kept_high_above}
use Rattle.cpg_run.specs.Carrying.{ContainsKept, AreCarrying}
use Rattle.cpg_run.proofs.CarryingTimed.{carrying_active}
use Rattle.std.specs.Prelude.{All}
use Rattle.std.specs.List.{list_any}
use Rattle.cpg_run.specs.Supported.{up_to}
use Rattle.cpg_run.proofs.Awaited.{up_to_parts, up_to_cases}
use Rattle.cpg_run.specs.Carried.{row_at, number_known, carried, carried_by_item}
use Rattle.cpg_run.specs.RowLaws.{IsTimed, IsEarlier}
use Rattle.cpg_run.proofs.CarriedBefore.{hears_earlier, receives_earlier}
use Rattle.cpg_run.proofs.CarriedFrom.{FromRow, FromValue, FromProcess, by_value, by_broadcast, by_message, by_count}
use Rattle.cpg_run.proofs.CarriedFrom.{FromStart, own, more, FromEnd, from_start, its_count, FromSent, FromQueued}
use Rattle.cpg_run.proofs.CarriedFrom.{left_value, left_sent, left_end, FromSend, of_producer, of_queue, of_end}
use Rattle.cpg_run.proofs.CarriedFrom.{of_value, from_start_of, from_send_of}
use Rattle.cpg_run.proofs.Queued.{producer_no_later}

-- If a cube contains the ranges that some literals leave, each literal of it that isn't whole is on the variable of one of those:
-- on a variable of none they leave the whole range, which the literal's doesn't contain.
narrower_spoken : (k : ℕ) (cube : List Literal) (m : Literal) → IsRising cube → Contains cube m → is_whole k m ≡ false →
    m.high ≤ top k m.variable →
    (literals : List Literal) →
    ContainsKept k cube literals →
    (l : Literal) × Contains literals l × (l.variable ≡ m.variable)
narrower_spoken k cube m rising in_cube part within literals kept =
    elim (cases_Bool (list_any (λ (l : Literal). l.variable == m.variable) literals)) [
      | inl spoken ↦ let found = list_any_parts (λ (l : Literal). l.variable == m.variable) literals spoken in
          (found.0, found.1, eqb-true _ _ found.2)
      -- none is on the variable, so they leave its whole range, from 0 to the greatest number
      | inr found ↦
          let other : (l : Literal) → Contains literals l → l.variable ≡ m.variable → ⊥ =
          λ l j e. both_ways (l.variable == m.variable)
          (from_any_false (λ (l : Literal). l.variable == m.variable) literals l found j) (eq-eqb _ _ e) in
          let low : kept_low literals m.variable ≤ 0 =
          kept_low_below literals m.variable 0 (λ l j e. absurd (other l j e)) in
          let high : top k m.variable ≤ kept_high k literals m.variable =
          kept_high_above literals m.variable k (top k m.variable) (omega arith) (λ l j e. absurd (other l j e)) in
          let range = range_of_literal k cube m rising in_cube in
          absurd (elim (narrow k m part within) [
            | inl up ↦ omega (arith, range.0, kept.low m.variable, low, up)
            | inr down ↦ omega (arith, range.1, kept.high m.variable, high, down)
          ])
    ]

-- given: carrying rows and the reach of the graph
-- `timed`: the graph is admitted, and `frozen` has its frozen times. `all`: each row carries no more than it may.
-- `is`: r is the reach, the variables on which the time of an item may depend.
module _ (g : Graph) (urgency order : List ℕ) (frozen : List (Option ℕ)) (timed : IsTimed g urgency order frozen)
    (rows : List (List Column)) (all : AreCarrying g urgency order frozen rows)
    (r : Reach) (is : IsReach g order r) where
  -- a variable that the rule gives for an item is in the item's reach
  by_rule : (x v : ℕ) → x < item_count g → Contains (reach_by_item g order r x (item_at g x)) v →
      Contains (reach_of r x) v
  by_rule x v below among =
      let is_reached : is_in (reach_of r x) v ≡ true =
      is.each x v below ∙ list_any_true (λ w. w == v) (reach_by_item g order r x (item_at g x)) v among
      (eq-eqb v v refl) in
      let found = list_any_parts (λ w. w == v) (reach_of r x) is_reached in
      subst (Contains (reach_of r x)) (eqb-true _ _ found.2) found.1

  -- what the rule of reaches gives to a start, its `start_reach`, is in its reach
  start_by_rule : (p v : ℕ) → p < process_count g → Contains (start_reach g order r p) v → Contains (reach_of r p) v
  start_by_rule p v below among = by_rule p v (omega (arith, below))
      (subst (λ i. Contains (reach_by_item g order r p i) v) (sym (item_at-start g p below)) among)

  -- of an item that is sent, a message or a broadcast, the rule gives `send_reach`
  sent_reach : (x v : ℕ) (i : Item) → is_sent_item g i ≡ true → Contains (send_reach g order r x) v →
      Contains (reach_by_item g order r x i) v
  sent_reach x v (Start p) on_bus among = absurd (true≢false (sym on_bus))
  sent_reach x v (Message d) on_bus among = subst (λ vs. Contains vs v) (sym (cond-true _ _ _ on_bus)) among
  sent_reach x v (Broadcast c) on_bus among = subst (λ vs. Contains vs v) (sym (cond-true _ _ _ on_bus)) among

  -- ---- the parts of a start's reach, if it isn't frozen

  -- what a start depends on by hearing the conditions that were waited for on the node
  conditions_part : ℕ → List ℕ
  conditions_part p = flat_map (λ c. value_variable c ∷ hearing_reach g r (node_of g p) c)
      (flat_map (conditions_of g) (before_on_node g order p ++ p ∷ []))

  -- what a start depends on by the ends of the processes before it on the node
  ends_part : ℕ → List ℕ
  ends_part p = flat_map (end_reach r) (before_on_node g order p)

  -- what a start depends on by its inputs
  inputs_part : ℕ → List ℕ
  inputs_part p = flat_map (input_reach g r) (inputs g p)

  -- the reach of a start that is not frozen has all of these parts
  free_reach : (p v : ℕ) → (process_at g p).frozen ≡ false →
      Contains (conditions_part p ++ ends_part p ++ inputs_part p) v →
      Contains (start_reach g order r p) v
  unfolding conditions_part ends_part inputs_part
  free_reach p v free among = subst (λ vs. Contains vs v) (sym (cond-false _ _ _ free)) among

  -- the reach of a start that isn't frozen has the variable of each condition of a process up to p on its node, and the reach of
  -- the hearing of it
  of_conditions : (p q c v : ℕ) → (process_at g p).frozen ≡ false → Contains (up_to g order p) q →
      Contains (conditions_of g q) c →
      Contains (value_variable c ∷ hearing_reach g r (node_of g p) c) v →
      Contains (start_reach g order r p) v
  unfolding conditions_part
  of_conditions p q c v free up_to_p of_q among = free_reach p v free
      (Contains-append_left (conditions_part p ++ ends_part p)
      (inputs_part p) v (Contains-append_left (conditions_part p) (ends_part p) v
      (Contains-flat_map (λ c. value_variable c ∷ hearing_reach g r (node_of g p) c)
      (flat_map (conditions_of g) (before_on_node g order p ++ p ∷ [])) c v
      (Contains-flat_map (conditions_of g) (before_on_node g order p ++ p ∷ []) q c up_to_p of_q) among)))

  -- the reach of a start that isn't frozen has that of the end of each process before p on its node
  of_ends : (p q v : ℕ) → (process_at g p).frozen ≡ false → Contains (before_on_node g order p) q →
      Contains (end_reach r q) v →
      Contains (start_reach g order r p) v
  unfolding ends_part
  of_ends p q v free before_p among = free_reach p v free
      (Contains-append_left (conditions_part p ++ ends_part p) (inputs_part p) v
      (Contains-append_right (conditions_part p) (ends_part p) v
      (Contains-flat_map (end_reach r) (before_on_node g order p) q v before_p among)))

  -- the reach of a start that isn't frozen has that of each message to p
  of_message : (p e v : ℕ) → (process_at g p).frozen ≡ false → Contains (inputs g p) e → is_message g e ≡ true →
      Contains (reach_of r (message_item g e)) v →
      Contains (start_reach g order r p) v
  unfolding inputs_part
  of_message p e v free is_input on_bus among = free_reach p v free
      (Contains-append_right (conditions_part p ++ ends_part p)
      (inputs_part p) v (Contains-flat_map (input_reach g r) (inputs g p) e v is_input
      (Contains-append_left (if is_message g e then reach_of r (message_item g e) else end_reach r (source g e))
      (source_value g e) v (subst (λ vs. Contains vs v) (sym (cond-true _ _ _ on_bus)) among))))

  -- ---- what is carried in a scenario

  -- in the rows of the items of processes before the bound, each literal is on a variable of the item's reach
  SpeakOfReach : ℕ → Type 0
  SpeakOfReach bound = (y : ℕ) → IsEarlier g order bound y → (c : Column) → Contains (row_at rows y) c → (m : Literal) →
      Contains c.cube m → Contains (reach_of r y) m.variable

  -- given: a scenario s, and a bound on places in the order: up to there the rows speak of the reach alone (`speak`)
  module _ (s : Scenario) (law : IsScenario g s) (bound : ℕ) (speak : SpeakOfReach bound) (m : Literal) where
    -- a literal from an earlier row is on a variable of that item's reach
    of_row : (y : ℕ) → IsEarlier g order bound y → FromRow g order rows s y m → Contains (reach_of r y) m.variable
    unfolding SpeakOfReach
    of_row y is_earlier from_row = speak y is_earlier from_row.column from_row.stands m from_row.literal

    -- a condition that decides a process in a scenario is one of its conditions
    condition_in : (q : ℕ) → (c : ℕ) → Contains (deciding g s.values q) c → Contains (conditions_of g q) c
    condition_in q c decides_q =
        let parts = Contains-filter_parts (decides g s.values q) (numbers_below (condition_count g)) c decides_q in
        in_conditions_of g urgency timed.admitted.urgent q s.values c law.values
        (numbers-Contains (condition_count g) c parts.0) parts.1

    -- if m is the number of v in s, and v is one of vs, so is the variable of m
    variable_of : (v : ℕ) (vs : List ℕ) → m ≡ number_known s v → Contains vs v → Contains vs m.variable
    variable_of v vs is_number among = subst (Contains vs) (sym (ap (λ (l : Literal). l.variable) is_number)) among

    -- if m is the value of a condition that decides q, its variable is that of a condition of q
    value_in : (q : ℕ) → FromValue g order rows s q m → Contains (map value_variable (conditions_of g q)) m.variable
    value_in q from_value = variable_of (value_variable from_value.condition)
        (map value_variable (conditions_of g q)) from_value.is
        (Contains-map value_variable (conditions_of g q) from_value.condition
        (condition_in q from_value.condition from_value.decides))

    -- What a process q up to p on its node gives to the start of p, which isn't frozen, is on the reach of that start, by its
    -- kind: a value and what broadcasts told by the hearing of conditions, what messages told by the inputs of q, the count by
    -- the end of q.
    process_in : (p q : ℕ) → p < process_count g → place order p ≤ bound → (process_at g p).frozen ≡ false →
        Contains (up_to g order p) q →
        FromProcess g order rows s p q m →
        Contains (start_reach g order r p) m.variable
    process_in p q below at free up_to_p (by_value origin) =
        of_conditions p q origin.condition m.variable free up_to_p (condition_in q origin.condition origin.decides)
        (variable_of (value_variable origin.condition)
        (value_variable origin.condition ∷ hearing_reach g r (node_of g p) origin.condition) origin.is
        (Contains-first (value_variable origin.condition) (hearing_reach g r (node_of g p) origin.condition)))
    process_in p q below at free up_to_p (by_broadcast origin) =
        let up = up_to_parts g order timed.admitted.topological p q below up_to_p in
        let earlier = hears_earlier g order timed.admitted.topological s q origin.condition origin.decides in
        of_conditions p q origin.condition m.variable free up_to_p (condition_in q origin.condition origin.decides)
        (Contains-rest (value_variable origin.condition) (hearing_reach g r (node_of g p) origin.condition) m.variable
        (subst (λ vs. Contains vs m.variable)
        (sym (cond-false _ _ _ (subst (λ n. (node_of g (process_of g origin.condition) == n)
        ≡ false) up.node origin.other)))
        (of_row (broadcast_item g origin.condition) (earlier.0, omega (arith, earlier.1, up.place, at)) origin.row)))
    process_in p q below at free up_to_p (by_message on own_free origin) =
        let up = up_to_parts g order timed.admitted.topological p q below up_to_p in
        let earlier = receives_earlier g order timed.admitted.topological q origin.edge origin.input in
        let told = of_message q origin.edge m.variable own_free origin.input origin.message
        (of_row (message_item g origin.edge) (earlier.0, omega (arith, earlier.1, up.place, at)) origin.row) in
        elim (up_to_cases g order timed.admitted.topological p q up_to_p) [
          | inl before ↦ of_ends p q m.variable free before
              (Contains-append_left (reach_of r q) (q ∷ []) m.variable (start_by_rule q m.variable up.within told))
          | inr same ↦ subst (λ p. Contains (start_reach g order r p) m.variable) (sym same) told
        ]
    process_in p q below at free up_to_p (by_count before on earlier) =
        of_ends p q m.variable free before
        (variable_of q (end_reach r q) earlier (Contains-append_right (reach_of r q) (q ∷ []) q (Contains-first q [])))

    -- The value of a condition that decides p is on the reach of p's start: that of a frozen process is made of its conditions, and
    -- that of any other has the conditions of all processes up to it on its node.
    own_in : (p : ℕ) → FromValue g order rows s p m → Contains (start_reach g order r p) m.variable
    own_in p from_value = elim (cases_Bool (process_at g p).frozen) [
      | inl frozen_or_not ↦ subst (λ vs. Contains vs m.variable) (sym (cond-true _ _ _ frozen_or_not))
          (value_in p from_value)
      | inr frozen_or_not ↦ of_conditions p p from_value.condition m.variable frozen_or_not
          (Contains-append_right (before_on_node g order p) (p ∷ []) p
          (Contains-first p [])) (condition_in p from_value.condition from_value.decides)
          (variable_of (value_variable from_value.condition)
          (value_variable from_value.condition ∷ hearing_reach g r (node_of g p) from_value.condition) from_value.is
          (Contains-first (value_variable from_value.condition) (hearing_reach g r (node_of g p) from_value.condition)))
    ]

    -- what is carried beside a start is on the reach of the start
    start_in : (p : ℕ) → p < process_count g → place order p ≤ bound → FromStart g order rows s p m →
        Contains (start_reach g order r p) m.variable
    start_in p below at (own origin) = own_in p origin
    start_in p below at (more origin) = process_in p origin.process below at origin.free origin.stands origin.told

    -- what is carried beside an end is on the reach of the end
    end_in_reach : (p : ℕ) → p < process_count g → place order p ≤ bound → FromEnd g order rows s p m →
        Contains (end_reach r p) m.variable
    end_in_reach p below at (from_start origin) =
        Contains-append_left (reach_of r p) (p ∷ []) m.variable
        (start_by_rule p m.variable below (start_in p below at origin))
    end_in_reach p below at (its_count is_count) =
        variable_of p (end_reach r p) is_count (Contains-append_right (reach_of r p) (p ∷ []) p (Contains-first p []))

    -- the first part of a send's reach, all but the value by which the item is sent: the conditions of a frozen item's producer,
    -- and otherwise the reach of the producer's end and of the items before it in the queue
    front : ℕ → List ℕ
    front x = if is_frozen g x then map value_variable (conditions_of g (producer g x))
        else (end_reach r (producer g x) ++ flat_map (reach_of r) (queued_before g order x))

    -- what is in this part is in the reach
    of_front : (x v : ℕ) → Contains (front x) v → Contains (send_reach g order r x) v
    unfolding front
    of_front x v among =
        Contains-append_left (if is_frozen g x then map value_variable (conditions_of g (producer g x)) else
        (end_reach r (producer g x) ++ flat_map (reach_of r) (queued_before g order x)))
        (sent_value g (item_at g x)) v among

    -- the reach of a send that is not frozen has the reach of its producer's end
    of_producers_end : (x v : ℕ) → is_frozen g x ≡ false → Contains (end_reach r (producer g x)) v →
        Contains (send_reach g order r x) v
    unfolding front
    of_producers_end x v free among = of_front x v
        (subst (λ vs. Contains vs v) (sym (cond-false _ _ _ free))
        (Contains-append_left (end_reach r (producer g x)) (flat_map (reach_of r) (queued_before g order x)) v among))

    -- the reach of a send that isn't frozen has that of each item before it in the queue
    of_queue_before : (x y v : ℕ) → is_frozen g x ≡ false → Contains (queued_before g order x) y →
        Contains (reach_of r y) v →
        Contains (send_reach g order r x) v
    unfolding front
    of_queue_before x y v free in_queue among = of_front x v
        (subst (λ vs. Contains vs v) (sym (cond-false _ _ _ free))
        (Contains-append_right (end_reach r (producer g x)) (flat_map (reach_of r) (queued_before g order x)) v
        (Contains-flat_map (reach_of r) (queued_before g order x) y v in_queue among)))

    -- the value by which an item is sent is on the reach of its send
    sent_in : (x : ℕ) → FromSent g order rows s x m → Contains (send_reach g order r x) m.variable
    sent_in x from_sent = variable_of from_sent.variable (send_reach g order r x) from_sent.is
        (Contains-append_right (if is_frozen g x then map value_variable (conditions_of g (producer g x))
        else (end_reach r (producer g x) ++ flat_map (reach_of r) (queued_before g order x)))
        (sent_value g (item_at g x)) from_sent.variable from_sent.stands)

    -- the value of a condition that decides the producer is on the reach of the send, whether the item is frozen or not
    producer_in : (x : ℕ) → producer g x < process_count g → FromValue g order rows s (producer g x) m →
        Contains (send_reach g order r x) m.variable
    unfolding front
    producer_in x below from_value = elim (cases_Bool (is_frozen g x)) [
      | inl frozen_or_not ↦ of_front x m.variable
          (subst (λ vs. Contains vs m.variable) (sym (cond-true _ _ _ frozen_or_not))
          (value_in (producer g x) from_value))
      | inr frozen_or_not ↦ of_producers_end x m.variable frozen_or_not
          (Contains-append_left (reach_of r (producer g x))
          (producer g x ∷ []) m.variable (start_by_rule (producer g x) m.variable below
          (own_in (producer g x) from_value)))
    ]

    -- what an item leaves to those behind it is on the reach of its send
    queued_in : (y : ℕ) → producer g y < process_count g → place order (producer g y) ≤ bound →
        FromQueued g order rows s y m →
        Contains (send_reach g order r y) m.variable
    queued_in y below at (left_value origin) = producer_in y below origin
    queued_in y below at (left_sent on origin) = sent_in y origin
    queued_in y below at (left_end on free origin) = of_producers_end y m.variable free
        (end_in_reach (producer g y) below at origin)

    -- what is carried beside a send is on the reach of the send
    send_in : (x : ℕ) → x < item_count g → is_sent g x ≡ true → place order (producer g x) ≤ bound →
        FromSend g order rows s x m →
        Contains (send_reach g order r x) m.variable
    send_in x below on_bus at (of_producer origin value) = producer_in x
        (producer_in_range g order timed.admitted.topological x below) value
    send_in x below on_bus at (of_queue free y in_queue origin) =
        let queued_one = queued_parts g order timed.admitted.topological x y below on_bus in_queue in
        of_queue_before x y m.variable free in_queue
        (by_rule y m.variable queued_one.within (sent_reach y m.variable (item_at g y) queued_one.sent
        (queued_in y (producer_in_range g order timed.admitted.topological y queued_one.within)
        (omega (arith, producer_no_later g order x y in_queue, at)) origin)))
    send_in x below on_bus at (of_end free origin) = of_producers_end x m.variable free
        (end_in_reach (producer g x) (producer_in_range g order timed.admitted.topological x below) at origin)
    send_in x below on_bus at (of_value origin) = sent_in x origin

    -- what is carried beside the time of an active item is on the item's reach: by whether it is a start, a message or a broadcast
    carried_in : (x : ℕ) → x < item_count g → place order (producer g x) ≤ bound →
        item_active g s.values (item_at g x) ≡ true →
        Contains (carried g order rows s x) m →
        Contains (reach_of r x) m.variable
    carried_in x below at on among = elim (item_cases g x below) [
      | inl kind ↦ start_by_rule x m.variable kind.0
          (start_in x kind.0 (omega (arith, at, ap (λ i. place order (producer_of_item g i)) kind.1))
          (from_start_of g order rows s timed.admitted.topological x m (sym (ap (item_active g s.values) kind.1) ∙ on)
          (subst (λ i. Contains (carried_by_item g order rows s x i) m) kind.1 among)))
      | inr (inl kind) ↦
          let on_bus : is_sent g x ≡ true = ap (is_sent_item g) kind.3 ∙ (and_parts (is_sent_item g (Message kind.0))
          (live g s.values kind.0) (sym (ap (item_active g s.values) kind.3) ∙ on)).0 in
          by_rule x m.variable below (sent_reach x m.variable (item_at g x) on_bus
          (send_in x below on_bus at (from_send_of g order rows s timed.admitted.topological x m on
          (subst (λ i. Contains (carried_by_item g order rows s x i) m) kind.3 among))))
      | inr (inr kind) ↦
          let on_bus : is_sent g x ≡ true = ap (is_sent_item g) kind.3 ∙ (and_parts (is_sent_item g (Broadcast kind.0))
          (active g s.values (process_of g kind.0)) (sym (ap (item_active g s.values) kind.3) ∙ on)).0 in
          by_rule x m.variable below (sent_reach x m.variable (item_at g x) on_bus
          (send_in x below on_bus at (from_send_of g order rows s timed.admitted.topological x m on
          (subst (λ i. Contains (carried_by_item g order rows s x i) m) kind.3 among))))
    ]

  -- ---- rows, process after process

  -- If the rows of items from earlier processes have literals on their reach alone, so has the row of x. A column of it matches
  -- some scenario, and its literal is on the variable of one that is carried there, which is on the reach.
  row_speaks : (bound x : ℕ) → SpeakOfReach bound → x < item_count g → place order (producer g x) ≤ bound →
      (c : Column) → Contains (row_at rows x) c → (m : Literal) →
      Contains c.cube m →
      Contains (reach_of r x) m.variable
  row_speaks bound x speak below at c in_row m in_cube =
      let row = all.each x below in
      let rising = (All-contains (λ (c : Column). IsCube g c.cube) (row_at rows x) c row.cubes in_row).rising in
      let part = All-contains (λ (l : Literal). is_whole g.faults l ≡ false) c.cube m
      (All-contains (λ (c : Column). All (λ (l : Literal). is_whole g.faults l ≡ false) c.cube)
      (row_at rows x) c row.not_whole in_row) in_cube in
      let within = All-contains (λ (l : Literal). l.high ≤ top g.faults l.variable) c.cube m
      (All-contains (λ (c : Column). All (λ (l : Literal). l.high ≤ top g.faults l.variable) c.cube)
      (row_at rows x) c row.within in_row) in_cube in
      let least =
      All-contains (λ (c : Column). (s : Scenario) × IsLeastMatch g urgency c s) (row_at rows x) c row.met in_row in
      let s : Scenario = least.0 in
      let on = (carrying_active g urgency order frozen timed rows all x c in_row s least.1.lawful least.1.holds).1 in
      let told = narrower_spoken g.faults c.cube m rising in_cube part within (carried g order rows s x)
      (row.carries s c least.1.lawful in_row least.1.holds) in
      subst (Contains (reach_of r x)) told.2 (carried_in s least.1.lawful bound speak told.0 x below at on told.1)

  -- The rows of all items of processes before the bound have literals on their reach alone: by induction on n, which is at least
  -- the bound.
  speak_below : (n bound : ℕ) → bound ≤ n → SpeakOfReach bound
  unfolding SpeakOfReach
  speak_below zero bound bound_low y is_earlier c in_row m in_cube = absurd (omega (arith, is_earlier.1, bound_low))
  speak_below (suc n) bound bound_low y is_earlier c in_row m in_cube = row_speaks (place order (producer g y)) y
      (speak_below n (place order (producer g y)) (omega (arith, is_earlier.1, bound_low))) is_earlier.0 (omega arith)
      c in_row m in_cube

  -- each literal of a row is on a variable of its item's reach
  pub rows_in_reach : (x : ℕ) → x < item_count g → (c : Column) → Contains (row_at rows x) c → (m : Literal) →
      Contains c.cube m →
      Contains (reach_of r x) m.variable
  rows_in_reach x below = row_speaks (place order (producer g x)) x
      (speak_below (place order (producer g x)) (place order (producer g x)) (omega arith)) below (omega arith)
