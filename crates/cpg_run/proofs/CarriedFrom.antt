-- Each literal that is carried beside a time is of one of few kinds, by where it comes from. So all that is carried in a scenario
-- holds in it, and is on variables of the graph.
use Rattle.std.proofs.Common.{ℕ, ◌<◌, ◌≤◌, ◌≡◌, ◌==◌, ◌&&◌, Bool, true, false, not, if◌then◌else◌, List, [], ◌∷◌, ◌++◌}
use Rattle.std.proofs.Common.{map, filter, flat_map, Contains, is_some, option_to_list, arith, refl, sym, ap}
use Rattle.std.proofs.Common.{◌∙◌, subst, inl, inr, All}
use Rattle.std.proofs.lemmas.Bool.{cases_Bool, cond-true, cond-false, and_parts, not-true}
use Rattle.std.proofs.lemmas.List.Elements.{All-contains, Contains-append_cases}
use Rattle.std.proofs.lemmas.List.Quantifiers.{position-Some}
use Rattle.cpg_base.specs.Numbers.{numbers_below}
use Rattle.cpg_base.specs.Graph.{Graph, process_count, condition_count, item_count, item_at, edge_at, process_at}
use Rattle.cpg_base.specs.Graph.{node_of, source, inputs, is_message, is_frozen, message_item, broadcast_item}
use Rattle.cpg_base.specs.Graph.{producer, producer_of_item, process_of, condition_of, disjunctions, value_variable}
use Rattle.cpg_base.specs.Graph.{IsVariable}
use Rattle.cpg_base.specs.declared.item.Item.{Item}
use Rattle.cpg_base.specs.declared.item.Item.TheVariants.{Start, Message, Broadcast}
use Rattle.cpg_base.specs.Activity.{active, item_active}
use Rattle.cpg_base.proofs.Lists.{Contains-cases, Contains-nil, Contains-map_parts, Contains-filter_parts}
use Rattle.cpg_base.proofs.Lists.{Contains-flat_map_parts, numbers-Contains, from_all, all_from, in_option}
use Rattle.cpg_base.proofs.Items.{item_cases}
use Rattle.cpg_order.specs.Urgency.{IsTopological}
use Rattle.cpg_base.specs.Order.{place, before_on_node}
use Rattle.cpg_order.specs.Deciding.{decides, deciding}
use Rattle.cpg_order.specs.Queue.{queued_before, is_queued_before}
use Rattle.cpg_order.specs.Reach.{sent_value}
use Rattle.cpg_base.specs.Scenario.{Scenario}
use Rattle.cpg_base.proofs.ConditionProcesses.{process_of_condition_of}
use Rattle.cpg_order.proofs.Moments.{producer_in_range}
use Rattle.cpg_cube.specs.declared.literal.Literal.{Literal}
use Rattle.cpg_cube.specs.Cube.{holds, matches}
use Rattle.cpg_cube.specs.Fit.{IsCube}
use Rattle.cpg_cube.specs.declared.column.Column.{Column}
use Rattle.cpg_run.specs.Supported.{up_to}
use Rattle.cpg_run.proofs.Awaited.{up_to_before, up_to_itself, up_to_parts}
use Rattle.cpg_run.specs.Carried.{row_at, carried_by_row, number_known, decided, heard, received, executed, passed}
use Rattle.cpg_run.specs.Carried.{carried_at_start, carried_at_end, sent_by_value, queued, carried_at_send}
use Rattle.cpg_run.specs.Carried.{carried_by_item}
use Rattle.cpg_run.specs.Carried.{carried}
use Rattle.cpg_run.specs.RowLaws.{IsEarlier}
use Rattle.cpg_run.proofs.CarriedBefore.{hears_earlier, receives_earlier}
use Rattle.cpg_run.proofs.CubesOf.{number_holds}
use Rattle.cpg_run.proofs.Queued.{producer_no_later}
use Rattle.cpg_run.proofs.SameSends.{producer_active}

-- what is in `if b then xs else []` is in xs, and b is true
in_if : {X : Type 0} (b : Bool) (xs : List X) (x : X) → Contains (if b then xs else []) x → (b ≡ true) × Contains xs x
in_if true xs x among = (refl, among)
in_if false xs x among = absurd (Contains-nil x among)

-- what is in `if b then [] else xs` is in xs, and b is false
in_unless : {X : Type 0} (b : Bool) (xs : List X) (x : X) → Contains (if b then [] else xs) x →
    (b ≡ false) × Contains xs x
in_unless true xs x among = absurd (Contains-nil x among)
in_unless false xs x among = (refl, among)

-- what is in a list of one element is that element
in_one : {X : Type 0} (x y : X) → Contains (x ∷ []) y → y ≡ x
in_one x y among = elim (Contains-cases x [] y among) [
  | inl is_head ↦ sym is_head
  | inr none ↦ absurd (Contains-nil y none)
]

-- a variable by which an item is sent is that of its producer's condition
pub sent_variable : (g : Graph) (x v : ℕ) → Contains (sent_value g (item_at g x)) v →
    (c : ℕ) × (c < condition_count g) × (v ≡ value_variable c) × (process_of g c ≡ producer g x)
sent_variable g x v v_among = of_item (item_at g x) refl v_among
  where
    -- by the kind of the item: a start and a broadcast carry no value, a message carries one if its edge asks for it
    of_item : (i : Item) → item_at g x ≡ i → Contains (sent_value g i) v →
        (c : ℕ) × (c < condition_count g) × (v ≡ value_variable c) × (process_of g c ≡ producer g x)
    of_item (Start p) is among = absurd (Contains-nil v among)
    of_item (Broadcast c) is among = absurd (Contains-nil v among)
    of_item (Message e) is among =
        let asked = in_if (is_some (edge_at g e).when)
        (map value_variable (option_to_list (condition_of g (source g e)))) v among in
        let found = Contains-map_parts value_variable (option_to_list (condition_of g (source g e))) v asked.1 in
        let has = in_option (condition_of g (source g e)) found.0 found.1 in (
          found.0,
          (position-Some (λ q. q == source g e) (disjunctions g) found.0 0 has).0,
          sym found.2,
          process_of_condition_of g (source g e) found.0 has ∙ ap (producer_of_item g) (sym is),
        )

module _ (g : Graph) (order : List ℕ) (rows : List (List Column)) (s : Scenario) where
  -- ---- the kinds

  -- m is a literal of a column in the row of y that matches s
  pub record FromRow (y : ℕ) (m : Literal) : Type 0 where
    -- the column
    pub column : Column
    -- the column is one of the row
    pub stands : Contains (row_at rows y) column
    -- it matches s
    pub matched : matches column.cube s ≡ true
    -- m is one of its literals
    pub literal : Contains column.cube m

  -- a literal that a row carries comes from a column of the row
  from_told : (y : ℕ) (m : Literal) → Contains (carried_by_row rows s y) m → FromRow y m
  from_told y m among =
      let from_column = Contains-flat_map_parts (λ (c : Column). c.cube)
      (filter (λ (c : Column). matches c.cube s) (row_at rows y)) m among in
      let kept = Contains-filter_parts (λ (c : Column). matches c.cube s) (row_at rows y) from_column.0 from_column.1 in
      record { column = from_column.0; stands = kept.0; matched = kept.1; literal = from_column.2 }

  -- m is the value in s of a condition that decides q
  pub record FromValue (q : ℕ) (m : Literal) : Type 0 where
    pub condition : ℕ
    pub decides : Contains (deciding g s.values q) condition
    pub is : m ≡ number_known s (value_variable condition)

  -- m is from the row of the broadcast of a condition that decides q and is of another node
  pub record FromBroadcast (q : ℕ) (m : Literal) : Type 0 where
    pub condition : ℕ
    pub decides : Contains (deciding g s.values q) condition
    pub other : (node_of g (process_of g condition) == node_of g q) ≡ false
    pub row : FromRow (broadcast_item g condition) m

  -- m is from the row of a message to q
  pub record FromMessage (q : ℕ) (m : Literal) : Type 0 where
    -- the edge of the message
    pub edge : ℕ
    pub input : Contains (inputs g q) edge
    pub message : is_message g edge ≡ true
    pub row : FromRow (message_item g edge) m

  -- m is what a process q up to p on its node gives to the start of p: a value that decides q, what a broadcast of that or a
  -- message to q told, or, of a process before p, the count of its faults
  pub data FromProcess (p q : ℕ) (m : Literal) : Type 0 where
    by_value : FromValue q m → FromProcess p q m
    by_broadcast : FromBroadcast q m → FromProcess p q m
    by_message : active g s.values q ≡ true → (process_at g q).frozen ≡ false → FromMessage q m → FromProcess p q m
    by_count : Contains (before_on_node g order p) q → active g s.values q ≡ true → m ≡ number_known s q →
        FromProcess p q m

  -- the start of p is not frozen, and m is what a process up to p on its node gives to it
  pub record FromFree (p : ℕ) (m : Literal) : Type 0 where
    pub free : (process_at g p).frozen ≡ false
    -- the process that gives it
    pub process : ℕ
    -- is p or before it on the node
    pub stands : Contains (up_to g order p) process
    -- m is one of what it gives
    pub told : FromProcess p process m

  -- beside a start: what decides its process or, if it is not frozen, more
  pub data FromStart (p : ℕ) (m : Literal) : Type 0 where
    own : FromValue p m → FromStart p m
    more : FromFree p m → FromStart p m

  -- beside an end: what is carried beside the start, and the count of the process's faults
  pub data FromEnd (p : ℕ) (m : Literal) : Type 0 where
    from_start : FromStart p m → FromEnd p m
    its_count : m ≡ number_known s p → FromEnd p m

  -- m is the value in s by which the item x is sent
  pub record FromSent (x : ℕ) (m : Literal) : Type 0 where
    -- the variable of the value
    pub variable : ℕ
    -- the value decides whether x is sent
    pub stands : Contains (sent_value g (item_at g x)) variable
    -- m says the value in s
    pub is : m ≡ number_known s variable

  -- what an item leaves to those behind it in the queue: what decides its producer; if that is active, the value by which it is
  -- sent; and, if the item is active and isn't frozen, what is carried beside its producer's end
  pub data FromQueued (y : ℕ) (m : Literal) : Type 0 where
    left_value : FromValue (producer g y) m → FromQueued y m
    left_sent : active g s.values (producer g y) ≡ true → FromSent y m → FromQueued y m
    left_end : item_active g s.values (item_at g y) ≡ true → is_frozen g y ≡ false → FromEnd (producer g y) m →
        FromQueued y m

  -- beside a send: the value by which it is sent; for a frozen item what decides its producer; for any other what the items before
  -- it in the queue leave, and what is carried beside its producer's end
  pub data FromSend (x : ℕ) (m : Literal) : Type 0 where
    of_producer : is_frozen g x ≡ true → FromValue (producer g x) m → FromSend x m
    of_queue : is_frozen g x ≡ false → (y : ℕ) → Contains (queued_before g order x) y → FromQueued y m → FromSend x m
    of_end : is_frozen g x ≡ false → FromEnd (producer g x) m → FromSend x m
    of_value : FromSent x m → FromSend x m

  -- ---- each literal is of one of the kinds

  -- a literal of `decided` is the value of a condition that decides the process
  in_decided : (q : ℕ) (m : Literal) → Contains (decided g s q) m → FromValue q m
  in_decided q m among =
      let found = Contains-map_parts (λ (c : ℕ). number_known s (value_variable c)) (deciding g s.values q) m among in
      record { condition = found.0; decides = found.1; is = sym found.2 }

  -- a literal of `heard` is from the row of the broadcast of a condition of another node
  in_heard : (q : ℕ) (m : Literal) → Contains (heard g rows s q) m → FromBroadcast q m
  in_heard q m among =
      let from_condition = Contains-flat_map_parts (λ c. if node_of g (process_of g c) == node_of g q then []
      else carried_by_row rows s (broadcast_item g c)) (deciding g s.values q) m among in
      let elsewhere = in_unless (node_of g (process_of g from_condition.0) == node_of g q)
      (carried_by_row rows s (broadcast_item g from_condition.0)) m from_condition.2 in
      record {
        condition = from_condition.0;
        decides = from_condition.1;
        other = elsewhere.0;
        row = from_told (broadcast_item g from_condition.0) m elsewhere.1;
      }

  -- a literal of `received` is from the row of a message
  in_received : (q : ℕ) (m : Literal) → Contains (received g rows s q) m → FromMessage q m
  in_received q m among =
      let from_edge = Contains-flat_map_parts
      (λ e. if is_message g e then carried_by_row rows s (message_item g e) else [])
      (inputs g q) m among in
      let arrived = in_if (is_message g from_edge.0) (carried_by_row rows s (message_item g from_edge.0))
      m from_edge.2 in
      record {
        edge = from_edge.0;
        input = from_edge.1;
        message = arrived.0;
        row = from_told (message_item g from_edge.0) m arrived.1;
      }

  -- A literal that a process q before p on its node carries on is of one of the kinds of a process. It is a value that decides q
  -- or what a broadcast told of that; if q is active, it may be what a message told, unless q is frozen, or the count of q.
  in_passed : (p q : ℕ) (m : Literal) → Contains (before_on_node g order p) q → Contains (passed g rows s q) m →
      FromProcess p q m
  in_passed p q m before among = elim (Contains-append_cases (decided g s q ++ heard g rows s q)
      (if active g s.values q then executed g rows s q else []) m among) [
        | inl in_left ↦ elim (Contains-append_cases (decided g s q) (heard g rows s q) m in_left) [
          | inl in_left ↦ by_value (in_decided q m in_left)
          | inr in_right ↦ by_broadcast (in_heard q m in_right)
        ]
        | inr in_right ↦ let on = in_if (active g s.values q) (executed g rows s q) m in_right in
            elim (Contains-append_cases (if (process_at g q).frozen then [] else received g rows s q)
            (number_known s q ∷ []) m on.1) [
              | inl in_left ↦ let unfrozen = in_unless (process_at g q).frozen (received g rows s q) m in_left in
                  by_message on.0 unfrozen.0 (in_received q m unfrozen.1)
              | inr in_right ↦ by_count before on.0 (in_one (number_known s q) m in_right)
            ]
      ]

  -- given: the order is topological
  module _ (topological : IsTopological g order) where
    -- A literal carried beside a start that isn't frozen is given by a process up to it: what p itself receives, hears or is
    -- decided by, or what a process before it passes on.
    in_free : (p : ℕ) (m : Literal) → active g s.values p ≡ true → (process_at g p).frozen ≡ false →
        Contains (flat_map (passed g rows s) (before_on_node g order p) ++ decided g s p ++ heard g rows s p
        ++ received g rows s p) m → FromFree p m
    in_free p m on free among = elim (Contains-append_cases (flat_map (passed g rows s) (before_on_node g order p)
        ++ decided g s p ++ heard g rows s p) (received g rows s p) m among) [
          | inr in_right ↦ here (by_message on free (in_received p m in_right))
          | inl in_left ↦ elim (Contains-append_cases (flat_map (passed g rows s)
              (before_on_node g order p) ++ decided g s p)
              (heard g rows s p) m in_left) [
                | inr in_right ↦ here (by_broadcast (in_heard p m in_right))
                | inl in_left ↦
                    elim (Contains-append_cases (flat_map (passed g rows s) (before_on_node g order p))
                    (decided g s p) m in_left) [
                      | inr in_right ↦ here (by_value (in_decided p m in_right))
                      | inl in_left ↦ let from_before = Contains-flat_map_parts (passed g rows s)
                          (before_on_node g order p) m in_left in
                          record {
                            free = free;
                            process = from_before.0;
                            stands = up_to_before g order topological p from_before.0 from_before.1;
                            told = in_passed p from_before.0 m from_before.1 from_before.2;
                          }
                    ]
              ]
        ]
      where
        -- what p itself gives
        here : FromProcess p p m → FromFree p m
        here itself =
            record { free = free; process = p; stands = up_to_itself g order topological p; told = itself }

    -- each literal that is carried beside the start of an active process is of one of the kinds of a start
    pub from_start_of : (p : ℕ) (m : Literal) → active g s.values p ≡ true →
        Contains (carried_at_start g order rows s p) m → FromStart p m
    from_start_of p m on among = elim (cases_Bool (process_at g p).frozen) [
      | inl frozen_or_not ↦ own (in_decided p m (subst (λ ls. Contains ls m) (cond-true _ _ _ frozen_or_not) among))
      | inr frozen_or_not ↦ more (in_free p m on frozen_or_not (subst (λ ls. Contains ls m)
          (cond-false _ _ _ frozen_or_not) among))
    ]

    -- each that is carried beside its end is of a start or is the count of the process
    pub from_end_of : (p : ℕ) (m : Literal) → active g s.values p ≡ true →
        Contains (carried_at_end g order rows s p) m → FromEnd p m
    from_end_of p m on among =
        elim (Contains-append_cases (carried_at_start g order rows s p) (number_known s p ∷ []) m among) [
          | inl in_left ↦ from_start (from_start_of p m on in_left)
          | inr in_right ↦ its_count (in_one (number_known s p) m in_right)
        ]

    -- a literal of `sent_by_value` is the value by which the item is sent
    in_sent : (x : ℕ) (m : Literal) → Contains (sent_by_value g s x) m → FromSent x m
    in_sent x m among = let found = Contains-map_parts (number_known s) (sent_value g (item_at g x)) m among in
        record { variable = found.0; stands = found.1; is = sym found.2 }

    -- a literal that an item in the queue leaves is what decides its producer, the value by which it is sent, or, if it is sent and
    -- isn't frozen, what is carried at its producer's end
    in_queued : (y : ℕ) (m : Literal) → Contains (queued g order rows s y) m → FromQueued y m
    in_queued y m among = elim (Contains-append_cases (decided g s (producer g y)
        ++ (if active g s.values (producer g y) then sent_by_value g s y else []))
        (if item_active g s.values (item_at g y) && not (is_frozen g y)
        then carried_at_end g order rows s (producer g y) else []) m among) [
          | inl in_left ↦ elim (Contains-append_cases (decided g s (producer g y))
              (if active g s.values (producer g y) then sent_by_value g s y else []) m in_left) [
                | inl in_left ↦ left_value (in_decided (producer g y) m in_left)
                | inr in_right ↦ let left = in_if (active g s.values (producer g y)) (sent_by_value g s y) m in_right in
                    left_sent left.0 (in_sent y m left.1)
              ]
          | inr in_right ↦
              let left = in_if (item_active g s.values (item_at g y) && not (is_frozen g y))
              (carried_at_end g order rows s (producer g y)) m in_right in
              let parts = and_parts (item_active g s.values (item_at g y)) (not (is_frozen g y)) left.0 in
              left_end parts.0 (not-true (is_frozen g y) parts.1)
              (from_end_of (producer g y) m (producer_active g s.values (item_at g y) parts.0) left.1)
        ]

    -- A literal carried beside an active send is of one of the kinds of a send: the value by which it is sent; for a frozen item
    -- what decides its producer; for any other what an item before it leaves, or what is carried at its producer's end.
    pub from_send_of : (x : ℕ) (m : Literal) → item_active g s.values (item_at g x) ≡ true →
        Contains (carried_at_send g order rows s x) m → FromSend x m
    from_send_of x m on among = elim (Contains-append_cases
        (if is_frozen g x then decided g s (producer g x) else flat_map (queued g order rows s)
        (queued_before g order x) ++ carried_at_end g order rows s (producer g x)) (sent_by_value g s x) m among) [
          | inr in_right ↦ of_value (in_sent x m in_right)
          | inl in_left ↦ elim (cases_Bool (is_frozen g x)) [
            | inl is_true ↦ of_producer is_true (in_decided (producer g x) m (subst (λ ls. Contains ls m)
                (cond-true _ _ _ is_true) in_left))
            | inr is_false ↦ elim (Contains-append_cases (flat_map (queued g order rows s) (queued_before g order x))
                (carried_at_end g order rows s (producer g x)) m
                (subst (λ ls. Contains ls m) (cond-false _ _ _ is_false) in_left)) [
                  | inl in_left ↦ let from_item = Contains-flat_map_parts (queued g order rows s)
                      (queued_before g order x) m in_left in
                      of_queue is_false from_item.0 from_item.1 (in_queued from_item.0 m from_item.2)
                  | inr in_right ↦ of_end is_false (from_end_of (producer g x) m
                      (producer_active g s.values (item_at g x) on) in_right)
                ]
          ]
        ]

    -- ---- so it is a number of the scenario, or of an earlier row

    -- where a literal comes from: a number of the scenario, or an earlier row
    pub data IsOf (bound : ℕ) (m : Literal) : Type 0 where
      of_number : (v : ℕ) → IsVariable g v → m ≡ number_known s v → IsOf bound m
      of_row : (y : ℕ) → IsEarlier g order bound y → FromRow y m → IsOf bound m

    -- given: a bound on places in the order, and a literal m
    module _ (few : process_count g ≤ 128) (bound : ℕ) (m : Literal) where
      -- the value of a condition is a number of the scenario
      value_is : (q : ℕ) → FromValue q m → IsOf bound m
      value_is q from_value =
          let parts =
          Contains-filter_parts (decides g s.values q) (numbers_below (condition_count g))
          from_value.condition from_value.decides in
          of_number (value_variable from_value.condition)
          (inr (omega arith, omega (arith, numbers-Contains (condition_count g) from_value.condition parts.0)))
          from_value.is

      -- a literal that a process gives is a number of the scenario, if it is a value or a count of faults; it is from an earlier
      -- row, if a broadcast or a message told it
      process_is : (p q : ℕ) → q < process_count g → place order q ≤ bound → FromProcess p q m → IsOf bound m
      process_is p q below at (by_value origin) = value_is q origin
      process_is p q below at (by_broadcast origin) =
          let earlier = hears_earlier g order topological s q origin.condition origin.decides in
          of_row (broadcast_item g origin.condition) (earlier.0, omega (arith, earlier.1, at)) origin.row
      process_is p q below at (by_message on free origin) =
          let earlier = receives_earlier g order topological q origin.edge origin.input in
          of_row (message_item g origin.edge) (earlier.0, omega (arith, earlier.1, at)) origin.row
      process_is p q below at (by_count before on is) = of_number q (inl below) is

      -- a literal that is carried at a start is a number of the scenario or from an earlier row
      start_is : (p : ℕ) → p < process_count g → place order p ≤ bound → FromStart p m → IsOf bound m
      start_is p below at (own origin) = value_is p origin
      start_is p below at (more origin) =
          let stand = up_to_parts g order topological p origin.process below origin.stands in
          process_is p origin.process stand.within (omega (arith, stand.place, at)) origin.told

      -- a literal that is carried at an end is a number of the scenario or from an earlier row
      end_is : (p : ℕ) → p < process_count g → place order p ≤ bound → FromEnd p m → IsOf bound m
      end_is p below at (from_start origin) = start_is p below at origin
      end_is p below at (its_count is) = of_number p (inl below) is

      -- the value by which an item is sent is a number of the scenario
      sent_is : (x : ℕ) → FromSent x m → IsOf bound m
      sent_is x sent = let its_condition = sent_variable g x sent.variable sent.stands in
          of_number sent.variable (inr (
            omega (arith, its_condition.2),
            omega
                (arith, its_condition.1, its_condition.2),
          )) sent.is

      -- a literal that an item leaves in the queue is a number of the scenario or from an earlier row
      queued_is : (y : ℕ) → producer g y < process_count g → place order (producer g y) ≤ bound → FromQueued y m →
          IsOf bound m
      queued_is y below at (left_value origin) = value_is (producer g y) origin
      queued_is y below at (left_sent on origin) = sent_is y origin
      queued_is y below at (left_end on free origin) = end_is (producer g y) below at origin

      -- a literal that is carried beside a send is a number of the scenario or from an earlier row: the items before it in the
      -- queue are of no later process
      send_is : (x : ℕ) → producer g x < process_count g → place order (producer g x) ≤ bound → FromSend x m →
          IsOf bound m
      send_is x below at (of_producer origin value) = value_is (producer g x) value
      send_is x below at (of_queue free y in_queue origin) =
          let parts = Contains-filter_parts (λ y. is_queued_before g order y x) (numbers_below (item_count g))
          y in_queue in
          queued_is y (producer_in_range g order topological y (numbers-Contains (item_count g) y parts.0))
          (omega (arith, producer_no_later g order x y in_queue, at)) origin
      send_is x below at (of_end free origin) = end_is (producer g x) below at origin
      send_is x below at (of_value origin) = sent_is x origin

      -- each literal carried by an active item of a process up to a place is a number of the scenario, or is in
      -- an earlier row
      pub carried_is : (x : ℕ) → x < item_count g → place order (producer g x) ≤ bound →
          item_active g s.values (item_at g x) ≡ true → Contains (carried g order rows s x) m → IsOf bound m
      carried_is x below at on among = elim (item_cases g x below) [
        | inl kind ↦ start_is x kind.0 (omega (arith, at, ap (λ i. place order (producer_of_item g i)) kind.1))
            (from_start_of x m (sym (ap (item_active g s.values) kind.1) ∙ on)
            (subst (λ i. Contains (carried_by_item g order rows s x i) m) kind.1 among))
        | inr (inl kind) ↦ send_is x (producer_in_range g order topological x below) at
            (from_send_of x m on (subst (λ i. Contains (carried_by_item g order rows s x i) m) kind.3 among))
        | inr (inr kind) ↦ send_is x (producer_in_range g order topological x below) at
            (from_send_of x m on (subst (λ i. Contains (carried_by_item g order rows s x i) m) kind.3 among))
      ]

    -- all that is carried in a scenario holds in it
    pub carried_holds : process_count g ≤ 128 → (x : ℕ) → x < item_count g →
        item_active g s.values (item_at g x) ≡ true →
        matches (carried g order rows s x) s ≡ true
    carried_holds few x below on = all_from (holds s) (carried g order rows s x)
        (λ m among. holds_is m (carried_is few (place order (producer g x)) m x below (omega arith) on among))
      where
        -- a number of s holds in s, and a literal of a column that matches s does
        holds_is : (m : Literal) → IsOf (place order (producer g x)) m → holds s m ≡ true
        holds_is m (of_number v known is) = ap (holds s) is ∙ number_holds s v
        holds_is m (of_row y at row) = from_all (holds s) row.column.cube m row.matched row.literal

    -- all that is carried is on variables of the graph, if the columns of earlier rows are
    pub carried_known : process_count g ≤ 128 → (x : ℕ) → x < item_count g →
        ((y : ℕ) → IsEarlier g order (place order (producer g x)) y → All (λ c. IsCube g c.cube) (row_at rows y)) →
        item_active g s.values (item_at g x) ≡ true → (m : Literal) → Contains (carried g order rows s x) m →
        IsVariable g m.variable
    carried_known few x below cubes on m among = known_is (carried_is few (place order (producer g x))
        m x below (omega arith) on among)
      where
        -- a number is of a variable of the graph by `IsOf`, and a literal of a column by its cube
        known_is : IsOf (place order (producer g x)) m → IsVariable g m.variable
        known_is (of_number v known is) = subst (IsVariable g) (sym (ap (λ (l : Literal). l.variable) is)) known
        known_is (of_row y at row) = All-contains (λ (l : Literal). IsVariable g l.variable) row.column.cube m
            (All-contains (λ (c : Column). IsCube g c.cube) (row_at rows y) row.column (cubes y at) row.stands).known
            row.literal
