-- Each bound of an item rests on one thing alone, the time of an item or an end, which has an earlier moment, and grows with
-- it.
use Rattle.std.proofs.Common.{rules, ◌≡◌, ℕ, ◌+◌, ◌*◌, ◌<◌, ◌≤◌, ◌==◌, List, [], ◌∷◌, ◌++◌, filter, flat_map, Contains}
use Rattle.std.proofs.Common.{arith, refl, sym, subst, inl, inr}
use Rattle.std.specs.Prelude.{⊤}
use Rattle.std.proofs.lemmas.Bool.{cases_Bool, cases_lt, cond-true, cond-false}
use Rattle.std.proofs.lemmas.List.Elements.{Contains-append_cases, Contains-append_left, Contains-append_right}
use Rattle.std.proofs.Math.Nat.{mul-le-mul_right}
use Rattle.cpg_base.specs.Numbers.{numbers_below}
use Rattle.cpg_base.specs.Graph.{Graph, process_count, condition_count, item_count, message_item, broadcast_item}
use Rattle.cpg_base.specs.Graph.{item_at, producer, process_of, process_at, node_of, home, source, inputs, is_message}
use Rattle.cpg_base.specs.Activity.{active, live, item_active}
use Rattle.cpg_base.specs.Bus.{round, offset, first_from, next_slot}
use Rattle.cpg_base.specs.Order.{place, before_on_node}
use Rattle.cpg_base.specs.Scenario.{Scenario}
use Rattle.cpg_base.proofs.Inputs.{inputs_parts}
use Rattle.cpg_base.proofs.Items.{ItemCases, item_cases, process_of_below}
use Rattle.cpg_base.proofs.Lists.{greatest-le, greatest_above, numbers-Contains, Contains-first, Contains-rest}
use Rattle.cpg_base.proofs.Lists.{Contains-cases, Contains-map, Contains-map_parts, Contains-filter_parts}
use Rattle.cpg_base.proofs.Lists.{Contains-flat_map_parts}
use Rattle.cpg_base.proofs.Places.{from_order, not_later, on_node_before}
use Rattle.cpg_base.proofs.Slots.{next_slot_above, first_from_least}
use Rattle.cpg_order.specs.Urgency.{IsTopological}
use Rattle.cpg_order.specs.Deciding.{decides, deciding}
use Rattle.cpg_order.specs.Queue.{is_queued_before, queued_before, rank_of_item}
use Rattle.cpg_order.proofs.Acyclic.{input_goes_up, source_in_order}
use Rattle.cpg_order.proofs.DecidingLaws.{decides_earlier}
use Rattle.cpg_order.proofs.Moments.{phase, phases, moment, moment_of_end, moment_of_start, message_sooner}
use Rattle.cpg_order.proofs.Moments.{broadcast_sooner, end_sooner, queued_sooner, producer_in_range}
use Rattle.cpg_base.specs.declared.item.Item.{Item}
use Rattle.cpg_base.specs.declared.item.Item.TheVariants.{Start, Message, Broadcast}
use Rattle.cpg_run.specs.Run.{Times, time_in, end_in, frame_there, input_there, heard_there, input_bounds}
use Rattle.cpg_run.specs.Run.{processor_bounds, hearing_bounds, start_bounds, send_bounds, bounds_of_item}
use Rattle.cpg_run.specs.Run.{unfrozen_time}

-- ---- later times have later slots

-- if a turn takes no time, the number of turns makes no difference
no_turn : (j k turn off : ℕ) → turn ≡ 0 → j * turn + off ≤ k * turn + off
no_turn j k turn off is = subst (λ n. j * n + off ≤ k * n + off) (sym is) (omega arith)

-- more turns take no less time
more_turns : (j k turn off : ℕ) → j ≤ k → j * turn + off ≤ k * turn + off
more_turns j k turn off at_most = omega (arith, mul-le-mul_right turn at_most)

-- the next slot after a later time is no earlier; without slots the round is 0, and so is their number
pub next_slot_later : (g : Graph) (node earlier later : ℕ) → earlier ≤ later →
    next_slot g node earlier ≤ next_slot g node later
next_slot_later g node earlier later at_most = elim (cases_lt 0 (round g)) [
  | inl some_round ↦ more_turns (first_from g node earlier) (first_from g node later) (round g) (offset g node)
      (first_from_least g node earlier some_round (first_from g node later)
      (omega (arith, at_most, next_slot_above g node later some_round)))
  | inr none ↦ no_turn (first_from g node earlier) (first_from g node later) (round g) (offset g node)
      (let no_round : round g ≡ 0 = omega (arith, none) in no_round)
]

-- ---- what a bound rests on

-- what a bound rests on: nothing, the time of an item, or the end of a process
pub data Cause : Type 0 where
  -- nothing: the bound is a fixed number
  fixed : Cause
  -- the time of this item
  item : ℕ → Cause
  -- the end of this process
  ended : ℕ → Cause

-- the time that a cause has in given times; 0 for a fixed one
abbrev pub value_in : Times → Cause → ℕ
value_in t fixed = 0
value_in t (item y) = time_in t y
value_in t (ended p) = end_in t p

-- the cause of a bound is settled before a moment
abbrev pub IsBefore : Graph → List ℕ → ℕ → Cause → Type 0
IsBefore g order m fixed = ⊤
IsBefore g order m (item y) = (y < item_count g) × (moment g order y < m)
IsBefore g order m (ended p) = (p < process_count g) × (moment_of_end g order p < m)

-- v is a bound of the item x in the times t that rests on one thing
pub record Rests (g : Graph) (order : List ℕ) (s : Scenario) (t : Times) (x v : ℕ) : Type 0 where
  -- what it rests on, which is settled before the item
  pub cause : Cause
  pub early : IsBefore g order (moment g order x) cause
  -- the bound in any times, which is v in t
  pub bound : Times → ℕ
  pub is : bound t ≡ v
  -- in any times it is one of the item's bounds, and it grows with its cause
  pub among : (u : Times) → Contains (bounds_of_item g order s u x (item_at g x)) (bound u)
  pub grows : (u w : Times) → value_in u cause ≤ value_in w cause → bound u ≤ bound w

-- v is one of a list of bounds in the times t, and rests on one thing that is settled before the moment m
record RestsIn (g : Graph) (order : List ℕ) (m : ℕ) (t : Times) (bounds : Times → List ℕ) (v : ℕ) : Type 0 where
  -- what it rests on, which is settled before the moment
  cause : Cause
  early : IsBefore g order m cause
  -- the bound in any times, which is v in t
  bound : Times → ℕ
  is : bound t ≡ v
  -- in other times too it is one of the bounds, and it grows with its cause
  among : (u : Times) → Contains (bounds u) (bound u)
  grows : (u w : Times) → value_in u cause ≤ value_in w cause → bound u ≤ bound w

module _ (g : Graph) (order : List ℕ) (topological : IsTopological g order) (s : Scenario) (t : Times) where
  module _ (p m : ℕ) (at : place order p * phases g ≤ m) where
    -- when an input is there rests on one thing alone: the send of its message, or the end of its source
    input_rests : (e : ℕ) → Contains (inputs g p) e → (bounds : Times → List ℕ) →
        ((u : Times) → Contains (bounds u) (input_there g u e)) →
        RestsIn g order m t bounds (input_there g t e)
    input_rests e input bounds among =
        let within = (inputs_parts g p e input).0 in
        let up = input_goes_up g order topological p e input in
        elim (cases_Bool (is_message g e)) [
          -- a message rests on its send
          | inl is ↦ record {
            cause = item (message_item g e);
            early = (omega arith, omega (arith, message_sooner g order topological p e within up));
            bound = λ u. input_there g u e;
            is = refl;
            among = among;
            grows = λ u w later. omega (
              arith,
              later,
              cond-true (is_message g e) (frame_there g u (message_item g e)) (end_in u (source g e)) is,
              cond-true (is_message g e) (frame_there g w (message_item g e)) (end_in w (source g e)) is,
            );
          }
          -- an edge within the node rests on the end of its source
          | inr is ↦ record {
            cause = ended (source g e);
            early = (
              source_in_order g order topological e within,
              omega (arith, end_sooner g order topological p (source g e) up),
            );
            bound = λ u. input_there g u e;
            is = refl;
            among = among;
            grows = λ u w later. omega (
              arith,
              later,
              cond-false (is_message g e) (frame_there g u (message_item g e)) (end_in u (source g e)) is,
              cond-false (is_message g e) (frame_there g w (message_item g e)) (end_in w (source g e)) is,
            );
          }
        ]

    -- the end of a process before this one on its node rests on that process alone
    ended_rests : (q : ℕ) → Contains (before_on_node g order p) q → (bounds : Times → List ℕ) →
        ((u : Times) → Contains (bounds u) (end_in u q)) →
        RestsIn g order m t bounds (end_in t q)
    ended_rests q there bounds among =
        let earlier = on_node_before g order p q there in
        record {
          cause = ended q;
          early = (
            from_order (process_count g) order topological.all q earlier.0,
            omega (arith, end_sooner g order topological p q earlier.1),
          );
          bound = λ u. end_in u q;
          is = refl;
          among = among;
          grows = λ u w later. later;
        }

    -- when a node hears a condition rests on one thing alone: the end of its process, or its broadcast
    heard_rests : (c : ℕ) → Contains (flat_map (deciding g s.values) (before_on_node g order p ++ p ∷ [])) c →
        (bounds : Times → List ℕ)
        → ((u : Times) → Contains (bounds u) (heard_there g u (node_of g p) c)) →
        RestsIn g order m t bounds (heard_there g t (node_of g p) c)
    heard_rests c there bounds among =
        let decided = Contains-flat_map_parts (deciding g s.values) (before_on_node g order p ++ p ∷ []) c there in
        let deciding_it = Contains-filter_parts (decides g s.values decided.0)
        (numbers_below (condition_count g)) c decided.2 in
        let within = numbers-Contains (condition_count g) c deciding_it.0 in
        let no_later = not_later g order p decided.0 decided.1 in
        let up : place order (process_of g c) < place order p =
        omega (arith, decides_earlier g order topological s.values decided.0 c within deciding_it.1) in
        elim (cases_Bool (node_of g (process_of g c) == node_of g p)) [
          -- a condition of the node itself rests on the end of its process
          | inl is ↦ record {
            cause = ended (process_of g c);
            early = (process_of_below g c within, omega (arith, end_sooner g order topological p (process_of g c) up));
            bound = λ u. heard_there g u (node_of g p) c;
            is = refl;
            among = among;
            grows = λ u w later. omega (
              arith,
              later,
              cond-true (node_of g (process_of g c) == node_of g p) (end_in u (process_of g c))
                  (frame_there g u (broadcast_item g c)) is,
              cond-true (node_of g (process_of g c) == node_of g p) (end_in w (process_of g c))
                  (frame_there g w (broadcast_item g c)) is,
            );
          }
          -- one of another node rests on its broadcast
          | inr is ↦ record {
            cause = item (broadcast_item g c);
            early = (omega arith, omega (arith, broadcast_sooner g order topological p c up));
            bound = λ u. heard_there g u (node_of g p) c;
            is = refl;
            among = among;
            grows = λ u w later. omega (
              arith,
              later,
              cond-false (node_of g (process_of g c) == node_of g p) (end_in u (process_of g c))
                  (frame_there g u (broadcast_item g c)) is,
              cond-false (node_of g (process_of g c) == node_of g p) (end_in w (process_of g c))
                  (frame_there g w (broadcast_item g c)) is,
            );
          }
        ]

    -- each bound of a start rests on one thing: by whether it is the release, an input, the processor or a hearing
    start_rests : (v : ℕ) → Contains (start_bounds g order s t p) v →
        RestsIn g order m t (λ u. start_bounds g order s u p) v
    start_rests v is_bound = elim (Contains-cases (process_at g p).release
        (input_bounds g s t p ++ processor_bounds g order s t p ++ hearing_bounds g order s t p) v is_bound) [
          -- the release is fixed
          | inl e ↦ record {
            cause = fixed;
            early = search rules;
            bound = λ u. (process_at g p).release;
            is = e;
            among = λ u. Contains-first _ _;
            grows = λ u w l. omega arith;
          }
          | inr rest ↦ elim (Contains-append_cases (input_bounds g s t p ++ processor_bounds g order s t p)
              (hearing_bounds g order s t p) v rest) [
                -- a bound by hearing rests on one end or broadcast
                | inr heard ↦
                    let condition = Contains-map_parts (heard_there g t (node_of g p)) _ v heard in
                    subst (RestsIn g order m t (λ u. start_bounds g order s u p)) condition.2
                    (heard_rests condition.0 condition.1 (λ u. start_bounds g order s u p)
                    (λ u. Contains-rest _ _ _
                    (Contains-append_right (input_bounds g s u p ++ processor_bounds g order s u p)
                    (hearing_bounds g order s u p) _
                    (Contains-map (heard_there g u (node_of g p)) _ condition.0 condition.1))))
                | inl early ↦
                    elim (Contains-append_cases (input_bounds g s t p) (processor_bounds g order s t p) v early) [
                      -- a bound by an input rests on one end or message
                      | inl input ↦
                          let edge = Contains-map_parts (input_there g t)
                          (filter (live g s.values) (inputs g p)) v input in
                          subst (RestsIn g order m t (λ u. start_bounds g order s u p)) edge.2 (input_rests edge.0
                          (Contains-filter_parts (live g s.values) (inputs g p) edge.0 edge.1).0
                          (λ u. start_bounds g order s u p)
                          (λ u. Contains-rest _ _ _
                          (Contains-append_left _ _ _
                          (Contains-append_left _ _ _ (Contains-map (input_there g u) _ edge.0 edge.1)))))
                      -- a bound by the processor rests on the end of a process before on the node
                      | inr process ↦
                          let earlier =
                          Contains-map_parts (end_in t)
                          (filter (active g s.values) (before_on_node g order p)) v process in
                          subst (RestsIn g order m t (λ u. start_bounds g order s u p)) earlier.2
                          (ended_rests earlier.0
                          (Contains-filter_parts (active g s.values) (before_on_node g order p) earlier.0 earlier.1).0
                          (λ u. start_bounds g order s u p)
                          (λ u. Contains-rest _ _ _ (Contains-append_left _ (hearing_bounds g order s u p) _
                          (Contains-append_right (input_bounds g s u p) (processor_bounds g order s u p) _
                          (Contains-map (end_in u) _ earlier.0 earlier.1)))))
                    ]
              ]
        ]

  -- each bound of a send rests on one thing alone: the end of its producer, or an item before it in the queue
  send_rests : (x v : ℕ) → x < item_count g → phase (item_at g x) ≡ rank_of_item (item_at g x) + 2 →
      Contains (send_bounds g order s t x) v
      → RestsIn g order (moment g order x) t (λ u. send_bounds g order s u x) v
  send_rests x v within sends is_bound = elim (Contains-cases
      (next_slot g (home g x) (end_in t (producer g x))) _ v is_bound) [
        -- the next slot after the producer's end
        | inl e ↦ record {
          cause = ended (producer g x);
          early = (producer_in_range g order topological x within, omega arith);
          bound = λ u. next_slot g (home g x) (end_in u (producer g x));
          is = e;
          among = λ u. Contains-first _ _;
          grows = λ u w later. next_slot_later g (home g x) (end_in u (producer g x)) (end_in w (producer g x)) later;
        }
        -- a round after an active item before it in the queue
        | inr rest ↦
            let earlier = Contains-map_parts (λ y. time_in t y + round g)
            (filter (λ y. item_active g s.values (item_at g y)) (queued_before g order x)) v rest in
            let is_active =
            Contains-filter_parts (λ (y : ℕ). item_active g s.values (item_at g y))
            (queued_before g order x) earlier.0 earlier.1 in
            let queued =
            Contains-filter_parts (λ (z : ℕ). is_queued_before g order z x) (numbers_below (item_count g))
            earlier.0 is_active.0 in
            let inside = numbers-Contains (item_count g) earlier.0 queued.0 in
            record {
              cause = item earlier.0;
              early = (inside, queued_sooner g order topological earlier.0 x inside sends queued.1);
              bound = λ u. time_in u earlier.0 + round g;
              is = earlier.2;
              among = λ u. Contains-rest _ _ _ (Contains-map (λ y. time_in u y + round g) _ earlier.0 earlier.1);
              grows = λ u w later. omega (arith, later);
            }
      ]

  -- what is said of the bounds of an item of the kind i is said of the item's bounds, if it is of that kind
  of_item : (x v : ℕ) (i : Item) → item_at g x ≡ i →
      RestsIn g order (moment g order x) t (λ u. bounds_of_item g order s u x i) v →
      Rests g order s t x v
  of_item x v i same r = record {
    cause = r.cause;
    early = r.early;
    bound = r.bound;
    is = r.is;
    among = λ u. subst (λ j. Contains (bounds_of_item g order s u x j) (r.bound u)) (sym same) (r.among u);
    grows = r.grows;
  }

  -- each bound of an item rests on one thing: by whether it is a start, a message or a broadcast
  rests_by : (x v : ℕ) → x < item_count g → ItemCases g x → Contains (bounds_of_item g order s t x (item_at g x)) v →
      Rests g order s t x v
  rests_by x v within (inl c) there = of_item x v (Start x) c.1
      (start_rests x (moment g order x) (omega (arith, moment_of_start g order topological x c.0)) v
      (subst (λ i. Contains (bounds_of_item g order s t x i) v) c.1 there))
  rests_by x v within (inr (inl c)) there = of_item x v (Message c.0) c.3
      (send_rests x v within
      (subst (λ i. phase i ≡ rank_of_item i + 2) (sym c.3)
      (let phase_is : c.0 + 3 ≡ c.0 + 1 + 2 = omega arith in phase_is))
      (subst (λ i. Contains (bounds_of_item g order s t x i) v) c.3 there))
  rests_by x v within (inr (inr c)) there = of_item x v (Broadcast c.0) c.3
      (send_rests x v within (subst (λ i. phase i ≡ rank_of_item i + 2) (sym c.3)
      (let phase_is : 2 ≡ 0 + 2 = omega arith in phase_is))
      (subst (λ i. Contains (bounds_of_item g order s t x i) v) c.3 there))

  -- each bound of an item rests on one thing, which is settled before the item
  pub rests : (x v : ℕ) → x < item_count g → Contains (bounds_of_item g order s t x (item_at g x)) v →
      Rests g order s t x v
  rests x v within there = rests_by x v within (item_cases g x within) there

  -- the time that an item would have if it were not frozen grows with what is settled before it, since each bound does
  pub unfrozen_grows : (u : Times) (x : ℕ) → x < item_count g →
      ((c : Cause) → IsBefore g order (moment g order x) c → value_in t c ≤ value_in u c)
      → unfrozen_time g order s t x ≤ unfrozen_time g order s u x
  unfrozen_grows u x within grow = greatest-le (bounds_of_item g order s t x (item_at g x))
      (unfrozen_time g order s u x)
      (λ v is_bound. let rests_on = rests x v within is_bound in
      omega (
        arith,
        rests_on.is,
        rests_on.grows t u (grow rests_on.cause rests_on.early),
        greatest_above (bounds_of_item g order s u x (item_at g x)) (rests_on.bound u) (rests_on.among u),
      ))
