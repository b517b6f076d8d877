-- If what is carried beside an item in one scenario holds in another, the item is active there too, at the same time, and the same
-- is carried beside it. Starts are in SameStarts; here are sends, and then all items.
use Rattle.std.proofs.Common.{ℕ, zero, suc, ◌+◌, ◌<◌, ◌≤◌, ◌≡◌, ◌&&◌, Bool, true, false, not, if◌then◌else◌, List, []}
use Rattle.std.proofs.Common.{◌∷◌, ◌++◌, map, filter, flat_map, get_or, Contains, Option, Some, None, is_some}
use Rattle.std.proofs.Common.{option_to_list, unwrap_or, arith, refl, sym, ap, ap₂, ◌∙◌, subst, inl, inr}
use Rattle.std.proofs.lemmas.Bool.{cases_Bool, cond-true, cond-false, and_parts, and_from, not_from_false, not-true}
use Rattle.cpg_base.specs.Numbers.{greatest}
use Rattle.cpg_base.specs.Graph.{Graph, process_count, edge_count, condition_count, item_count, item_at, edge_at}
use Rattle.cpg_base.specs.Graph.{source, is_sent, is_sent_item, is_frozen, home, producer, producer_of_item}
use Rattle.cpg_base.specs.Graph.{process_of, condition_of, value_variable}
use Rattle.cpg_base.specs.declared.item.Item.{Item}
use Rattle.cpg_base.specs.declared.item.Item.TheVariants.{Start, Message, Broadcast}
use Rattle.cpg_base.specs.Activity.{active, live, takes, value_of, item_active}
use Rattle.cpg_base.specs.Bus.{round, next_slot}
use Rattle.cpg_base.proofs.Lists.{Contains-first, Contains-filter_parts, from_all, same_map, same_filter, same_flat_map}
use Rattle.cpg_base.proofs.Items.{item_cases}
use Rattle.cpg_base.specs.Order.{place}
use Rattle.cpg_order.specs.Queue.{queued_before}
use Rattle.cpg_order.specs.Reach.{source_value, sent_value}
use Rattle.cpg_base.specs.Scenario.{Scenario}
use Rattle.cpg_base.proofs.ConditionProcesses.{condition_of_process_of}
use Rattle.cpg_order.proofs.Moments.{moment, producer_in_range}
use Rattle.cpg_order.proofs.Queues.{queued_parts}
use Rattle.cpg_order.proofs.SameActivation.{takes_same}
use Rattle.cpg_base.proofs.NumbersOf.{one_value, number_of-value}
use Rattle.cpg_cube.specs.Cube.{holds, matches}
use Rattle.cpg_cube.specs.declared.column.Column.{Column}
use Rattle.cpg_table.specs.Heard.{exactly}
use Rattle.cpg_run.specs.Run.{Times, IsRun, time_in, send_bounds}
use Rattle.cpg_run.proofs.RunExists.{a_run}
use Rattle.cpg_run.proofs.Runs.{unfrozen_sent}
use Rattle.cpg_run.specs.Carried.{number_known, decided, carried_at_start, carried_at_end, sent_by_value, queued}
use Rattle.cpg_run.specs.Carried.{carried_at_send, carried_by_item, carried}
use Rattle.cpg_run.specs.RowLaws.{CarriedDecides}
use Rattle.cpg_run.proofs.CubesOf.{holds_left, holds_right, holds_each, holds_both, holds_all, same_numbers}
use Rattle.cpg_run.proofs.Queued.{producer_no_later, queue_chain}
use Rattle.cpg_run.proofs.SameStarts.{HaveRuns, SameStart, start_alike, end_is_same, end_told_same, active_is_same}
use Rattle.cpg_run.proofs.SameStarts.{decided_is_same, frozen_time_same, free_time_same}

-- an active item's producer is active
pub producer_active : (g : Graph) (values : List Bool) (i : Item) → item_active g values i ≡ true →
    active g values (producer_of_item g i) ≡ true
producer_active g values (Start p) i_acts = i_acts
producer_active g values (Message e) i_acts =
    (and_parts _ _ (and_parts (is_sent_item g (Message e)) (live g values e) i_acts).1).0
producer_active g values (Broadcast c) i_acts = (and_parts (is_sent_item g (Broadcast c)) _ i_acts).1

-- a conditional edge has the variable of its source's condition as its `source_value`
pub value_in_source : (g : Graph) (e c : ℕ) (wanted : Bool) → c < condition_count g → process_of g c ≡ source g e →
    (edge_at g e).when ≡ Some wanted →
    Contains (source_value g e) (value_variable c)
value_in_source g e c wanted below at is =
    subst (λ o. Contains (if is_some o then map value_variable (option_to_list (condition_of g (source g e))) else [])
    (value_variable c)) (sym is)
    (subst (λ o. Contains (map value_variable (option_to_list o)) (value_variable c))
    (sym (subst (λ q. condition_of g q ≡ Some c) at (condition_of_process_of g c below)))
    (Contains-first (value_variable c) []))

-- given: two scenarios with their runs, and rows with the times of the runs before a place
-- `z` has the facts on both: s and u are scenarios, t and w are their runs under the frozen times, and the rows up to
-- the place `bound` have the times of the runs.
module _ (g : Graph) (urgency order : List ℕ) (frozen : List (Option ℕ)) (rows : List (List Column)) (bound : ℕ)
    (s u : Scenario) (t w : Times)
    (z : HaveRuns g urgency order frozen rows bound s u t w) where
  -- ---- whether an item is sent

  -- the value of its source lets an edge through in both scenarios or in neither, if the value in s holds in u; an edge without a
  -- condition is always let through
  takes_is_same : (e : ℕ) → e < edge_count g → matches (map (number_known s) (source_value g e)) u ≡ true →
      (o : Option Bool) →
      (edge_at g e).when ≡ o →
      takes o (value_of g s.values (source g e)) ≡ takes o (value_of g u.values (source g e))
  takes_is_same e below matched None is = refl
  takes_is_same e below matched (Some wanted) is =
      takes_same g order z.timed.admitted.topological s.values u.values e below
      (λ c n at. one_value _ _ (sym (number_of-value s c)
      ∙ sym (same_numbers u s (source_value g e) matched (value_variable c) (value_in_source g e c wanted n at is))
      ∙ number_of-value u c))
      (Some wanted) is

  -- an item is active in both scenarios or in neither, if its producer is and, when that is active, the value by which the item is
  -- sent in s holds in u: by its kind
  item_is_same : (x : ℕ) → x < item_count g → active g s.values (producer g x) ≡ active g u.values (producer g x) →
      (active g s.values (producer g x) ≡ true → matches (sent_by_value g s x) u ≡ true) →
      item_active g s.values (item_at g x) ≡ item_active g u.values (item_at g x)
  item_is_same x below same h = elim (item_cases g x below) [
    | inl of_start ↦ at of_start.1 (ap (λ i. active g s.values (producer_of_item g i)) (sym of_start.1) ∙ same
        ∙ ap (λ i. active g u.values (producer_of_item g i)) of_start.1)
    | inr (inl of_message) ↦ at of_message.3 (ap (λ b. is_sent_item g (Message of_message.0) && b)
        (edge of_message.0 of_message.1
        (ap (λ i. active g s.values (producer_of_item g i)) (sym of_message.3) ∙ same
        ∙ ap (λ i. active g u.values (producer_of_item g i)) of_message.3)
        (λ on. subst (λ i. matches (map (number_known s) (sent_value g i)) u ≡ true) of_message.3
        (h (ap (λ i. active g s.values (producer_of_item g i)) of_message.3 ∙ on)))))
    | inr (inr of_broadcast) ↦ at of_broadcast.3 (ap (λ b. is_sent_item g (Broadcast of_broadcast.0) && b)
        (ap (λ i. active g s.values (producer_of_item g i)) (sym of_broadcast.3) ∙ same
        ∙ ap (λ i. active g u.values (producer_of_item g i)) of_broadcast.3))
  ]
    where
      -- it suffices to look at the kind i of the item
      at : {i : Item} → item_at g x ≡ i → item_active g s.values i ≡ item_active g u.values i →
          item_active g s.values (item_at g x) ≡ item_active g u.values (item_at g x)
      at {i} is same = ap (item_active g s.values) is ∙ same ∙ sym (ap (item_active g u.values) is)

      -- an edge is live in both scenarios or in neither: its source is active in both or in neither, and so is its value let
      -- through
      edge : (e : ℕ) → e < edge_count g → active g s.values (source g e) ≡ active g u.values (source g e) →
          (active g s.values (source g e) ≡ true → matches (map (number_known s) (source_value g e)) u ≡ true) →
          live g s.values e ≡ live g u.values e
      edge e below same if_active = elim (cases_Bool (active g s.values (source g e))) [
        | inl on ↦ ap₂ ◌&&◌ same (takes_is_same e below (if_active on) (edge_at g e).when refl)
        | inr off ↦ ap (λ b. b && takes (edge_at g e).when (value_of g s.values (source g e))) off
            ∙ sym (ap (λ b. b && takes (edge_at g e).when (value_of g u.values (source g e))) (sym same ∙ off))
      ]

  -- if the value in s by which an item is sent holds in u, it is the same there
  value_told_same : (x : ℕ) → matches (sent_by_value g s x) u ≡ true → sent_by_value g u x ≡ sent_by_value g s x
  value_told_same x matched = same_map (number_known u) (number_known s) (sent_value g (item_at g x))
      (λ v j. ap (exactly v) (same_numbers u s (sent_value g (item_at g x)) matched v j))

  -- ---- what an item leaves to those behind it

  -- each part of what the item y leaves in the queue in s holds in u
  record Leaves (y : ℕ) : Type 0 where
    -- what decides its producer
    decided : matches (decided g s (producer g y)) u ≡ true
    -- the value by which it is sent, if the producer is active
    value : active g s.values (producer g y) ≡ true → matches (sent_by_value g s y) u ≡ true
    -- what is carried at the end of the producer, if the item is sent and not frozen
    sent : item_active g s.values (item_at g y) ≡ true → is_frozen g y ≡ false →
        matches (carried_at_end g order rows s (producer g y)) u ≡ true

  -- if what the item y leaves in the queue holds in u, each of its three parts does: what decides its producer, the value by which
  -- it is sent, and what is carried at its producer's end
  leaves_parts : (y : ℕ) → matches (queued g order rows s y) u ≡ true → Leaves y
  leaves_parts y matched =
      let front = holds_left u
      (decided g s (producer g y) ++ (if active g s.values (producer g y) then sent_by_value g s y else []))
      (if item_active g s.values (item_at g y) && not (is_frozen g y)
      then carried_at_end g order rows s (producer g y) else []) matched in
      record {
        decided = holds_left u (decided g s (producer g y))
            (if active g s.values (producer g y) then sent_by_value g s y else []) front;
        value = λ on. subst (λ ls. matches ls u ≡ true) (cond-true _ _ _ on) (holds_right u (decided g s (producer g y))
            (if active g s.values (producer g y) then sent_by_value g s y else []) front);
        sent = λ on free. subst (λ ls. matches ls u ≡ true) (cond-true _ _ _ (and_from _ _ on (not_from_false _ free)))
            (holds_right u
            (decided g s (producer g y) ++ (if active g s.values (producer g y) then sent_by_value g s y else []))
            (if item_active g s.values (item_at g y) && not (is_frozen g y)
            then carried_at_end g order rows s (producer g y) else []) matched);
      }

  -- if what an item leaves holds in u, the item is active in both scenarios or in neither
  leaves_active : (y : ℕ) → y < item_count g → Leaves y →
      item_active g s.values (item_at g y) ≡ item_active g u.values (item_at g y)
  leaves_active y below y_leaves =
      item_is_same y below (active_is_same g urgency order frozen rows bound s u t w z (producer g y) y_leaves.decided)
      y_leaves.value

  -- ---- what is carried beside an end

  -- if what is carried beside the end of p holds in u, so does the count of its faults
  end_count : (p : ℕ) → matches (carried_at_end g order rows s p) u ≡ true → holds u (number_known s p) ≡ true
  end_count p matched = from_all (holds u) (number_known s p ∷ []) (number_known s p) (holds_right u
      (carried_at_start g order rows s p) (number_known s p ∷ []) matched) (Contains-first (number_known s p) [])

  -- if what is carried beside an end holds in u, the start is the same in both
  end_start : (p : ℕ) → p < process_count g → place order p ≤ bound → active g s.values p ≡ true →
      matches (carried_at_end g order rows s p) u ≡ true →
      SameStart g urgency order frozen rows bound s u t w z p
  end_start p below at on matched = start_alike g urgency order frozen rows bound s u t w z p below at on
      (holds_left u (carried_at_start g order rows s p) (number_known s p ∷ []) matched)

  -- if what is carried beside an end holds in u, the same is carried there
  end_told : (p : ℕ) → p < process_count g → place order p ≤ bound → active g s.values p ≡ true →
      matches (carried_at_end g order rows s p) u ≡ true →
      carried_at_end g order rows u p ≡ carried_at_end g order rows s p
  end_told p below at on matched =
      end_told_same g urgency order frozen rows bound s u t w z p (end_start p below at on matched)
      (end_count p matched)

  -- what an item leaves to those behind it is the same in both, if its parts hold in u: part by part
  leaves_same : (y : ℕ) → y < item_count g → place order (producer g y) ≤ bound → Leaves y →
      queued g order rows u y ≡ queued g order rows s y
  leaves_same y below at parts =
      let producers = active_is_same g urgency order frozen rows bound s u t w z (producer g y) parts.decided in
      let acts = leaves_active y below parts in
      ap₂ ◌++◌
      (ap₂ ◌++◌ (decided_is_same g urgency order frozen rows bound s u t w z (producer g y) parts.decided)
      (elim (cases_Bool (active g s.values (producer g y))) [
        | inl on ↦ cond-true _ _ _ (sym producers ∙ on) ∙ value_told_same y (parts.value on) ∙ sym (cond-true _ _ _ on)
        | inr off ↦ cond-false _ _ _ (sym producers ∙ off) ∙ sym (cond-false _ _ _ off)
      ]))
      (elim (cases_Bool (item_active g s.values (item_at g y) && not (is_frozen g y))) [
        | inl on ↦ let tests = and_parts _ _ on in
            cond-true _ _ _ (ap (λ b. b && not (is_frozen g y)) (sym acts) ∙ on)
            ∙ end_told (producer g y) (producer_in_range g order z.timed.admitted.topological y below) at
            (producer_active g s.values (item_at g y) tests.0) (parts.sent tests.0 (not-true _ tests.1))
            ∙ sym (cond-true _ _ _ on)
        | inr off ↦ cond-false _ _ _ (ap (λ b. b && not (is_frozen g y)) (sym acts) ∙ off) ∙ sym (cond-false _ _ _ off)
      ])

  -- ---- a send

  -- the item is sent in u too, at the same time
  pub record SameSend (x : ℕ) : Type 0 where
    pub acts : item_active g u.values (item_at g x) ≡ true
    pub time : get_or t.times x None ≡ get_or w.times x None
    -- the same is carried beside it
    pub told : carried_at_send g order rows u x ≡ carried_at_send g order rows s x

  -- each sent item with a moment before n is the same if it is active in s and what is carried beside it there holds in u
  SameBefore : ℕ → Type 0
  SameBefore n = (y : ℕ) → moment g order y < n → y < item_count g → is_sent g y ≡ true →
      place order (producer g y) ≤ bound → item_active g s.values (item_at g y) ≡ true →
      matches (carried_at_send g order rows s y) u ≡ true → SameSend y

  -- if what is carried beside a send holds in u, so does its first part: what it carries but the value by which it is sent
  front_of : (x : ℕ) → matches (carried_at_send g order rows s x) u ≡ true →
      matches (if is_frozen g x then decided g s (producer g x) else flat_map (queued g order rows s)
      (queued_before g order x) ++ carried_at_end g order rows s (producer g x)) u ≡ true
  front_of x matched = holds_left u (if is_frozen g x then decided g s (producer g x)
      else flat_map (queued g order rows s) (queued_before g order x) ++ carried_at_end g order rows s (producer g x))
      (sent_by_value g s x) matched

  -- the value by which a send is decided holds in u, if what is carried beside the send does
  value_of_send : (x : ℕ) → matches (carried_at_send g order rows s x) u ≡ true → matches (sent_by_value g s x) u ≡ true
  value_of_send x matched = holds_right u (if is_frozen g x then decided g s (producer g x)
      else flat_map (queued g order rows s) (queued_before g order x) ++ carried_at_end g order rows s (producer g x))
      (sent_by_value g s x) matched

  -- if what is carried beside a send that is not frozen holds in u, so does what the queue left,
  -- and what is carried beside the producer's end
  free_front : (x : ℕ) → is_frozen g x ≡ false → matches (carried_at_send g order rows s x) u ≡ true →
      matches (flat_map (queued g order rows s) (queued_before g order x)
      ++ carried_at_end g order rows s (producer g x)) u ≡ true
  free_front x free matched = subst (λ ls. matches ls u ≡ true) (cond-false _ _ _ free) (front_of x matched)

  -- so what each item before it in the queue leaves holds in u
  queued_holds : (x : ℕ) → is_frozen g x ≡ false → matches (carried_at_send g order rows s x) u ≡ true → (y : ℕ) →
      Contains (queued_before g order x) y →
      matches (queued g order rows s y) u ≡ true
  queued_holds x free matched y among = holds_each u (queued g order rows s) (queued_before g order x) y
      (holds_left u (flat_map (queued g order rows s) (queued_before g order x))
      (carried_at_end g order rows s (producer g x)) (free_front x free matched)) among

  -- what is carried beside the end of the producer of an unfrozen send holds in u, if what is carried beside the send does
  end_holds : (x : ℕ) → is_frozen g x ≡ false → matches (carried_at_send g order rows s x) u ≡ true →
      matches (carried_at_end g order rows s (producer g x)) u ≡ true
  end_holds x free matched = holds_right u (flat_map (queued g order rows s) (queued_before g order x))
      (carried_at_end g order rows s (producer g x)) (free_front x free matched)

  -- if what is carried beside a frozen send holds in u, the send is the same in both
  frozen_send : (x : ℕ) → x < item_count g → is_frozen g x ≡ true → item_active g s.values (item_at g x) ≡ true →
      matches (carried_at_send g order rows s x) u ≡ true → SameSend x
  frozen_send x below frozen_one on all_hold =
      let decided_holds = subst (λ ls. matches ls u ≡ true) (cond-true _ _ _ frozen_one) (front_of x all_hold) in
      let also = sym (item_is_same x below
      (active_is_same g urgency order frozen rows bound s u t w z (producer g x) decided_holds)
      (λ acts_s. value_of_send x all_hold)) ∙ on in
      record {
        acts = also;
        time = frozen_time_same g urgency order frozen rows bound s u t w z x below frozen_one on also;
        told =
            ap₂ ◌++◌ (cond-true _ _ _ frozen_one ∙ decided_is_same g urgency order frozen rows bound s u t w z
            (producer g x) decided_holds
            ∙ sym (cond-true _ _ _ frozen_one)) (value_told_same x (value_of_send x all_hold));
      }

  -- given: a send that is not frozen, such that what is carried beside it holds in u
  -- `sent`: x is an item that is sent. `at`: its producer is at the place `bound` or before it. `free`: it isn't frozen.
  -- `on`: it is active in s. `carried_hold`: what is carried beside it in s holds in u. `sooner`: the theorem holds for
  -- earlier moments.
  module _ (x : ℕ) (within : x < item_count g) (sent : is_sent g x ≡ true) (at : place order (producer g x) ≤ bound)
      (free : is_frozen g x ≡ false) (on : item_active g s.values (item_at g x) ≡ true)
      (carried_hold : matches (carried_at_send g order rows s x) u ≡ true)
      (sooner : SameBefore (moment g order x)) where
    -- each part of what an item before x in the queue leaves holds in u
    leaves : (y : ℕ) → Contains (queued_before g order x) y → Leaves y
    leaves y among = leaves_parts y (queued_holds x free carried_hold y among)

    -- What is carried beside an active item y before x in the queue holds in u too. A frozen y carries what decides its producer
    -- and its value; any other also what the items before it leave, which are before x as well.
    carried_before : (y : ℕ) → Contains (queued_before g order x) y → item_active g s.values (item_at g y) ≡ true →
        matches (carried_at_send g order rows s y) u ≡ true
    carried_before y among acts =
        let mine = leaves y among in
        let value = mine.value (producer_active g s.values (item_at g y) acts) in
        holds_both u (if is_frozen g y then decided g s (producer g y) else flat_map (queued g order rows s)
        (queued_before g order y) ++ carried_at_end g order rows s (producer g y))
        (sent_by_value g s y)
        (elim (cases_Bool (is_frozen g y)) [
          | inl is_true ↦ subst (λ ls. matches ls u ≡ true) (sym (cond-true _ _ _ is_true)) mine.decided
          | inr is_false ↦ subst (λ ls. matches ls u ≡ true) (sym (cond-false _ _ _ is_false))
              (holds_both u (flat_map (queued g order rows s) (queued_before g order y))
              (carried_at_end g order rows s (producer g y))
              (holds_all u (queued g order rows s) (queued_before g order y)
              (λ v i. queued_holds x free carried_hold v (queue_chain g order x y v among i)))
              (mine.sent acts is_false))
        ]) value

    -- an active item before x in the queue has the same time in both
    queued_same : (y : ℕ) → Contains (queued_before g order x) y → item_active g s.values (item_at g y) ≡ true →
        get_or t.times y None ≡ get_or w.times y None
    unfolding SameBefore
    queued_same y in_queue acts =
        let queued_y = queued_parts g order z.timed.admitted.topological x y within sent in_queue in
        (sooner y queued_y.less queued_y.within queued_y.sent
        (omega (arith, producer_no_later g order x y in_queue, at)) acts
        (carried_before y in_queue acts)).time

    -- the producer of the item is a process of the graph
    producer_within : producer g x < process_count g
    producer_within = producer_in_range g order z.timed.admitted.topological x within

    -- the producer of the item is active
    producer_on : active g s.values (producer g x) ≡ true
    producer_on = producer_active g s.values (item_at g x) on

    -- the producer has the same start in u
    start : SameStart g urgency order frozen rows bound s u t w z (producer g x)
    start = end_start (producer g x) producer_within at producer_on (end_holds x free carried_hold)

    -- the bounds of x are the same in both: the producer ends at the same time, and the same items before x in the queue are
    -- active, at the same times
    bounds_same : send_bounds g order s t x ≡ send_bounds g order u w x
    bounds_same = ap₂ ◌∷◌
        (ap (next_slot g (home g x)) (end_is_same g urgency order frozen rows bound s u t w z
        (producer g x) producer_within producer_on start (end_count (producer g x) (end_holds x free carried_hold))))
        (same_map (λ y. time_in t y + round g) (λ y. time_in w y + round g)
        (filter (λ y. item_active g s.values (item_at g y)) (queued_before g order x))
        (λ y in_queue.
        let active_before = Contains-filter_parts (λ y. item_active g s.values (item_at g y))
        (queued_before g order x) y in_queue in
        ap (λ o. unwrap_or o 0 + round g) (queued_same y active_before.0 active_before.1))
        ∙ ap (map (λ y. time_in w y + round g)) (same_filter (λ y. item_active g s.values (item_at g y))
        (λ y. item_active g u.values (item_at g y)) (queued_before g order x)
        (λ y in_queue.
        leaves_active y (queued_parts g order z.timed.admitted.topological x y within sent in_queue).within
        (leaves y in_queue))))

    -- if x isn't frozen, it is the same in both: it is active in u too, its bounds are the same, and so is each part of what is
    -- carried
    free_send : SameSend x
    free_send =
        let also = sym (item_is_same x within (producer_on ∙ sym start.acts) (λ a. value_of_send x carried_hold))
        ∙ on in
        record {
          acts = also;
          time = free_time_same g urgency order frozen rows bound s u t w z x within on also
              (unfrozen_sent g order frozen s t z.run_t x sent ∙ ap greatest bounds_same
              ∙ sym (unfrozen_sent g order frozen u w z.run_w x sent));
          told = ap₂ ◌++◌
              (cond-false _ _ _ free
              ∙ ap₂ ◌++◌
              (same_flat_map (queued g order rows u) (queued g order rows s) (queued_before g order x)
              (λ y j. leaves_same y (queued_parts g order z.timed.admitted.topological x y within sent j).within
              (omega (arith, producer_no_later g order x y j, at)) (leaves y j)))
              (end_told (producer g x) producer_within at producer_on (end_holds x free carried_hold))
              ∙ sym (cond-false _ _ _ free))
              (value_told_same x (value_of_send x carried_hold));
        }

  -- `SameBefore n` for each n, by induction: a send that isn't frozen rests on those of earlier moments
  sends_below : (n : ℕ) → SameBefore n
  unfolding SameBefore
  sends_below zero y b l e at on h = absurd (omega (arith, b))
  sends_below (suc n) y b l e at on h = elim (cases_Bool (is_frozen g y)) [
    | inl is_true ↦ frozen_send y l is_true on h
    | inr free ↦ free_send y l e at free on h (λ v c. sends_below n v (omega (arith, b, c)))
  ]

  -- if what is carried beside a send holds in u, the send is the same in both
  send_alike : (x : ℕ) → x < item_count g → is_sent g x ≡ true → place order (producer g x) ≤ bound →
      item_active g s.values (item_at g x) ≡ true →
      matches (carried_at_send g order rows s x) u ≡ true → SameSend x
  unfolding SameBefore
  send_alike x below on_bus at on matched = sends_below (suc (moment g order x)) x (omega arith)
      below on_bus at on matched

  -- ---- each item

  -- the item is active in u too, at the same time
  pub record SameItem (x : ℕ) : Type 0 where
    pub acts : item_active g u.values (item_at g x) ≡ true
    pub time : get_or t.times x None ≡ get_or w.times x None
    -- the same is carried beside it
    pub told : carried g order rows u x ≡ carried g order rows s x

  -- for a message or a broadcast, `SameSend` is `SameItem`: what is carried beside the item is what is carried beside a send
  from_send : (x : ℕ) (i : Item) → item_at g x ≡ i →
      carried_by_item g order rows u x i ≡ carried_at_send g order rows u x →
      carried_by_item g order rows s x i ≡ carried_at_send g order rows s x →
      SameSend x → SameItem x
  from_send x i item u_is s_is same = record {
    acts = same.acts;
    time = same.time;
    told = ap (carried_by_item g order rows u x) item ∙ u_is ∙ same.told
        ∙ sym (ap (carried_by_item g order rows s x) item ∙ s_is);
  }

  -- if what is carried beside an item in s holds in u, the item is the same in both: by whether it is a
  -- start, a message or a broadcast
  pub item_alike : (x : ℕ) → x < item_count g → place order (producer g x) ≤ bound →
      item_active g s.values (item_at g x) ≡ true → matches (carried g order rows s x) u ≡ true → SameItem x
  item_alike x below at on matched = elim (item_cases g x below) [
    | inl of_start ↦
        let same = start_alike g urgency order frozen rows bound s u t w z x of_start.0
        (omega (arith, at, ap (λ i. place order (producer_of_item g i)) of_start.1))
        (sym (ap (item_active g s.values) of_start.1) ∙ on)
        (subst (λ i. matches (carried_by_item g order rows s x i) u ≡ true) of_start.1 matched) in
        record {
          acts = ap (item_active g u.values) of_start.1 ∙ same.acts;
          time = same.time;
          told =
              ap (carried_by_item g order rows u x) of_start.1 ∙ same.told ∙ sym
              (ap (carried_by_item g order rows s x) of_start.1);
        }
    | inr (inl of_message) ↦ from_send x (Message of_message.0) of_message.3 refl refl
        (send_alike x below (ap (is_sent_item g) of_message.3 ∙ (and_parts (is_sent_item g (Message of_message.0))
        (live g s.values of_message.0)
        (sym (ap (item_active g s.values) of_message.3) ∙ on)).0) at on
        (subst (λ i. matches (carried_by_item g order rows s x i) u ≡ true) of_message.3 matched))
    | inr (inr of_broadcast) ↦ from_send x (Broadcast of_broadcast.0) of_broadcast.3 refl refl
        (send_alike x below (ap (is_sent_item g) of_broadcast.3 ∙ (and_parts (is_sent_item g (Broadcast of_broadcast.0))
        (active g s.values (process_of g of_broadcast.0)) (sym (ap (item_active g s.values) of_broadcast.3) ∙ on)).0)
        at on
        (subst (λ i. matches (carried_by_item g order rows s x i) u ≡ true) of_broadcast.3 matched))
  ]

-- what is carried beside a time decides it: in each scenario in which it holds the item is active, has the same time, and carries
-- the same; `item_alike` says so of the runs of both scenarios
pub carried_decides : CarriedDecides
carried_decides g urgency order frozen rows s u x timed x_below earlier ls lu on carried_hold =
    let both_runs : (t w : Times) → IsRun g order frozen s t → IsRun g order frozen u w →
    HaveRuns g urgency order frozen rows (place order (producer g x)) s u t w =
    λ t w run other.
    record { timed = timed; times = earlier.times; lawful_s = ls; lawful_u = lu; run_t = run; run_w = other } in
    let run_s = a_run g order frozen s timed.admitted.topological in
    let run_u = a_run g order frozen u timed.admitted.topological in
    let same = item_alike g urgency order frozen rows (place order (producer g x)) s u run_s.0 run_u.0
    (both_runs run_s.0 run_u.0 run_s.1 run_u.1) x x_below
    (omega arith) on carried_hold in
    record {
      active = same.acts;
      time = λ t w run other. (item_alike g urgency order frozen rows (place order (producer g x)) s u t w
          (both_runs t w run other) x x_below (omega arith) on carried_hold).time;
      carried = same.told;
    }
