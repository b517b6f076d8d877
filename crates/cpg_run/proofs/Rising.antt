-- From one moment to the next the times of a run rise by at most an execution or two rounds, above a base that the frozen times
-- keep to. So they are bounded by the number of moments.
use Rattle.std.proofs.Common.{◌≡◌, ◌∙◌, ℕ, zero, suc, ◌+◌, ◌-◌, ◌*◌, ◌<◌, ◌≤◌, ◌==◌, List, [], ◌∷◌, ◌++◌, length}
use Rattle.std.proofs.Common.{get_or, flat_map, Contains, Option, Some, None, option_to_list, option_map, unwrap_or}
use Rattle.std.proofs.Common.{arith, refl, sym, ap, inl, inr, subst}
use Rattle.std.proofs.lemmas.Bool.{cases_Bool, cases_lt, cond-true, cond-false}
use Rattle.std.proofs.lemmas.Grind.{div_ceil_times}
use Rattle.std.proofs.lemmas.List.Sums.{get_or-le-sum_by, sum_by-take-le}
use Rattle.std.proofs.Math.Nat.{mul-le-mul}
use Rattle.std.specs.Int.{div_ceil}
use Rattle.cpg_base.specs.Numbers.{numbers_below, greatest}
use Rattle.cpg_base.specs.declared.process.Slot.{Slot}
use Rattle.cpg_base.specs.Graph.{Graph, process_count, condition_count, item_count, message_item, broadcast_item}
use Rattle.cpg_base.specs.Graph.{item_at, producer, process_of, process_at, node_of, home, source, inputs, is_message}
use Rattle.cpg_base.specs.Activity.{item_active}
use Rattle.cpg_base.specs.Bus.{round, offset, slot_place, slot_length, next_slot}
use Rattle.cpg_base.specs.Duration.{duration}
use Rattle.cpg_base.specs.Limits.{IsWithinLimits}
use Rattle.cpg_base.specs.Scenario.{IsScenario, Scenario, fault_of}
use Rattle.cpg_base.proofs.Bounds.{round-le, duration-le, slot_length-le}
use Rattle.cpg_base.proofs.Inputs.{inputs_parts}
use Rattle.cpg_base.proofs.Items.{item_cases, ItemCases, process_of_below}
use Rattle.cpg_base.proofs.Lists.{greatest-cons, Contains-filter_parts, Contains-flat_map_parts, numbers-Contains}
use Rattle.cpg_order.specs.Urgency.{IsTopological}
use Rattle.cpg_base.specs.Order.{place, before, before_on_node}
use Rattle.cpg_order.specs.Deciding.{decides, deciding}
use Rattle.cpg_order.specs.Queue.{is_queued_before, rank_of_item}
use Rattle.cpg_order.proofs.Acyclic.{input_goes_up, source_in_order}
use Rattle.cpg_order.proofs.DecidingLaws.{decides_earlier}
use Rattle.cpg_order.proofs.Moments.{phase, phases, moment, moment_of_end, moment_of_start, last, message_sooner}
use Rattle.cpg_order.proofs.Moments.{broadcast_sooner, end_sooner, queued_sooner, producer_in_range}
use Rattle.cpg_base.proofs.Places.{from_order, not_later, on_node_before}
use Rattle.cpg_run.specs.Run.{Times, IsRun, time_in, end_in, frame_there, input_there, heard_there, bounds_of_item}
use Rattle.cpg_run.specs.Run.{unfrozen_time, start_bounds, send_bounds, end_by}
use Rattle.cpg_run.proofs.Runs.{time_is, time_in_active, end_is}
use Rattle.cpg_run.proofs.Bounded.{start_bounds_le, send_bounds_le}

-- over plain numbers: rounding `away` up to whole turns adds at most a turn
times_le : (away turn : ℕ) → div_ceil away turn * turn ≤ away + turn
times_le away turn = elim (cases_lt 0 turn) [
  | inl turn_or_none ↦ let r = (div_ceil_times away turn turn_or_none).1 in omega arith
  | inr turn_or_none ↦ let no_turn : turn ≡ 0 = omega arith in
      subst (λ n. div_ceil away n * n ≤ away + n) (sym no_turn)
      (let nothing : div_ceil away 0 * 0 ≡ 0 = omega arith in omega arith)
]

-- the next slot begins at most two rounds after the time
pub next_slot-le : (g : Graph) (node time : ℕ) → next_slot g node time ≤ time + 2 * round g
next_slot-le g node time =
    let inside : offset g node ≤ round g = sum_by-take-le (λ (s : Slot). s.length) g.slots (slot_place g node) in
    omega (arith, times_le (time - offset g node) (round g))

-- if b bounds an optional time, it bounds the greatest of its list, which is 0 if there is no time
frozen_le : (o : Option ℕ) (b : ℕ) → ((time : ℕ) → o ≡ Some time → time ≤ b) → greatest (option_to_list o) ≤ b
frozen_le None b bounded = omega arith
frozen_le (Some time) b bounded = let time_bounded = bounded time refl in omega (arith, greatest-cons time [])

-- What is settled before a moment is no later than this. From one moment to the next the bound grows by more than an
-- execution takes (600000000000) or two rounds take (32000000000).
abbrev pub bound : ℕ → ℕ → ℕ
bound base m = base + m * 700000000000

-- a frozen time is no later than its item could be
pub record AreLow (base : ℕ) (g : Graph) (order : List ℕ) (frozen : List (Option ℕ)) : Type 0 where
  -- no frozen time is later than two rounds after the bound of its item's moment
  pub low : (x time : ℕ) → x < item_count g → get_or frozen x None ≡ Some time →
      time ≤ bound base (moment g order x) + 32000000000

-- `base`: the number of time units that the bounds of all moments start from
module _ (base : ℕ) (g : Graph) (order : List ℕ) (frozen : List (Option ℕ)) (s : Scenario) (t : Times) where
  -- the times and ends before a moment are at most the bound of the moment
  pub record SmallBefore (m : ℕ) : Type 0 where
    -- no item with a moment before m has a time after the bound
    pub items : (x : ℕ) → x < item_count g → moment g order x < m → time_in t x ≤ bound base m
    -- no process with an end before m ends after the bound
    pub ends : (p : ℕ) → p < process_count g → moment_of_end g order p < m → end_in t p ≤ bound base m

  -- given: a run under frozen times that are low
  module _ (within : IsWithinLimits g) (topological : IsTopological g order) (lawful : IsScenario g s)
      (low : AreLow base g order frozen) (run : IsRun g order frozen s t) where
    -- a frame of an earlier moment arrives no later than a round (at most 16000000000) after the bound
    frame_le : (m x : ℕ) → SmallBefore m → x < item_count g → moment g order x < m →
        frame_there g t x ≤ bound base m + 16000000000
    frame_le m x small below less = omega (
      arith,
      small.items x below less,
      slot_length-le g
          (home g x),
      round-le g within,
    )

    -- given: a moment m before which all times are small (`small`), and a process p whose start is at m or sooner
    -- (`at`)
    module _ (m p : ℕ) (small : SmallBefore m) (at : place order p * phases g ≤ m) where
      -- an input of p is there by a round after the bound: a message is sent at an earlier moment, and any other input's source
      -- ends at one
      input_le : (e : ℕ) → Contains (inputs g p) e → input_there g t e ≤ bound base m + 16000000000
      input_le e among =
          let below = (inputs_parts g p e among).0 in
          let up = input_goes_up g order topological p e among in
          elim (cases_Bool (is_message g e)) [
            | inl is ↦ subst (λ n. n ≤ bound base m + 16000000000) (sym (cond-true _ _ _ is))
                (frame_le m (message_item g e) small (omega arith)
                (omega (arith, message_sooner g order topological p e below up)))
            | inr is ↦ subst (λ n. n ≤ bound base m + 16000000000) (sym (cond-false _ _ _ is))
                (omega (
                  arith,
                  small.ends (source g e) (source_in_order g order topological e below)
                      (omega (arith, end_sooner g order topological p (source g e) up)),
                ))
          ]

      -- a process before p on its node has ended by then, as it ends at an earlier moment
      ended_le : (q : ℕ) → Contains (before_on_node g order p) q → end_in t q ≤ bound base m + 16000000000
      ended_le q among =
          let before_p = on_node_before g order p q among in
          omega (
            arith,
            small.ends q (from_order (process_count g) order topological.all q before_p.0)
                (omega (arith, end_sooner g order topological p q before_p.1)),
          )

      -- a condition that the start waits for is heard by the bound of the moment and a slot: one of the node itself at an earlier
      -- end, any other by an earlier broadcast
      heard_le : (c : ℕ) → Contains (flat_map (deciding g s.values) (before_on_node g order p ++ p ∷ [])) c →
          heard_there g t (node_of g p) c ≤ bound base m + 16000000000
      heard_le c among =
          let decided = Contains-flat_map_parts (deciding g s.values) (before_on_node g order p ++ p ∷ []) c among in
          let parts = Contains-filter_parts (decides g s.values decided.0)
          (numbers_below (condition_count g)) c decided.2 in
          let below = numbers-Contains (condition_count g) c parts.0 in
          let no_later = not_later g order p decided.0 decided.1 in
          let up : place order (process_of g c) < place order p =
          omega (arith, decides_earlier g order topological s.values decided.0 c below parts.1) in
          elim (cases_Bool (node_of g (process_of g c) == node_of g p)) [
            -- the process is on the node, and ends at an earlier moment
            | inl is ↦ subst (λ n. n ≤ bound base m + 16000000000) (sym (cond-true _ _ _ is))
                (omega (
                  arith,
                  small.ends (process_of g c) (process_of_below g c below)
                      (omega (arith, end_sooner g order topological p (process_of g c) up)),
                ))
            -- the broadcast has an earlier moment, and arrives a slot later
            | inr is ↦ subst (λ n. n ≤ bound base m + 16000000000) (sym (cond-false _ _ _ is))
                (frame_le m (broadcast_item g c) small (omega arith)
                (omega (arith, broadcast_sooner g order topological p c up)))
          ]

      -- no bound of the start of p is later than a round after the bound of the moment
      start_le : p < process_count g → greatest (start_bounds g order s t p) ≤ bound base m + 16000000000
      start_le below =
          let release : (process_at g p).release ≤ 1000000000 = (within.processes p _ below).release in
          start_bounds_le g order s t p (bound base m + 16000000000) (omega arith) (λ e c k. input_le e c)
          (λ q c k. ended_le q c) heard_le

    -- no bound of a send is later than two rounds (32000000000) after the bound of its moment
    send_le : (m x : ℕ) → SmallBefore m → moment g order x ≤ m → x < item_count g →
        phase (item_at g x) ≡ rank_of_item (item_at g x) + 2 →
        greatest (send_bounds g order s t x) ≤ bound base m + 32000000000
    send_le m x small no_later below sends = send_bounds_le g order s t x (bound base m + 32000000000)
        (omega (
          arith,
          next_slot-le g (home g x) (end_in t (producer g x)),
          round-le g within,
          small.ends (producer g x) (producer_in_range g order topological x below) (omega arith),
        ))
        (λ y among active.
        let parts = Contains-filter_parts (λ (z : ℕ). is_queued_before g order z x)
        (numbers_below (item_count g)) y among in
        let item_below = numbers-Contains (item_count g) y parts.0 in
        omega (
          arith,
          round-le g within,
          small.items y item_below
              (omega (arith, queued_sooner g order topological y x item_below sends parts.1)),
        ))

    -- no bound of any item is later than two rounds after the bound of its moment
    unfrozen_le : (m x : ℕ) → SmallBefore m → moment g order x ≤ m → x < item_count g → ItemCases g x →
        unfrozen_time g order s t x ≤ bound base m + 32000000000
    unfrozen_le m x small before below (inl kind) =
        subst (λ i. greatest (bounds_of_item g order s t x i) ≤ bound base m + 32000000000) (sym kind.1)
        (omega (arith, start_le m x small (omega (arith, moment_of_start g order topological x kind.0)) kind.0))
    unfrozen_le m x small before below (inr (inl kind)) =
        subst (λ i. greatest (bounds_of_item g order s t x i) ≤ bound base m + 32000000000) (sym kind.3)
        (send_le m x small before below
        (subst (λ i. phase i ≡ rank_of_item i + 2) (sym kind.3)
        (let sums : kind.0 + 3 ≡ kind.0 + 1 + 2 = omega arith in sums)))
    unfrozen_le m x small before below (inr (inr kind)) =
        subst (λ i. greatest (bounds_of_item g order s t x i) ≤ bound base m + 32000000000) (sym kind.3)
        (send_le m x small before below
        (subst (λ i. phase i ≡ rank_of_item i + 2) (sym kind.3) (let sums : 2 ≡ 0 + 2 = omega arith in sums)))

    -- an item's time is at most `b` if its unfrozen time and its frozen time are
    time_le : (x b : ℕ) → x < item_count g → unfrozen_time g order s t x ≤ b →
        ((time : ℕ) → get_or frozen x None ≡ Some time → time ≤ b) → time_in t x ≤ b
    time_le x b below bound_low frozen_low = elim (cases_Bool (item_active g s.values (item_at g x))) [
      | inl activity ↦ omega (
        arith,
        time_in_active g order frozen s t run x below activity,
        greatest-cons (unfrozen_time g order s t x) (option_to_list (get_or frozen x None)),
        frozen_le (get_or frozen x None) b frozen_low,
      )
      | inr activity ↦ let no_time : time_in t x ≡ 0 =
          ap (λ o. unwrap_or o 0) (time_is g order frozen s t run x below ∙ cond-false _ _ _ activity) in
          omega arith
    ]

    -- an end, or 0 if there is none, is at most the duration after a bound of the start
    end_from : (o : Option ℕ) (d b : ℕ) → unwrap_or o 0 ≤ b → unwrap_or (option_map (λ start. start + d) o) 0 ≤ b + d
    end_from None d b at_most = omega arith
    end_from (Some n) d b at_most = omega arith

    -- no process has more than 8 faults
    fault_le : (p : ℕ) → p < process_count g → fault_of s p ≤ 8
    fault_le p below = omega (
      arith,
      get_or-le-sum_by (λ (n : ℕ). n) s.faults p 0 (omega (arith, lawful.faults)),
      lawful.budget,
      within.faults,
    )

    -- an end is at most the longest duration (600000000000) after a bound of the start
    end_le : (p b : ℕ) → p < process_count g → time_in t p ≤ b → end_in t p ≤ b + 600000000000
    end_le p b below start_low =
        let by_rule : end_in t p ≡ unwrap_or (end_by g s t p) 0 =
        ap (λ o. unwrap_or o 0) (end_is g order frozen s t run p below) in
        omega (
          arith,
          end_from (get_or t.times p None) (duration g p (fault_of s p)) b start_low,
          duration-le g p (fault_of s p) within below (fault_le p below),
        )

    -- by induction on m: no time or end before the moment m is later than the bound of m
    pub small_before : (m : ℕ) → SmallBefore m
    small_before zero = record {
      items = λ x below earlier. absurd (omega arith);
      ends = λ p below earlier. absurd (omega arith);
    }
    small_before (suc m) =
        let small = small_before m in
        record {
          items = λ x below earlier. omega (
            arith,
            time_le x (bound base m + 32000000000) below
                (unfrozen_le m x small (omega arith) below (item_cases g x below))
                (λ time frozen_at. omega (arith, low.low x time below frozen_at)),
          );
          ends = λ p below earlier. omega (
            arith,
            end_le p (bound base m) below
                (small.items p (omega arith) (omega (arith, moment_of_start g order topological p below))),
          );
        }

    -- the time that an item would have if it were not frozen is no later than the item could be
    pub unfrozen_low : (x : ℕ) → x < item_count g →
        unfrozen_time g order s t x ≤ bound base (moment g order x) + 32000000000
    unfrozen_low x below =
        unfrozen_le (moment g order x) x (small_before (moment g order x)) (omega arith) below (item_cases g x below)

-- the number of moments is at most 128 * 259: there are at most 128 processes, with at most 259 phases each
pub last_le : (g : Graph) → IsWithinLimits g → last g ≤ 128 * 259
last_le g within = product (process_count g) (phases g) within.few_processes (omega (arith, within.few_edges))
  where
    -- a product is at most that of greater factors
    product : (a b : ℕ) → a ≤ 128 → b ≤ 259 → a * b ≤ 128 * 259
    product a b a_at_most b_at_most = mul-le-mul a_at_most b_at_most
