-- In generated graphs nothing is late: before each moment the times are no later than an execution for each process
-- that has ended, and two rounds for each item.
use Rattle.std.proofs.Common.{◌≡◌, ◌∙◌, ℕ, zero, suc, ◌+◌, ◌*◌, ◌<◌, ◌≤◌, ◌==◌, Bool, true, false, cond, List, [], ◌∷◌}
use Rattle.std.proofs.Common.{◌++◌, length, get_or, filter, map, flat_map, Contains, Option, Some, None}
use Rattle.std.proofs.Common.{option_to_list, option_map, unwrap_or, arith, refl, sym, ap, inl, inr, subst, true≢false}
use Rattle.std.proofs.Common.{⊎_elim}
use Rattle.std.specs.Prelude.{nat_lt}
use Rattle.std.proofs.lemmas.Bool.{cases_Bool, cases_lt, cond-true, cond-false, lt-ltb, le-ltb, ltb-true}
use Rattle.std.proofs.lemmas.Grind.{div_ceil_times}
use Rattle.std.proofs.lemmas.List.Sums.{get_or-le-sum_by}
use Rattle.std.specs.Int.{div_ceil}
use Rattle.std.proofs.lemmas.Option.{none-some}
use Rattle.std.proofs.lemmas.List.FromFn.{length-range_with_len}
use Rattle.cpg_base.specs.declared.process.Process.{Process}
use Rattle.cpg_base.specs.Numbers.{numbers_below, greatest}
use Rattle.cpg_base.specs.Graph.{process_count, condition_count, item_count, message_item, broadcast_item, item_at}
use Rattle.cpg_base.specs.Graph.{producer, process_of, process_at, node_of, home, source, inputs, is_message}
use Rattle.cpg_base.specs.Graph.{is_frozen}
use Rattle.cpg_base.specs.Activity.{item_active}
use Rattle.cpg_base.specs.Bus.{round}
use Rattle.cpg_base.specs.Duration.{duration, duration_of, due, lesser_due}
use Rattle.cpg_base.specs.Scenario.{IsScenario, Scenario, fault_of}
use Rattle.cpg_base.proofs.Bounds.{slot_length-le}
use Rattle.cpg_base.proofs.Inputs.{inputs_parts}
use Rattle.cpg_base.proofs.Items.{item_cases, ItemCases, process_of_below}
use Rattle.cpg_base.proofs.Sums.{length-filter-le}
use Rattle.cpg_base.proofs.Lists.{Contains-nil, greatest-cons, greatest-le, get_or-map-below, Contains-filter_parts}
use Rattle.cpg_base.proofs.Lists.{Contains-flat_map_parts, Contains-map_parts, Contains-cases, Contains-numbers}
use Rattle.cpg_base.proofs.Lists.{numbers-Contains}
use Rattle.cpg_order.specs.Urgency.{IsTopological}
use Rattle.cpg_base.specs.Order.{place, before, before_on_node}
use Rattle.cpg_order.specs.Deciding.{decides, deciding}
use Rattle.cpg_order.specs.Queue.{is_queued_before, rank_of_item}
use Rattle.cpg_order.proofs.Acyclic.{input_goes_up, source_in_order}
use Rattle.cpg_order.proofs.DecidingLaws.{decides_earlier}
use Rattle.cpg_order.proofs.Moments.{phase, phases, moment, moment_of_end, moment_of_start, last, message_sooner}
use Rattle.cpg_order.proofs.Moments.{broadcast_sooner, end_sooner, queued_sooner, producer_in_range, end_before_last}
use Rattle.cpg_base.proofs.Places.{from_order, not_later, on_node_before}
use Rattle.cpg_run.specs.Run.{Times, IsRun, time_in, end_in, frame_there, input_there, heard_there, bounds_of_item}
use Rattle.cpg_run.specs.Run.{unfrozen_time, start_bounds, send_bounds, end_by}
use Rattle.cpg_run.specs.Frozen.{AreFrozenTimes}
use Rattle.cpg_run.specs.Finish.{IsExcess, excess_of, excess_in_run}
use Rattle.cpg_run.proofs.Runs.{time_is, time_in_active, end_is}
use Rattle.cpg_run.proofs.Bounded.{start_bounds_le, send_bounds_le}
use Rattle.cpg_run.proofs.Rising.{next_slot-le}
use Rattle.cpg_gen.specs.Draws.{nth_draw}
use Rattle.cpg_gen.specs.Generated.{generated, generated_process, process_from, number_before}
use Rattle.cpg_gen_laws.proofs.Kept.{filter_long}
use Rattle.cpg_gen.proofs.Limits.{draw-lt, processes_count, edges_count, few_conditions}

-- ---- durations

-- An execution of a generated process lasts at most 166. It has work w in n parts of at most d, and f faults; a
-- detection costs a, a checkpoint c and a recovery m.
duration_few : (w a c m d f : ℕ) → w ≤ 50 → a ≤ 2 → c ≤ 2 → m ≤ 4 → (n : ℕ) → 1 ≤ n → n ≤ 3 → d * n < w + n → f ≤ 2 →
    w + n * (a + c) + f * (m + d + a) ≤ 166
duration_few w a c m d f w_low a_low c_low m_low zero some few whole_parts f_low = absurd (omega arith)
duration_few w a c m d zero w_low a_low c_low m_low (suc zero) some few whole_parts f_low = omega arith
duration_few w a c m d zero w_low a_low c_low m_low (suc (suc zero)) some few whole_parts f_low = omega arith
duration_few w a c m d zero w_low a_low c_low m_low (suc (suc (suc zero))) some few whole_parts f_low = omega arith
duration_few w a c m d (suc zero) w_low a_low c_low m_low (suc zero) some few whole_parts f_low = omega arith
duration_few w a c m d (suc zero) w_low a_low c_low m_low (suc (suc zero)) some few whole_parts f_low = omega arith
duration_few w a c m d (suc zero) w_low a_low c_low m_low (suc (suc (suc zero)))
    some few whole_parts f_low = omega arith
duration_few w a c m d (suc (suc zero)) w_low a_low c_low m_low (suc zero) some few whole_parts f_low = omega arith
duration_few w a c m d (suc (suc zero)) w_low a_low c_low m_low (suc (suc zero))
    some few whole_parts f_low = omega arith
duration_few w a c m d (suc (suc zero)) w_low a_low c_low m_low (suc (suc (suc zero)))
    some few whole_parts f_low = omega arith
duration_few w a c m d (suc (suc (suc f))) w_low a_low c_low m_low (suc n)
    some few whole_parts f_low = absurd (omega arith)
duration_few w a c m d f w_low a_low c_low m_low (suc (suc (suc (suc n))))
    some few whole_parts f_low = absurd (omega arith)

-- an execution of process `i`, which is made of draw `x`, lasts at most 166 with `f` faults, at most two
duration_from : (x i f : ℕ) → f ≤ 2 → duration_of (process_from x i) f ≤ 166
duration_from x i f few =
    let work = draw-lt x 1 50 (omega arith) in
    let parts = draw-lt x 2 3 (omega arith) in
    let detection = draw-lt x 3 3 (omega arith) in
    let checkpoint = draw-lt x 4 3 (omega arith) in
    let recovery = draw-lt x 5 5 (omega arith) in
    duration_few (1 + nth_draw x 1 50) (nth_draw x 3 3) (nth_draw x 4 3) (nth_draw x 5 5)
    (div_ceil (1 + nth_draw x 1 50) (1 + nth_draw x 2 3)) f
    (omega (arith, work)) (omega (arith, detection)) (omega (arith, checkpoint)) (omega (arith, recovery))
    (1 + nth_draw x 2 3) (omega arith)
    (omega (arith, parts))
    (div_ceil_times (1 + nth_draw x 1 50) (1 + nth_draw x 2 3) (omega arith)).1 few

-- ---- counting the moments before one

-- how many of the first n numbers have a moment before one
abbrev count_before : (ℕ → ℕ) → ℕ → ℕ → ℕ
count_before at n m = length (filter (λ x. nat_lt (at x) m) (numbers_below n))

-- if each `x` that passes `p` passes `q`, and `y` passes only `q`, at least one element more of `xs` passes `q` than
-- `p`
one_more : {X : Type 0} (p q : X → Bool) (xs : List X) (y : X) → ((x : X) → p x ≡ true → q x ≡ true) → Contains xs y →
    p y ≡ false → q y ≡ true →
    length (filter p xs) + 1 ≤ length (filter q xs)
one_more p q [] y passes_both has_y fails_p passes_q = absurd (Contains-nil y has_y)
one_more p q (x ∷ xs) y passes_both has_y fails_p passes_q = ⊎_elim
    (λ (e : x ≡ y). here (p x) (ap p e ∙ fails_p) (q x) (ap q e ∙ passes_q) (length-filter-le p q xs passes_both))
    (λ (c : Contains xs y). there (p x) refl (q x) refl (one_more p q xs y passes_both c fails_p passes_q))
    (Contains-cases x xs y has_y)
  where
    -- at the element itself, of which the first test, `a`, is false and the second, `b`, is true: only the second
    -- counts it
    here : (a : Bool) → a ≡ false → (b : Bool) → b ≡ true → length (filter p xs) ≤ length (filter q xs) →
        length (cond a (x ∷ filter p xs) (filter p xs)) + 1 ≤ length (cond b (x ∷ filter q xs) (filter q xs))
    here false is_false true is_true ih = omega (arith, ih)
    here true is_false b is_true ih = absurd (true≢false is_false)
    here false is_false false is_true ih = absurd (true≢false (sym is_true))

    -- at another element, of which the tests are `a` and `b`: whatever the first counts, the second counts too
    there : (a : Bool) → p x ≡ a → (b : Bool) → q x ≡ b → length (filter p xs) + 1 ≤ length (filter q xs) →
        length (cond a (x ∷ filter p xs) (filter p xs)) + 1 ≤ length (cond b (x ∷ filter q xs) (filter q xs))
    there true p_is true q_is ih = omega (arith, ih)
    there true p_is false q_is ih = absurd (true≢false (sym (passes_both x p_is) ∙ q_is))
    there false p_is true q_is ih = omega (arith, ih)
    there false p_is false q_is ih = ih

-- if the moment of `x` comes before `m`, it comes before `m + 1`
later_passes : (at : ℕ → ℕ) (m x : ℕ) → nat_lt (at x) m ≡ true → nat_lt (at x) (suc m) ≡ true
later_passes at m x is_before =
    let earlier = ltb-true (at x) m is_before in lt-ltb (at x) (suc m) (omega (arith, earlier))

-- of the first `n` moments, no fewer come before `m + 1` than before `m`
count_grows : (at : ℕ → ℕ) (n m : ℕ) → count_before at n m ≤ count_before at n (suc m)
count_grows at n m =
    length-filter-le (λ x. nat_lt (at x) m) (λ x. nat_lt (at x) (suc m)) (numbers_below n) (later_passes at m)

-- of the first `n` moments, at least one more comes before `m + 1` than before `m`, if that of some `x` is `m`
count_more : (at : ℕ → ℕ) (n m x : ℕ) → x < n → at x ≡ m → count_before at n m + 1 ≤ count_before at n (suc m)
count_more at n m x below moment_is = one_more (λ x. nat_lt (at x) m) (λ x. nat_lt (at x) (suc m)) (numbers_below n) x
    (later_passes at m) (Contains-numbers n x below)
    (le-ltb (at x) m (omega (arith, moment_is))) (lt-ltb (at x) (suc m) (omega (arith, moment_is)))

-- of the first `n` moments, at most `n` come before `m`
count_few : (at : ℕ → ℕ) (n m : ℕ) → count_before at n m ≤ n
count_few at n m = omega (arith, filter_long (λ x. nat_lt (at x) m) (numbers_below n), length-range_with_len 0 n)

-- if no frozen time `o` is greater than `b`, neither is the greatest of the list of it
frozen_le : (o : Option ℕ) (b : ℕ) → ((time : ℕ) → o ≡ Some time → time ≤ b) → greatest (option_to_list o) ≤ b
frozen_le None b bounded = omega arith
frozen_le (Some time) b bounded = let time_bounded = bounded time refl in omega (arith, greatest-cons time [])

-- if a start `o` is at most `b`, and a duration `d` at most `c`, the end is at most `b + c`
end_from : (o : Option ℕ) (d b c : ℕ) → unwrap_or o 0 ≤ b → d ≤ c →
    unwrap_or (option_map (λ start. start + d) o) 0 ≤ b + c
end_from None d b c start_low short = omega arith
end_from (Some n) d b c start_low short = omega arith

-- given the number of a generated graph
module _ (number : ℕ) where
  -- an execution of process `p` with `f` faults, at most two, lasts at most 166
  duration_le : (p f : ℕ) → p < process_count (generated number) → f ≤ 2 → duration (generated number) p f ≤ 166
  duration_le p f below few_faults =
      let within : p < 60 = omega (arith, below, processes_count number) in
      subst (λ (q : Process). duration_of q f ≤ 166) (sym (get_or-map-below (generated_process number) 60 p _ within))
      (duration_from (number_before number p) p f few_faults)

  -- no process has a release
  release_le : (p : ℕ) → p < process_count (generated number) → (process_at (generated number) p).release ≡ 0
  release_le p below =
      let within : p < 60 = omega (arith, below, processes_count number) in
      ap (λ (q : Process). q.release) (get_or-map-below (generated_process number) 60 p _ within)

  -- each process is due at the deadline of 1,000,000,000
  due_is : (p : ℕ) → p < process_count (generated number) → due (generated number) p ≡ 1000000000
  due_is p below =
      let within : p < 60 = omega (arith, below, processes_count number) in
      ap (λ (q : Process). lesser_due 1000000000 q.deadline) (get_or-map-below (generated_process number) 60 p _ within)

  -- the round of a generated graph takes 40
  round_is : round (generated number) ≡ 40
  round_is = refl

  -- given an order in which each edge leads forward
  module _ (order : List ℕ) (topological : IsTopological (generated number) order) where
    -- the times that are settled before a moment are no later than this
    abbrev ended : ℕ → ℕ
    ended m = count_before (moment_of_end (generated number) order) (process_count (generated number)) m

    -- how many items have a moment before m
    abbrev settled : ℕ → ℕ
    settled m = count_before (moment (generated number) order) (item_count (generated number)) m

    -- the bound of the times before m: 166 for each process that has ended, and 80 for each item
    abbrev bound : ℕ → ℕ
    bound m = 166 * ended m + 80 * settled m

    -- the bound doesn't fall from one moment to the next
    bound_grows : (m : ℕ) → bound m ≤ bound (suc m)
    bound_grows m =
        let more_ends = count_grows (moment_of_end (generated number) order) (process_count (generated number)) m in
        let more_items = count_grows (moment (generated number) order) (item_count (generated number)) m in
        omega (arith, more_ends, more_items)

    -- after the moment of an item the bound is greater by two rounds
    bound_at_item : (x : ℕ) → x < item_count (generated number) →
        bound (moment (generated number) order x) + 80 ≤ bound (suc (moment (generated number) order x))
    bound_at_item x below =
        let more_ends = count_grows (moment_of_end (generated number) order) (process_count (generated number))
        (moment (generated number) order x) in
        let one_item_more = count_more (moment (generated number) order) (item_count (generated number))
        (moment (generated number) order x) x below refl in
        omega (arith, more_ends, one_item_more)

    -- after the moment of an end the bound is greater by an execution
    bound_at_end : (p : ℕ) → p < process_count (generated number) →
        bound (moment_of_end (generated number) order p) + 166 ≤ bound (suc (moment_of_end (generated number) order p))
    bound_at_end p below =
        let one_end_more = count_more (moment_of_end (generated number) order) (process_count (generated number))
        (moment_of_end (generated number) order p) p below refl in
        let more_items = count_grows (moment (generated number) order) (item_count (generated number))
        (moment_of_end (generated number) order p) in
        omega (arith, one_end_more, more_items)

    -- No bound is above 19,720: 60 ends and 122 items.
    -- 60 executions of at most 166 and 122 items of at most 80 are 9,960 + 9,760.
    bound_few : (m : ℕ) → bound m ≤ 19720
    bound_few m =
        let ends_few = count_few (moment_of_end (generated number) order) (process_count (generated number)) m in
        let items_few = count_few (moment (generated number) order) (item_count (generated number)) m in
        let processes = processes_count number in
        let edges = edges_count number in
        let conditions = few_conditions number in
        omega (arith, ends_few, items_few, processes, edges, conditions)

    -- given the frozen times under this order
    module _ (frozen : List (Option ℕ)) (still : AreFrozenTimes (generated number) order frozen) where
      -- all times and ends before the moment m are at most its bound
      record SmallBefore (t : Times) (m : ℕ) : Type 0 where
        -- no item before m has a later time
        pub items : (x : ℕ) → x < item_count (generated number) → moment (generated number) order x < m →
            time_in t x ≤ bound m
        -- no process ends later before m
        pub ends : (p : ℕ) → p < process_count (generated number) → moment_of_end (generated number) order p < m →
            end_in t p ≤ bound m

      -- given the run of a scenario
      module _ (s : Scenario) (t : Times) (lawful : IsScenario (generated number) s)
          (run : IsRun (generated number) order frozen s t) where
        -- a frame of an item before m is there by the bound of m and one round
        frame_le : (m x : ℕ) → SmallBefore t m → x < item_count (generated number) →
            moment (generated number) order x < m →
            frame_there (generated number) t x ≤ bound m + 40
        frame_le m x small below before_m =
            let early = small.items x below before_m in
            let slot = slot_length-le (generated number) (home (generated number) x) in
            let turn = round_is in
            omega (arith, early, slot, turn)

        -- given a moment `m`, before which all times are small, and a process `p` whose place has come by then
        module _ (m p : ℕ) (small : SmallBefore t m) (at : place order p * phases (generated number) ≤ m) where
          -- an input of a process whose place has come is there by then, too
          input_le : (e : ℕ) → Contains (inputs (generated number) p) e →
              input_there (generated number) t e ≤ bound m + 40
          input_le e is_input =
              let edge_below = (inputs_parts (generated number) p e is_input).0 in
              let up = input_goes_up (generated number) order topological p e is_input in
              elim (cases_Bool (is_message (generated number) e)) [
                | inl is ↦ (let sooner = message_sooner (generated number) order topological p e edge_below up in
                    subst (λ n. n ≤ bound m + 40) (sym (cond-true _ _ _ is)) (frame_le m
                    (message_item (generated number) e) small (omega (arith, edge_below)) (omega (arith, sooner, at))))
                | inr is ↦
                    (let sooner = end_sooner (generated number) order topological p (source (generated number) e) up in
                    let early = small.ends (source (generated number) e)
                    (source_in_order (generated number) order topological e edge_below) (omega (arith, sooner, at)) in
                    subst (λ n. n ≤ bound m + 40) (sym (cond-false _ _ _ is)) (omega (arith, early)))
              ]

          -- a process before it on its node has ended by then
          ended_le : (q : ℕ) → Contains (before_on_node (generated number) order p) q → end_in t q ≤ bound m + 40
          ended_le q before_p =
              let stands_before = on_node_before (generated number) order p q before_p in
              let sooner = end_sooner (generated number) order topological p q stands_before.1 in
              let early = small.ends q (from_order (process_count (generated number))
              order topological.all q stands_before.0)
              (omega (arith, sooner, at)) in
              omega (arith, early)

          -- each condition that decides p, or a process before it on its node, is heard there by the bound of m and
          -- 40
          heard_le : (c : ℕ) →
              Contains (flat_map (deciding (generated number) s.values)
              (before_on_node (generated number) order p ++ p ∷ [])) c →
              heard_there (generated number) t (node_of (generated number) p) c ≤ bound m + 40
          heard_le c waited_for =
              -- c decides a process (`decided`), which is p or stands before it; its own process is earlier still
              let decided = Contains-flat_map_parts (deciding (generated number) s.values)
              (before_on_node (generated number) order p ++ p ∷ []) c waited_for in
              let parts = Contains-filter_parts (decides (generated number) s.values decided.0)
              (numbers_below (condition_count (generated number))) c decided.2 in
              let c_below = numbers-Contains (condition_count (generated number)) c parts.0 in
              let no_later = not_later (generated number) order p decided.0 decided.1 in
              let earlier = decides_earlier (generated number) order topological s.values decided.0 c c_below parts.1 in
              let up : place order (process_of (generated number) c) < place order p =
              omega (arith, earlier, no_later) in
              elim (cases_Bool
              (node_of (generated number) (process_of (generated number) c) == node_of (generated number) p)) [
                -- the node has the condition's process: it has ended by then
                | inl is ↦ (let sooner =
                    end_sooner (generated number) order topological p (process_of (generated number) c) up in
                    let early = small.ends (process_of (generated number) c)
                    (process_of_below (generated number) c c_below)
                    (omega (arith, sooner, at)) in
                    subst (λ n. n ≤ bound m + 40) (sym (cond-true _ _ _ is)) (omega (arith, early)))
                -- it hasn't: the frame is there by then
                | inr is ↦ (let sooner = broadcast_sooner (generated number) order topological p c up in
                    subst (λ n. n ≤ bound m + 40) (sym (cond-false _ _ _ is)) (frame_le m
                    (broadcast_item (generated number) c) small (omega (arith, c_below)) (omega (arith, sooner, at))))
              ]

          -- so the process could start by then
          start_le : p < process_count (generated number) →
              greatest (start_bounds (generated number) order s t p) ≤ bound m + 40
          start_le below =
              let release = release_le p below in
              start_bounds_le (generated number) order s t p (bound m + 40) (omega (arith, release))
              (λ e c k. input_le e c) (λ q c k. ended_le q c) heard_le

        -- an item at m could be sent a round later than that
        send_le : (m x : ℕ) → SmallBefore t m → moment (generated number) order x ≤ m →
            x < item_count (generated number) →
            phase (item_at (generated number) x) ≡ rank_of_item (item_at (generated number) x) + 2
            → moment_of_end (generated number) order (producer (generated number) x) < m →
            greatest (send_bounds (generated number) order s t x) ≤ bound m + 80
        send_le m x small no_later below sends made = send_bounds_le (generated number) order s t x (bound m + 80)
            -- the slot after the producer's end comes within a round
            (let next = next_slot-le (generated number) (home (generated number) x)
            (end_in t (producer (generated number) x)) in
            let turn = round_is in
            let early = small.ends (producer (generated number) x)
            (producer_in_range (generated number) order topological x below) made in
            omega (arith, next, turn, early))
            -- what is queued before it was sent earlier, and its slot comes a round after
            (λ y in_queue active.
            let parts = Contains-filter_parts (λ (z : ℕ). is_queued_before (generated number) order z x)
            (numbers_below (item_count (generated number))) y in_queue in
            let y_below = numbers-Contains (item_count (generated number)) y parts.0 in
            let sooner = queued_sooner (generated number) order topological y x y_below sends parts.1 in
            let early = small.items y y_below (omega (arith, sooner, no_later)) in
            let turn = round_is in
            omega (arith, early, turn))

        -- the end of an item's producer has an earlier moment than the item
        send_made : (m x : ℕ) → moment (generated number) order x ≡ m →
            phase (item_at (generated number) x) ≡ rank_of_item (item_at (generated number) x) + 2 →
            moment_of_end (generated number) order (producer (generated number) x) < m
        send_made m x is sends = omega (arith, is, sends)

        -- the time of an item at moment m is at most the bound of m and 80, by whether it is a start, a message or a
        -- broadcast
        unfrozen_le : (m x : ℕ) → SmallBefore t m → moment (generated number) order x ≡ m →
            x < item_count (generated number) →
            ItemCases (generated number) x →
            unfrozen_time (generated number) order s t x ≤ bound m + 80
        -- a start
        unfrozen_le m x small is below (inl kind) =
            subst (λ i. greatest (bounds_of_item (generated number) order s t x i) ≤ bound m + 80) (sym kind.1)
            (let first = moment_of_start (generated number) order topological x kind.0 in
            let most = start_le m x small (omega (arith, is, first)) kind.0 in
            omega (arith, most))
        -- a message
        unfrozen_le m x small is below (inr (inl kind)) =
            subst (λ i. greatest (bounds_of_item (generated number) order s t x i) ≤ bound m + 80) (sym kind.3)
            (let sends = subst (λ i. phase i ≡ rank_of_item i + 2) (sym kind.3)
            (let sums : kind.0 + 3 ≡ kind.0 + 1 + 2 = omega arith in sums) in
            send_le m x small (omega (arith, is)) below sends (send_made m x is sends))
        -- a broadcast
        unfrozen_le m x small is below (inr (inr kind)) =
            subst (λ i. greatest (bounds_of_item (generated number) order s t x i) ≤ bound m + 80) (sym kind.3)
            (let sends = subst (λ i. phase i ≡ rank_of_item i + 2) (sym kind.3)
            (let sums : 2 ≡ 0 + 2 = omega arith in sums) in
            send_le m x small (omega (arith, is)) below sends (send_made m x is sends))

        -- A time is at most b if the unfrozen time and the frozen one are.
        -- An active item's time is the greater of the two, and an inactive one has 0.
        time_le : (x b : ℕ) → x < item_count (generated number) → unfrozen_time (generated number) order s t x ≤ b →
            ((time : ℕ) → get_or frozen x None ≡ Some time → time ≤ b) → time_in t x ≤ b
        time_le x b below unfrozen_low frozen_low = elim (cases_Bool (item_active (generated number) s.values
            (item_at (generated number) x))) [
              | inl activity ↦ omega (
                arith,
                time_in_active (generated number) order frozen s t run x below activity,
                greatest-cons (unfrozen_time (generated number) order s t x) (option_to_list (get_or frozen x None)),
                frozen_le (get_or frozen x None) b frozen_low,
              )
              | inr activity ↦ let no_time : time_in t x ≡ 0 =
                  ap (λ o. unwrap_or o 0) (time_is (generated number) order frozen s t run x below ∙
                  cond-false _ _ _ activity) in
                  omega arith
            ]

        -- a process has at most two faults
        fault_le : (p : ℕ) → p < process_count (generated number) → fault_of s p ≤ 2
        fault_le p below =
            let one = get_or-le-sum_by (λ (n : ℕ). n) s.faults p 0 (omega (arith, lawful.faults, below)) in
            omega (arith, one, lawful.budget)

        -- an end is at most 166 after a start
        end_le : (p b : ℕ) → p < process_count (generated number) → time_in t p ≤ b → end_in t p ≤ b + 166
        end_le p b below start_low =
            let by_rule : end_in t p ≡ unwrap_or (end_by (generated number) s t p) 0 =
            ap (λ o. unwrap_or o 0) (end_is (generated number) order frozen s t run p below) in
            let most = end_from (get_or t.times p None) (duration (generated number) p (fault_of s p)) b 166 start_low
            (duration_le p (fault_of s p) below (fault_le p below)) in
            omega (arith, by_rule, most)

      -- before a moment everything is small in every scenario's run
      abbrev AllSmall : ℕ → Type 0
      AllSmall m = (s : Scenario) (t : Times) → IsScenario (generated number) s →
          IsRun (generated number) order frozen s t → SmallBefore t m

      -- A frozen time of a moment isn't much greater than the times before the moment.
      -- It is the unfrozen time in some scenario's run, where that is known of it.
      still_le : (m x : ℕ) → AllSmall m → x < item_count (generated number) → moment (generated number) order x ≡ m →
          (time : ℕ) → get_or frozen x None ≡ Some time →
          time ≤ bound m + 80
      still_le m x all below is time has_frozen = elim (cases_Bool (is_frozen (generated number) x)) [
        | inl frozen_or_not ↦ (let some_run = (still.each x below frozen_or_not).reached time has_frozen in
            let most = unfrozen_le some_run.scenario some_run.times some_run.lawful some_run.run m x
            (all some_run.scenario some_run.times some_run.lawful some_run.run) is below
            (item_cases (generated number) x below) in
            omega (arith, most, some_run.has))
        | inr frozen_or_not ↦ absurd (none-some time (sym (still.others x frozen_or_not) ∙ has_frozen))
      ]

      -- all times before moment m are at most its bound; by induction on m, with one more moment for the items and
      -- ends at m
      all_small : (m : ℕ) → AllSmall m
      -- nothing has a moment before 0
      all_small zero s t lawful run =
          record {
            items = λ x below before_next. absurd (omega (arith, before_next));
            ends = λ p below before_next. absurd (omega (arith, before_next));
          }
      all_small (suc m) s t lawful run =
          let small = all_small m s t lawful run in
          let grows = bound_grows m in
          record {
            items = λ x below before_next. elim (cases_lt (moment (generated number) order x) m) [
              -- an item with an earlier moment
              | inl which_moment ↦ (let early = small.items x below which_moment in omega (arith, early, grows))
              -- one at moment m adds at most 80
              | inr which_moment ↦ (
                  let is : moment (generated number) order x ≡ m = omega (arith, before_next, which_moment) in
                  let time = time_le s t lawful run x (bound m + 80) below
                  (unfrozen_le s t lawful run m x small is below
                  (item_cases (generated number) x below)) (still_le m x (all_small m) below is) in
                  let more = subst (λ n. bound n + 80 ≤ bound (suc n)) is (bound_at_item x below) in
                  omega (arith, time, more))
            ];
            ends = λ p below before_next. elim (cases_lt (moment_of_end (generated number) order p) m) [
              -- an end with an earlier moment
              | inl which_moment ↦ (let early = small.ends p below which_moment in omega (arith, early, grows))
              -- one at moment m adds at most 166 to its start
              | inr which_moment ↦ (
                  let is : moment_of_end (generated number) order p ≡ m = omega (arith, before_next, which_moment) in
                  let first = moment_of_start (generated number) order topological p below in
                  let start = small.items p (omega (arith, below)) (omega (arith, first, is)) in
                  let most = end_le s t lawful run p (bound m) below start in
                  let more = subst (λ n. bound n + 166 ≤ bound (suc n)) is (bound_at_end p below) in
                  omega (arith, most, more))
            ];
          }

      -- in a run of scenario `s` with times `t`, no process `p` ends later than 19,720
      pub ends_early : (s : Scenario) (t : Times) → IsScenario (generated number) s →
          IsRun (generated number) order frozen s t → (p : ℕ) → p < process_count (generated number) →
          end_in t p ≤ 19720
      ends_early s t lawful run p below =
          let last_moment = last (generated number) in
          let most = (all_small last_moment s t lawful run).ends p below
          (end_before_last (generated number) order topological p below) in
          let few = bound_few last_moment in
          omega (arith, most, few)

      -- No process exceeds its due in a run, since all end by 19,720.
      -- The due of each is 10^9.
      no_excess : (s : Scenario) (t : Times) → IsScenario (generated number) s →
          IsRun (generated number) order frozen s t →
          excess_in_run (generated number) t ≤ 0
      no_excess s t lawful run =
          greatest-le (map (excess_of (generated number) t) (numbers_below (process_count (generated number)))) 0
          (λ v among. let of_process = Contains-map_parts (excess_of (generated number) t)
          (numbers_below (process_count (generated number))) v among in
          let below = numbers-Contains (process_count (generated number)) of_process.0 of_process.1 in
          let early = ends_early s t lawful run of_process.0 below in
          let due_there = due_is of_process.0 below in
          omega (arith, of_process.2, early, due_there))

      -- no process ends past its due
      pub in_time : (urgency : List ℕ) (excess : ℕ) (s : Scenario) (process : Option ℕ) →
          IsExcess (generated number) urgency order frozen excess s process → excess ≡ 0
      in_time urgency excess s process is =
          let found = is.least.holds in
          let none = no_excess s found.0 is.least.lawful found.1 in
          omega (arith, found.2, none)
