-- In generated graphs nothing is too wide.
use Rattle.std.proofs.Common.{ℕ, zero, suc, ◌+◌, ◌-◌, ◌*◌, ◌^◌, ◌<◌, ◌≤◌, ◌≡◌, ◌==◌, inl, inr, Bool, true, false, cond}
use Rattle.std.proofs.Common.{◌&&◌, ◌||◌, List, [], ◌++◌, length, filter, map, sum_by, is_some}
use Rattle.std.proofs.Common.{option_to_list, Contains, refl, sym, ap, ap₂, ◌∙◌, subst, arith, ne_eqb, ⊎_elim}
use Rattle.std.specs.Prelude.{nat_lt}
use Rattle.std.specs.List.{flat_map}
use Rattle.std.proofs.lemmas.Bool.{and_from, and_right, both_ways, lt-ltb, le-ltb, cond-true, cond-false}
use Rattle.std.proofs.lemmas.List.Elements.{Contains-append_cases}
use Rattle.std.proofs.lemmas.List.Sums.{sum_by_push, length-filter}
use Rattle.cpg_base.specs.Numbers.{numbers_below}
use Rattle.cpg_base.specs.Graph.{process_count, edge_count, condition_count, item_count, edge_at, message_item, item_at}
use Rattle.cpg_base.specs.Graph.{source, producer, is_message, is_frozen, is_frozen_item, condition_of}
use Rattle.cpg_base.specs.Graph.{value_variable}
use Rattle.cpg_base.specs.Activity.{active}
use Rattle.cpg_base.specs.declared.item.Item.TheVariants.{Message}
use Rattle.cpg_base.proofs.Lists.{Contains-nil, Contains-map_parts, list_any_false, numbers-Contains, filter_none}
use Rattle.cpg_base.proofs.Lists.{below_push}
use Rattle.cpg_base.proofs.Sums.{same_sum_by, sum_by_constant, sum_by-le_each}
use Rattle.cpg_base.proofs.Items.{item_cases, item_at-message}
use Rattle.cpg_order.specs.Deciding.{outcomes, conditions_of}
use Rattle.cpg_order.specs.Scenario.{scenarios}
use Rattle.cpg_order.specs.Counting.{ways, is_quiet, is_count_free, free_counts, views_of_outcome}
use Rattle.cpg_order.specs.Reach.{Reach, IsReach, is_in, reach_of, reach_by_item, send_reach, source_value, sent_value}
use Rattle.cpg_order.specs.Reach.{end_reach, views, load, rows_of_item, is_too_wide, most_views, most_loads}
use Rattle.cpg_order.specs.Queue.{queued_before}
use Rattle.cpg_order.proofs.Ways.{ways_of_none, ways_to_none, ways_times}
use Rattle.cpg_order.proofs.Views.{views-sum}
use Rattle.cpg_order.proofs.ViewsGrow.{views_le_scenarios}
use Rattle.cpg_order.proofs.ScenariosApart.{length-scenarios}
use Rattle.cpg_reach.specs.Wide.{IsNarrow}
use Rattle.cpg_gen.specs.Generated.{generated}
use Rattle.cpg_gen.proofs.Limits.{edge_there, processes_count, edges_count, few_conditions}
use Rattle.cpg_gen_laws.proofs.Kept.{filter_long, powers_few, outcomes_few}
use Rattle.cpg_base.proofs.Durations.{product_within}

-- ---- numbers

-- two faults at most can fall on 60 processes in 1,891 ways
ways_of_processes : ways 60 2 ≡ 1891
ways_of_processes =
    let none = ways_to_none 60 in
    let one = ways_times 60 0 in
    let two = ways_times 60 1 in
    omega arith

-- at most four outcomes, `p`, of 1,891 ways each, `w`, make at most 7,564
product_few : (p w : ℕ) → p ≤ 4 → w ≡ 1891 → p * w ≤ 7564
product_few p w at_most same = subst (λ v. p * v ≤ 7564) (sym same) (omega (arith, at_most))

-- ---- lists of values alone

-- a reach that has only values of conditions: variables from 128 on
abbrev AreValues : List ℕ → Type 0
AreValues vs = (v : ℕ) → Contains vs v → 128 ≤ v

-- a reach without variables has values alone
none_values : AreValues []
none_values v k = absurd (Contains-nil v k)

-- the variables of some conditions are values alone
values_values : (cs : List ℕ) → AreValues (map value_variable cs)
values_values cs v among =
    let of_condition = Contains-map_parts value_variable cs v among in omega (arith, of_condition.2)

-- two reaches of values alone, `xs` and `ys`, make one together
append_values : (xs ys : List ℕ) → AreValues xs → AreValues ys → AreValues (xs ++ ys)
append_values xs ys xs_values ys_values v among =
    ⊎_elim (λ (in_xs : Contains xs v). xs_values v in_xs) (λ (in_ys : Contains ys v). ys_values v in_ys)
    (Contains-append_cases xs ys v among)

-- if `xs` and `ys` are both variables of values alone, so is the one of them that `b` picks
either_values : (b : Bool) (xs ys : List ℕ) → AreValues xs → AreValues ys → AreValues (cond b xs ys)
either_values true xs ys h k = h
either_values false xs ys h k = k

-- if `b` picks `xs` out of the two, and these are variables of values alone, so is what is picked, whatever `ys` are
first_values : (b : Bool) (xs ys : List ℕ) → b ≡ true → AreValues xs → AreValues (cond b xs ys)
first_values true xs ys is_true h = h
first_values false xs ys is_true h = absurd (both_ways false refl is_true)

-- a reach `vs` of values alone has the fault count of no process `p`
no_count : (vs : List ℕ) → AreValues vs → (p : ℕ) → p < 128 → is_in vs p ≡ false
no_count vs values_alone p low =
    list_any_false (λ u. u == p) vs (λ u among.
    ne_eqb u p (λ e. let high = values_alone u among in omega (arith, high, e, low)))

-- ---- sums

-- The sum of `f` over the first `n + m` numbers is no less than over the first `n`. By induction on `m`.
sums_grow : (f : ℕ → ℕ) (n m : ℕ) → sum_by f (numbers_below n) ≤ sum_by f (numbers_below (n + m))
sums_grow f n zero = let sums : n + 0 ≡ n = omega arith in
    subst (λ k. sum_by f (numbers_below n) ≤ sum_by f (numbers_below k)) (sym sums) (omega arith)
sums_grow f n (suc m) =
    let pushed : sum_by f (numbers_below (n + m + 1)) ≡ sum_by f (numbers_below (n + m)) + f (n + m) =
    ap (sum_by f) (below_push (n + m)) ∙ sum_by_push f (numbers_below (n + m)) (n + m) in
    let smaller = sums_grow f n m in
    let sums : n + suc m ≡ n + m + 1 = omega arith in
    subst (λ k. sum_by f (numbers_below n) ≤ sum_by f (numbers_below k)) (sym sums) (omega (arith, pushed, smaller))

-- the load that an item adds at most, by its number: 60 starts, 60 messages, and then broadcasts
abbrev bound : ℕ → ℕ
bound x = cond (nat_lt x 60) 7564 (cond (nat_lt x 120) 8 30256)

-- a start adds at most 7,564
bound_of_start : (x : ℕ) → x < 60 → bound x ≡ 7564
bound_of_start x less = cond-true (nat_lt x 60) 7564 (cond (nat_lt x 120) 8 30256) (lt-ltb x 60 less)

-- a message adds at most 8
bound_of_message : (x : ℕ) → 60 ≤ x → x < 120 → bound x ≡ 8
bound_of_message x at_least less = cond-false (nat_lt x 60) 7564 (cond (nat_lt x 120) 8 30256) (le-ltb x 60 at_least)
    ∙ cond-true (nat_lt x 120) 8 30256 (lt-ltb x 120 less)

-- a broadcast adds at most 30,256
bound_of_broadcast : (x : ℕ) → 120 ≤ x → bound x ≡ 30256
bound_of_broadcast x at_least = cond-false (nat_lt x 60) 7564 (cond (nat_lt x 120) 8 30256) (le-ltb x 60 (omega arith))
    ∙ cond-false (nat_lt x 120) 8 30256 (le-ltb x 120 at_least)

-- the items of a generated graph add at most 514,832 in all
bounds : sum_by bound (numbers_below 122) ≡ 514832
bounds = refl

-- a load `n` that counts only if the test `b` passes is no more than `n`
few_rows : (b : Bool) (n : ℕ) → cond b n 0 ≤ n
few_rows true n = omega arith
few_rows false n = omega arith

-- given the number of a generated graph
module _ (number : ℕ) where
  -- ---- views

  -- a generated graph has at most 7,564 scenarios
  pub few_scenarios : length (scenarios (generated number)) ≤ 7564
  few_scenarios =
      let all = length-scenarios (generated number) in
      let processes = ap (λ n. ways n 2) (processes_count number) ∙ ways_of_processes in
      let few = product_few (2 ^ condition_count (generated number)) (ways (process_count (generated number)) 2)
      (powers_few (condition_count (generated number)) (few_conditions number)) processes in
      subst (λ n. n ≤ 7564) (sym all) few

  -- no reach has more views than there are scenarios
  pub few_views : (reached : List ℕ) → views (generated number) reached ≤ 7564
  few_views reached =
      let all = views_le_scenarios (generated number) reached in
      let processes = ap (λ n. ways n 2) (processes_count number) ∙ ways_of_processes in
      let few = product_few (2 ^ condition_count (generated number)) (ways (process_count (generated number)) 2)
      (powers_few (condition_count (generated number)) (few_conditions number)) processes in
      omega (arith, all, few)

  -- given a reach of values alone
  module _ (reached : List ℕ) (h : (p : ℕ) → p < 128 → is_in reached p ≡ false) where
    -- no process has a count that the reach is free to have
    no_free : (o : List Bool) → free_counts (generated number) reached o ≡ 0
    no_free o = sym
        (length-filter (is_count_free (generated number) reached o) (numbers_below (process_count (generated number))))
        ∙ ap length
        (filter_none (is_count_free (generated number) reached o) (numbers_below (process_count (generated number)))
        (λ p among. let below = numbers-Contains (process_count (generated number)) p among in
        let within : p < 128 = omega (arith, below, processes_count number) in
        ap (λ b. b && active (generated number) o p) (h p within)))

    -- so an outcome has one view
    one_view : (o : List Bool) → views_of_outcome (generated number) reached o ≡ 1
    one_view o = ap (λ n. ways n 2) (no_free o) ∙ ways_of_none 2

    -- A reach of values alone has at most one view for each outcome.
    -- Without fault counts in reach each quiet outcome has one view, and there are at most four outcomes.
    pub views_by_outcome : views (generated number) reached ≤ 4
    views_by_outcome =
        let os = outcomes (condition_count (generated number)) in
        let quiet = filter (is_quiet (generated number) reached) os in
        let sum : views (generated number) reached ≡ length quiet * 1 =
        views-sum (generated number) reached (omega (arith, processes_count number))
        ∙ same_sum_by (views_of_outcome (generated number) reached) (λ o. 1) quiet (λ o k. one_view o) ∙
        sum_by_constant 1 quiet in
        let no_more : length quiet ≤ length os = filter_long (is_quiet (generated number) reached) os in
        let four = outcomes_few (condition_count (generated number)) (few_conditions number) in
        omega (arith, sum, no_more, four)

  -- given an order, and what each item reaches under it
  module _ (order : List ℕ) (r : Reach) (is : IsReach (generated number) order r) where
    -- ---- messages

    -- given an edge
    module _ (e : ℕ) (l : e < edge_count (generated number)) where
      -- the item is that message
      item : item_at (generated number) (message_item (generated number) e) ≡ Message e
      item = item_at-message (generated number) e l

      -- whether it is sent depends on the value of a condition at most
      source_values : AreValues (source_value (generated number) e)
      source_values = either_values (is_some (edge_at (generated number) e).when)
          (map value_variable (option_to_list (condition_of (generated number) (source (generated number) e)))) []
          (values_values (option_to_list (condition_of (generated number) (source (generated number) e)))) none_values

      -- so whether the item of the message is sent does too
      sent_values :
          AreValues (sent_value (generated number) (item_at (generated number) (message_item (generated number) e)))
      sent_values = subst (λ i. AreValues (sent_value (generated number) i)) (sym item) source_values

      -- The send of a message depends on values alone, since generated messages are frozen.
      -- Its reach is the conditions of its producer and the value of its own `when`.
      send_values : is_message (generated number) e ≡ true →
          AreValues (send_reach (generated number) order r (message_item (generated number) e))
      send_values on_bus =
          let item_of_edge = message_item (generated number) e in
          let still = conditions_of (generated number) (producer (generated number) item_of_edge) in
          let moving = end_reach r (producer (generated number) item_of_edge)
          ++ flat_map (reach_of r) (queued_before (generated number) order item_of_edge) in
          let frozen : is_frozen (generated number) item_of_edge ≡ true = ap (is_frozen_item (generated number)) item ∙
          and_from (is_message (generated number) e) (edge_at (generated number) e).frozen on_bus
          (edge_there number e l).frozen in
          append_values (cond (is_frozen (generated number) item_of_edge) (map value_variable still) moving)
          (sent_value (generated number) (item_at (generated number) item_of_edge))
          (first_values (is_frozen (generated number) item_of_edge)
          (map value_variable still) moving frozen (values_values still))
          sent_values

      -- a message within a node isn't sent, so it depends on nothing
      if_sent : (b : Bool) → is_message (generated number) e ≡ b →
          AreValues (cond b (send_reach (generated number) order r (message_item (generated number) e)) [])
      if_sent true e_is = send_values e_is
      if_sent false e_is = none_values

      -- so each message depends on values alone
      reached_values : AreValues (reach_by_item (generated number) order r (message_item (generated number) e)
          (item_at (generated number) (message_item (generated number) e)))
      reached_values =
          subst (λ i. AreValues (reach_by_item (generated number) order r (message_item (generated number) e) i))
          (sym item) (if_sent (is_message (generated number) e) refl)

      -- a message has at most four views, as it is frozen
      pub message_views : views (generated number) (reach_of r (message_item (generated number) e)) ≤ 4
      message_views = views_by_outcome (reach_of r (message_item (generated number) e))
          (λ p h. is.each (message_item (generated number) e) p (omega (arith, l)) ∙ no_count
          (reach_by_item (generated number) order r (message_item (generated number) e)
          (item_at (generated number) (message_item (generated number) e))) reached_values p h)

    -- ---- loads

    -- the load of an item is at most its bound: its views times its rows, by whether it is a start (one row), a
    -- message (at most four views, at most two rows) or a broadcast (at most four rows)
    load_few : (x : ℕ) → x < item_count (generated number) → load (generated number) r x ≤ bound x
    load_few x below =
        let g = generated number in
        let count = processes_count number in
        let edges = edges_count number in
        let all = few_views (reach_of r x) in
        elim (item_cases (generated number) x below) [
          -- a start, in one row
          | inl kind ↦ (let rows = ap (rows_of_item (generated number)) kind.1 in
              let product = product_within (views (generated number) (reach_of r x))
              (rows_of_item (generated number) (item_at (generated number) x)) 7564 1 all (omega (arith, rows)) in
              let most = bound_of_start x (omega (arith, kind.0, count)) in
              omega (arith, product, most))
          -- a message
          | inr (inl kind) ↦ (let rows = ap (rows_of_item (generated number)) kind.3 in
              let two = few_rows (is_message (generated number) kind.0) 2 in
              let four : views (generated number) (reach_of r x) ≤ 4 =
              subst (λ y. views (generated number) (reach_of r y) ≤ 4) (sym kind.2) (message_views kind.0 kind.1) in
              let product = product_within (views (generated number) (reach_of r x)) (rows_of_item (generated number)
              (item_at (generated number) x)) 4 2 four (omega (arith, rows, two)) in
              let most = bound_of_message x (omega (arith, kind.2, count))
              (omega (arith, kind.1, kind.2, count, edges)) in
              omega (arith, product, most))
          -- a broadcast
          | inr (inr kind) ↦ (let rows = ap (rows_of_item (generated number)) kind.3 in
              let four = few_rows (nat_lt 1 4) 4 in
              let product = product_within (views (generated number) (reach_of r x)) (rows_of_item (generated number)
              (item_at (generated number) x)) 7564 4 all (omega (arith, rows, four)) in
              let most = bound_of_broadcast x (omega (arith, kind.2, count, edges)) in
              omega (arith, product, most))
        ]

    -- The loads of the first n items are at most 514,832.
    -- Each load is within its bound, and the bounds of all 122 items add up to this.
    pub loads_up_to : (n : ℕ) → n ≤ item_count (generated number) →
        sum_by (load (generated number) r) (numbers_below n) ≤ 514832
    loads_up_to n few =
        let count = processes_count number in
        let edges = edges_count number in
        let conditions = few_conditions number in
        let within : n ≤ 122 = omega (arith, few, count, edges, conditions) in
        let rest : n + (122 - n) ≡ 122 = omega (arith, within) in
        let each = sum_by-le_each (load (generated number) r) bound (numbers_below n)
        (λ x among. let below = numbers-Contains n x among in load_few x (omega (arith, below, few))) in
        let grown = subst (λ m. sum_by bound (numbers_below n) ≤ sum_by bound (numbers_below m)) rest
        (sums_grow bound n (122 - n)) in
        let total = bounds in
        omega (arith, each, grown, total)

    -- No item has too many views or too great a load.
    -- 7,564 is below 16,384, and 514,832 below 524,288.
    not_wide : (x : ℕ) → x < item_count (generated number) → is_too_wide (generated number) r x ≡ false
    not_wide x below =
        let narrow = few_views (reach_of r x) in
        let light = loads_up_to (x + 1) (omega arith) in
        and_right (nat_lt 0 (rows_of_item (generated number) (item_at (generated number) x)))
        (nat_lt most_views (views (generated number) (reach_of r x))
        || nat_lt most_loads (sum_by (load (generated number) r) (numbers_below (x + 1))))
        (ap₂ ◌||◌ (le-ltb most_views (views (generated number) (reach_of r x)) (omega (arith, narrow)))
        (le-ltb most_loads (sum_by (load (generated number) r) (numbers_below (x + 1))) (omega (arith, light))))

  -- all loads together are at most 514,832
  pub small_loads : (order : List ℕ) (r : Reach) → IsReach (generated number) order r →
      sum_by (load (generated number) r) (numbers_below (item_count (generated number))) ≤ 514832
  small_loads order r is = loads_up_to order r is (item_count (generated number)) (omega arith)

  -- no item of a generated graph is too wide
  pub narrow : (order : List ℕ) → IsNarrow (generated number) order
  narrow order x wide = both_ways (is_too_wide (generated number) wide.reach x)
      (not_wide order wide.reach wide.reached x wide.within) wide.wide
