-- Tables of carrying rows have the times of the runs, and are supported: what is carried is known.
use Rattle.std.proofs.Common.{ℕ, ◌<◌, ◌≤◌, ◌≡◌, ◌==◌, true, false, List, length, filter, Contains, All, Option, arith}
use Rattle.std.proofs.Common.{refl, sym, ap, ◌∙◌, subst, inl, inr, lt-ltb}
use Rattle.std.proofs.lemmas.Bool.{and_parts, and_from, not_from_false, eqb-false}
use Rattle.std.proofs.lemmas.List.Elements.{All-contains, Contains-append_left}
use Rattle.cpg_base.specs.Graph.{Graph, process_count, condition_count, item_count, item_at, node_of, is_sent}
use Rattle.cpg_base.specs.Graph.{is_sent_item, is_heard_by, message_item, broadcast_item, producer, process_of}
use Rattle.cpg_base.specs.Graph.{value_variable}
use Rattle.cpg_base.specs.declared.item.Item.TheVariants.{Message, Broadcast}
use Rattle.cpg_base.specs.Activity.{active, live, item_active}
use Rattle.cpg_base.specs.Numbers.{numbers_below}
use Rattle.cpg_base.proofs.Lists.{Contains-map, Contains-map_parts, Contains-filter, Contains-filter_parts}
use Rattle.cpg_base.proofs.Lists.{numbers-Contains}
use Rattle.cpg_base.proofs.Items.{item_cases, item_at-start, item_at-broadcast, process_of_below, producer_within}
use Rattle.cpg_order.specs.Deciding.{decides}
use Rattle.cpg_base.specs.Scenario.{Scenario, IsScenario, number_of}
use Rattle.cpg_base.specs.Order.{place}
use Rattle.cpg_order.proofs.Queues.{queued_parts}
use Rattle.cpg_cube.specs.declared.literal.Literal.{Literal}
use Rattle.cpg_cube.specs.Cube.{matches, is_whole, low_in, high_in}
use Rattle.cpg_base.specs.Variable.{top}
use Rattle.cpg_cube.specs.Fit.{IsCube}
use Rattle.cpg_table.specs.Heard.{exactly, matching, kept_low, kept_high}
use Rattle.cpg_table.specs.Table.{NodeTable, columns_of}
use Rattle.cpg_cube.specs.declared.column.Column.{Column}
use Rattle.cpg_cube.specs.Column.{times_in}
use Rattle.cpg_run.specs.Exact.{HasRunTimes}
use Rattle.cpg_run.specs.Laws.{AreRunTables}
use Rattle.cpg_run.specs.Supported.{Supported, known, known_by_item, known_at_start, known_at_end, up_to}
use Rattle.cpg_run.proofs.Awaited.{earlier_parts, up_to_itself, up_to_parts, up_to_cases, await_broadcast}
use Rattle.cpg_run.proofs.Awaited.{producer_up_to}
use Rattle.cpg_run.proofs.Hearing.{kept_grows}
use Rattle.cpg_run.proofs.KnownRanges.{supported_from_ranges}
use Rattle.cpg_run.proofs.Supports.{known_value, known_input, known_count, known_own_value, known_frame, known_end}
use Rattle.cpg_run.proofs.Supports.{known_by_end, told_cube, told_count, a_match, start_grows}
use Rattle.cpg_run.specs.Carried.{row_at, number_known, carried, carried_by_item}
use Rattle.cpg_run.specs.Carrying.{AreTablesCarrying}
use Rattle.cpg_run.proofs.CarriedFrom.{FromRow, FromValue, FromProcess, by_value, by_broadcast, by_message, by_count}
use Rattle.cpg_run.proofs.CarriedFrom.{FromStart, own, more, FromEnd, from_start, its_count, FromSent, FromQueued}
use Rattle.cpg_run.proofs.CarriedFrom.{left_value, left_sent, left_end, FromSend, of_producer, of_queue, of_end}
use Rattle.cpg_run.proofs.CarriedFrom.{of_value, sent_variable, from_start_of, from_send_of}
use Rattle.cpg_run.proofs.CarryingTimed.{carrying_times, carrying_active}
use Rattle.cpg_run.proofs.SameSends.{producer_active}

-- given: tables whose columns are carrying rows
-- `z`: the columns of the tables are the rows, and each row carries no more than it may.
module _ (g : Graph) (urgency order : List ℕ) (frozen : List (Option ℕ)) (rows : List (List Column))
    (tables : List NodeTable) (z : AreTablesCarrying g urgency order frozen rows tables) where
  -- such tables have the times of the runs
  pub run_times : HasRunTimes g order frozen tables
  run_times s t x law run =
      ap (λ cs. times_in cs s) (z.columns x) ∙ carrying_times g urgency order frozen z.timed rows z.found x s t law run

  -- tables of carrying rows have the times of the runs, so the laws on such tables apply to them
  pub run_tables : AreRunTables g order frozen tables
  run_tables = record {
    formed = z.timed.admitted.formed;
    topological = z.timed.admitted.topological;
    frozen_times = z.timed.frozen_times;
    times = run_times;
  }

  -- given: a scenario s of the graph
  module _ (s : Scenario) (law : IsScenario g s) where
    -- the column that a literal comes from is one that matches
    row_column : (y : ℕ) (m : Literal) → (f : FromRow g order rows s y m) → Contains (matching tables s y) f.column
    row_column y m f = Contains-filter (λ (c : Column). matches c.cube s) (columns_of tables y) f.column f.matched
        (subst (λ cs. Contains cs f.column) (sym (z.columns y)) f.stands)

    -- the value of a condition that decides a process up to p on its node is known at the start of p
    value_known : (p q : ℕ) (m : Literal) → p < process_count g → Contains (up_to g order p) q →
        FromValue g order rows s q m →
        Contains (known_at_start g order tables s p) m
    value_known p q m below among f = subst (Contains (known_at_start g order tables s p)) (sym f.is)
        (known_value g order frozen tables run_tables s law urgency z.timed.admitted.urgent p q f.condition below among
        f.decides)

    -- What a process q up to p on its node gives to the start of p is known at that start, by its kind: a value, as it decides q;
    -- what a broadcast or a message told, as the start waits for that frame; the count of q, as q has ended.
    process_known : (p q : ℕ) (m : Literal) → p < process_count g → Contains (up_to g order p) q →
        FromProcess g order rows s p q m →
        Contains (known_at_start g order tables s p) m
    process_known p q m below up_to_p (by_value origin) = value_known p q m below up_to_p origin
    process_known p q m below up_to_p (by_broadcast origin) =
        let c : ℕ = origin.condition in
        let up = up_to_parts g order z.timed.admitted.topological p q below up_to_p in
        let n = numbers-Contains (condition_count g) c
        (Contains-filter_parts (decides g s.values q) (numbers_below (condition_count g)) c origin.decides).0 in
        let far : (node_of g (process_of g c) == node_of g p) ≡ false =
        subst (λ k. (node_of g (process_of g c) == k) ≡ false) up.node origin.other in
        -- two nodes differ, so the broadcast goes over the bus, and the node of p hears it
        let two : 1 < length g.nodes = omega (
          arith,
          eqb-false (node_of g (process_of g c)) (node_of g p) far,
          z.timed.admitted.formed.nodes p below,
          z.timed.admitted.formed.nodes (process_of g c) (process_of_below g c n),
        ) in
        let heard = ap (is_heard_by g (node_of g p)) (item_at-broadcast g c)
        ∙ and_from _ _ (lt-ltb 1 (length g.nodes) two) (not_from_false _ far) in
        known_frame g order tables s p (broadcast_item g c) m
        (await_broadcast g order s p (broadcast_item g c) q c up_to_p origin.decides refl heard)
        (told_cube g order tables s (broadcast_item g c) origin.row.column m
        (row_column (broadcast_item g c) m origin.row) origin.row.literal)
    process_known p q m below up_to_p (by_message on free origin) =
        known_input g order frozen tables run_tables s law p q origin.edge origin.row.column m below up_to_p on
        origin.input origin.message
        (row_column (message_item g origin.edge) m origin.row) origin.row.literal
    process_known p q m below up_to_p (by_count before on is) =
        let n = (up_to_parts g order z.timed.admitted.topological p q below up_to_p).within in
        let c = a_match g order frozen tables run_tables s law q (omega (arith, n))
        (ap (item_active g s.values) (item_at-start g q n) ∙ on) in
        subst (Contains (known_at_start g order tables s p)) (sym is)
        (known_end g order tables s p q (exactly q (number_of s q)) before (told_count g order tables s q c.0 c.1))

    -- what is carried beside a start is known at the start
    start_known : (p : ℕ) (m : Literal) → p < process_count g → FromStart g order rows s p m →
        Contains (known_at_start g order tables s p) m
    start_known p m below (own f) = value_known p p m below (up_to_itself g order z.timed.admitted.topological p) f
    start_known p m below (more f) = process_known p f.process m below f.stands f.told

    -- what is carried beside an end is known at the end
    end_known : (p : ℕ) (m : Literal) → p < process_count g → active g s.values p ≡ true → FromEnd g order rows s p m →
        Contains (known_at_end g order tables s p) m
    end_known p m below on (from_start f) =
        Contains-append_left (known_at_start g order tables s p) _ m (start_known p m below f)
    end_known p m below on (its_count is) = subst (Contains (known_at_end g order tables s p)) (sym is)
        (known_count g order frozen tables run_tables s law p below on)

    -- the value by which an item is sent is known at the end of its producer
    sent_known : (x : ℕ) (m : Literal) → active g s.values (producer g x) ≡ true → FromSent g order rows s x m →
        Contains (known_at_end g order tables s (producer g x)) m
    sent_known x m on from_sent =
        let its_condition = sent_variable g x from_sent.variable from_sent.stands in
        let own_known = known_own_value g order frozen tables run_tables s law its_condition.0 its_condition.1
        (subst (λ p. active g s.values p ≡ true) (sym its_condition.3) on) in
        subst (Contains (known_at_end g order tables s (producer g x)))
        (ap (number_known s) (sym its_condition.2) ∙ sym from_sent.is)
        (subst (λ p. Contains (known_at_end g order tables s p)
        (exactly (value_variable its_condition.0) (number_of s (value_variable its_condition.0)))) its_condition.3 own_known)

    -- what is known at the end of a process up to p on its node is known at the end of p
    end_grows : (p q : ℕ) (m : Literal) → Contains (up_to g order p) q → Contains (known_at_end g order tables s q) m →
        Contains (known_at_end g order tables s p) m
    unfolding run_tables
    end_grows p q m q_among m_among = elim (up_to_cases g order z.timed.admitted.topological p q q_among) [
      | inl before ↦ Contains-append_left (known_at_start g order tables s p) _ m
          (start_grows g order frozen tables run_tables s law p q m
          (earlier_parts g order z.timed.admitted.topological p q before) m_among)
      | inr is ↦ subst (λ p. Contains (known_at_end g order tables s p) m) (sym is) m_among
    ]

    -- what an item of a process up to p leaves to those behind it is known at the end of p
    queued_known : (p y : ℕ) (m : Literal) → p < process_count g → producer g y < process_count g →
        Contains (up_to g order p) (producer g y) →
        FromQueued g order rows s y m →
        Contains (known_at_end g order tables s p) m
    queued_known p y m p_below y_below among (left_value f) =
        Contains-append_left (known_at_start g order tables s p) _ m (value_known p (producer g y) m p_below among f)
    queued_known p y m p_below y_below among (left_sent on f) = end_grows p (producer g y) m among (sent_known y m on f)
    queued_known p y m p_below y_below among (left_end on free f) =
        end_grows p (producer g y) m among
        (end_known (producer g y) m y_below (producer_active g s.values (item_at g y) on) f)

    -- what is carried beside a send is known at the end of its producer
    send_known : (x : ℕ) (m : Literal) → x < item_count g → is_sent g x ≡ true →
        item_active g s.values (item_at g x) ≡ true →
        FromSend g order rows s x m →
        Contains (known_at_end g order tables s (producer g x)) m
    send_known x m below on_bus on (of_producer origin value) = Contains-append_left
        (known_at_start g order tables s (producer g x)) _ m
        (value_known (producer g x) (producer g x) m (producer_within g z.timed.admitted.formed x below)
        (up_to_itself g order z.timed.admitted.topological (producer g x)) value)
    send_known x m below on_bus on (of_queue free y in_queue origin) =
        let queued_one = queued_parts g order z.timed.admitted.topological x y below on_bus in_queue in
        queued_known (producer g x) y m (producer_within g z.timed.admitted.formed x below)
        (producer_within g z.timed.admitted.formed y queued_one.within)
        (producer_up_to g order z.timed.admitted.topological x y below queued_one.within queued_one.home
        queued_one.less) origin
    send_known x m below on_bus on (of_end free origin) = end_known (producer g x) m
        (producer_within g z.timed.admitted.formed x below)
        (producer_active g s.values (item_at g x) on) origin
    send_known x m below on_bus on (of_value origin) = sent_known x m
        (producer_active g s.values (item_at g x) on) origin

    -- all that is carried beside the time of an active item is known by then: by whether it is a start, a message or a broadcast
    pub carried_is_known : (x : ℕ) (m : Literal) → x < item_count g → item_active g s.values (item_at g x) ≡ true →
        Contains (carried g order rows s x) m →
        Contains (known g order tables s x) m
    carried_is_known x m below on among = elim (item_cases g x below) [
      | inl kind ↦ subst (λ i. Contains (known_by_item g order tables s i) m) (sym kind.1)
          (start_known x m kind.0 (from_start_of g order rows s z.timed.admitted.topological x m
          (sym (ap (item_active g s.values) kind.1) ∙ on)
          (subst (λ i. Contains (carried_by_item g order rows s x i) m) kind.1 among)))
      | inr (inl kind) ↦
          let on_bus : is_sent g x ≡ true = ap (is_sent_item g) kind.3 ∙ (and_parts (is_sent_item g (Message kind.0))
          (live g s.values kind.0) (sym (ap (item_active g s.values) kind.3) ∙ on)).0 in
          known_by_end g order frozen tables run_tables s law x m on_bus
          (send_known x m below on_bus on (from_send_of g order rows s z.timed.admitted.topological x m on
          (subst (λ i. Contains (carried_by_item g order rows s x i) m) kind.3 among)))
      | inr (inr kind) ↦
          let on_bus : is_sent g x ≡ true = ap (is_sent_item g) kind.3 ∙ (and_parts (is_sent_item g (Broadcast kind.0))
          (active g s.values (process_of g kind.0)) (sym (ap (item_active g s.values) kind.3) ∙ on)).0 in
          known_by_end g order frozen tables run_tables s law x m on_bus
          (send_known x m below on_bus on (from_send_of g order rows s z.timed.admitted.topological x m on
          (subst (λ i. Contains (carried_by_item g order rows s x i) m) kind.3 among)))
    ]

  -- In each scenario the literals of a column that matches are supported by what its node knows. The column's ranges contain those
  -- that the carried literals leave, and as all these are known, those that the known ones leave.
  pub supported : Supported g order tables
  supported s law x below c in_table =
      let parts = Contains-filter_parts (λ (c : Column). matches c.cube s) (columns_of tables x) c in_table in
      let here : Contains (row_at rows x) c = subst (λ cs. Contains cs c) (z.columns x) parts.0 in
      let on = (carrying_active g urgency order frozen z.timed rows z.found x c here s law parts.1).1 in
      let row = z.found.each x below in
      supported_from_ranges g.faults (known g order tables s x) c.cube
      (All-contains (λ (c : Column). IsCube g c.cube) (row_at rows x) c row.cubes here).rising
      (λ k d n. (
        All-contains (λ (c : Column). All (λ (l : Literal). is_whole g.faults l ≡ false) c.cube)
            (row_at rows x) c row.not_whole here k d n,
        All-contains (λ (c : Column). All (λ (l : Literal). l.high ≤ top g.faults l.variable) c.cube)
            (row_at rows x) c row.within here k d n,
      ))
      (λ v.
      let kept = row.carries s c law here parts.1 in
      let more = kept_grows g.faults (carried g order rows s x) (known g order tables s x)
      (λ m is_carried. carried_is_known s law x m below on is_carried) v in
      (omega (arith, kept.low v, more.0), omega (arith, kept.high v, more.1)))
