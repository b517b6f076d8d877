-- What a node is told in a play has room in records: each number fits its field, and a message carries no value.
use Rattle.std.proofs.Common.{◌≡◌, ℕ, ◌+◌, ◌-◌, ◌<◌, ◌≤◌, Bool, true, false, cond, not, ◌||◌, ◌==◌, List, [], ◌∷◌, ◌++◌}
use Rattle.std.proofs.Common.{length, map, get_or, Contains, Option, Some, None, refl, sym, ap, ◌∙◌, subst}
use Rattle.std.proofs.Common.{arith, inl, inr, true≢false, ltb-true, lt-ltb, eq-eqb, ne_eqb}
use Rattle.std.specs.Prelude.{nat_lt}
use Rattle.std.specs.List.{list_any, AllByRecursion}
use Rattle.std.proofs.lemmas.Bool.{cases_eq, cond-true, cond-false, or_parts}
use Rattle.std.proofs.lemmas.List.Elements.{All-contains, Contains-append_right}
use Rattle.cpg_base.specs.declared.item.Item.{Item}
use Rattle.cpg_base.specs.declared.item.Item.TheVariants.{Start, Message, Broadcast}
use Rattle.cpg_base.specs.declared.limits.TheConstants.{MOST_COLUMNS}
use Rattle.cpg_base.specs.Graph.{Graph, process_count, edge_count, condition_count, item_at, node_of}
use Rattle.cpg_base.specs.Limits.{IsWithinLimits}
use Rattle.cpg_base.specs.Numbers.{numbers_below}
use Rattle.cpg_base.proofs.Lists.{Contains-first, Contains-rest, Contains-filter_parts, numbers-Contains}
use Rattle.cpg_head.specs.GraphHead.{head_of}
use Rattle.cpg_table.specs.Table.{Row, NodeTable, table_at, columns_in}
use Rattle.cpg_table.specs.Lawful.{AreTablesOf, IsLawfulRow, rows_of, space_of}
use Rattle.cpg_table.proofs.Told.{Learnt, learnt_true}
use Rattle.cpg_node.specs.Dispatcher.{Dispatcher, Ended, Frame, Act, next, hear_frame, is_contradicted, is_strange}
use Rattle.cpg_node.specs.Dispatcher.{no_column}
use Rattle.cpg_node.proofs.Next.{by}
use Rattle.cpg_cluster.specs.Cluster.{World, Cluster, Answer, Took, Waits, Done as IsDone, own_table, dispatcher_at}
use Rattle.cpg_cluster.specs.Cluster.{answer, frame_of_item, reports_now, reported, frames_now, step}
use Rattle.cpg_cluster.proofs.Nodes.{Played}
use Rattle.cpg_cluster.proofs.Lawful.{frame_fine}
use Rattle.cpg_cluster.proofs.Sending.{frame_parts}
use Rattle.cpg_cluster.proofs.Reporting.{reports_apart, report_is}
use Rattle.cpg_cluster.proofs.Finishing.{may_finish, table_ready}
use Rattle.cpg_cluster.proofs.Reached.{Reached, reached_step, free_from}
use Rattle.cpg_live.specs.declared.event.Event.{Event}
use Rattle.cpg_live.specs.Told.{end_event, frame_event}
use Rattle.cpg_live.specs.Spelling.{HasRoom}
use Rattle.cpg_follow_laws.specs.Follow.{by_time, records_at, records_by, records_in}
use Rattle.cpg_follow_laws.proofs.Reports.{all_may, in_by_time}
use Rattle.cpg_follow_laws.proofs.Follow.{keeps_ready}

-- what holds of what a map gives of each element holds of all its results; by induction on `xs`
all_map : {X Y : Type 0} (P : Y → Type 0) (f : X → Y) (xs : List X) → ((x : X) → Contains xs x → P (f x)) →
    AllByRecursion P (map f xs)
all_map P f [] each = tt
all_map P f (x ∷ xs) each = (
  each x (Contains-first x xs),
  all_map P f xs (λ y there. each y (Contains-rest x xs y there)),
)

-- what holds of all of two lists holds of all of both together; by induction on `xs`
all_append : {X : Type 0} (P : X → Type 0) (xs ys : List X) → AllByRecursion P xs → AllByRecursion P ys →
    AllByRecursion P (xs ++ ys)
all_append P [] ys all k = k
all_append P (x ∷ xs) ys all k = (all.0, all_append P xs ys all.1 k)

-- a frame that isn't strange is of a column that is there: that it isn't is one of the tests of `is_strange`
column_there : (d : Dispatcher) (time : ℕ) (f : Frame) → is_strange d time f ≡ false →
    f.column < length (columns_in d.table.hears f.item)
column_there d time f fails =
    let unknown : Bool = not (list_any (λ (row : Row). row.item == f.item) d.table.hears) in
    let none : Bool = not (nat_lt f.column (length (columns_in d.table.hears f.item))) in
    let other : Bool = not ((get_or (columns_in d.table.hears f.item) f.column no_column).time == time) in
    let tests = or_parts (unknown || none || other) (list_any is_contradicted (hear_frame d.table d.heard f)) fails in
    let first_tests = or_parts unknown none (or_parts (unknown || none) other tests.0).0 in
    ltb-true f.column (length (columns_in d.table.hears f.item))
    (is_true (nat_lt f.column (length (columns_in d.table.hears f.item))) first_tests.1)
  where
    -- if `not b` is false, `b` is true
    is_true : (b : Bool) → not b ≡ false → b ≡ true
    is_true true fails = refl
    is_true false fails = absurd (true≢false fails)

-- if each row has at most the limit of columns, so has the row of each item; by induction on `rows`
columns_few : (rows : List Row) (x : ℕ) → ((row : Row) → Contains rows row → length row.columns ≤ MOST_COLUMNS) →
    length (columns_in rows x) ≤ MOST_COLUMNS
columns_few [] x each = omega arith
columns_few (row ∷ rows) x each = go (row.item == x)
    (columns_few rows x (λ r there. each r (Contains-rest row rows r there)))
  where
    -- by whether the first row is of the item
    go : (b : Bool) → length (columns_in rows x) ≤ MOST_COLUMNS →
        length (cond b row.columns (columns_in rows x)) ≤ MOST_COLUMNS
    go true ih = each row (Contains-first row rows)
    go false ih = ih

-- the frame of act `a` has the item of the act, whatever item `i` it is taken for
frame_item : (w : World) (i : Item) (a : Act) → (frame_of_item w i a).item ≡ a.item
frame_item w (Start p) a = refl
frame_item w (Message e) a = refl
frame_item w (Broadcast c) a = refl

-- if `x` is a start or a message, the frame of an act `a` of it carries the value false
frame_plain : (g : Graph) (w : World) (x : ℕ) (a : Act) → x < process_count g + edge_count g →
    (frame_of_item w (item_at g x) a).value ≡ false
frame_plain g w x a less = go (nat_lt x (process_count g)) (nat_lt x (process_count g + edge_count g))
    (lt-ltb x (process_count g + edge_count g) less)
  where
    -- by whether the item is a start, a message or a broadcast
    go : (b c : Bool) → c ≡ true →
        (frame_of_item w (cond b (Start x)
        (cond c (Message (x - process_count g)) (Broadcast (x - process_count g - edge_count g)))) a).value ≡ false
    go true c holds = refl
    go false true holds = refl
    go false false holds = absurd (true≢false (sym holds))

-- given a node of a play of the tables of a graph within the limits
module _ {g : Graph} {tables : List NodeTable} {w : World} (played : Played g tables w) (within : IsWithinLimits g)
    (of : AreTablesOf (head_of g) tables) (node : ℕ) (inside : node < length g.nodes) where
  -- an event that the node is told has room in a record
  abbrev Fits : ℕ × Event → Type 0
  Fits e = HasRoom (own_table g node (table_at tables node)) e.1

  -- a row that the node hears has no more than MOST_COLUMNS columns, as the row is lawful
  few : (x : ℕ) → length (columns_in (table_at tables node).hears x) ≤ MOST_COLUMNS
  few each = columns_few (table_at tables node).hears each (λ row m.
      (All-contains (IsLawfulRow (space_of (head_of g))) (rows_of (table_at tables node)) row
      (of.each node inside).lawful
      (Contains-append_right (table_at tables node).starts
      ((table_at tables node).sends ++ (table_at tables node).hears) row
      (Contains-append_right (table_at tables node).sends (table_at tables node).hears row m))).few)

  -- given a node that takes its turn at the time
  module _ (c : Cluster) (reached : Reached g tables w c) (time : ℕ) (comes : next (dispatcher_at c node) ≡ Some time)
      (q : answer g c node ≡ Took) where
    -- The record of each frame has room: its item is one of the graph, its column is one of a lawful row, and a message
    -- carries no value.
    frame_fits : (f : Frame) → Contains (frames_now g w c (reported g w (dispatcher_at c node) time) time) f →
        Fits (frame_event time f)
    frame_fits f there =
        let free = free_from played c reached node time q comes in
        let table = table_ready played c reached node inside time comes in
        let arrival = frame_parts played c reached.holds node inside
        (reported g w (dispatcher_at c node) time) table time f there in
        let fine : is_strange (reported g w (dispatcher_at c node) time) time f ≡ false =
        frame_fine played c reached.holds node inside (reported g w (dispatcher_at c node) time) table time f arrival
        (Learnt g tables w.scenario node (by (reached.holds node inside).last))
        (keeps_ready played c reached node inside time comes free) learnt_true in
        let is_there = column_there (reported g w (dispatcher_at c node) time) time f fine in
        let hears : length (columns_in (reported g w (dispatcher_at c node) time).table.hears f.item)
        ≡ length (columns_in (table_at tables node).hears f.item) =
        ap (λ (t : NodeTable). length (columns_in t.hears f.item)) table in
        let item : f.item ≡ arrival.item =
        sym (ap (λ (f : Frame). f.item) arrival.is) ∙ frame_item w (item_at g arrival.item) arrival.act ∙ arrival.of in
        let known : arrival.item < process_count g + edge_count g + condition_count g = arrival.within in (
          omega (arith, item, known, within.few_processes, within.few_edges, within.few_conditions),
          omega (arith, is_there, hears, few f.item),
          λ less. let before : f.item < process_count g + edge_count g = less in
              sym (ap (λ (f : Frame). f.value) arrival.is)
              ∙ frame_plain g w arrival.item arrival.act (omega (arith, item, before)),
        )

    -- The record of each report has room: its process is one of the graph, and its faults are at most k.
    report_fits : (z : ℕ × Ended) → Contains (by_time (reports_now g w (dispatcher_at c node) time)) z →
        Fits (end_event z)
    report_fits z there =
        let is_there = in_by_time (reports_now g w (dispatcher_at c node) time) z there in
        let report = report_is played c reached node inside time z is_there in
        let known : report.process < process_count g = numbers-Contains (process_count g) report.process
        (Contains-filter_parts (λ p. node_of g p == node) (numbers_below (process_count g))
        report.process report.on).0 in
        let may = all_may (reports_now g w (dispatcher_at c node) time) (dispatcher_at c node)
        (may_finish played c reached node inside time comes)
        (reports_apart played c reached node inside time) z is_there in
        let faults : (dispatcher_at c node).table.faults ≡ g.faults =
        ap (λ (d : Dispatcher). d.table.faults) (reached.holds node inside).is in (
          omega (arith, known, report.is, within.few_processes),
          omega (arith, may.few, faults, within.faults),
        )

    -- so has each record of the turn
    turn_fits : AllByRecursion Fits (records_at g w c node time)
    turn_fits = all_append Fits (map end_event (by_time (reports_now g w (dispatcher_at c node) time)))
        (map (frame_event time) (frames_now g w c (reported g w (dispatcher_at c node) time) time))
        (all_map Fits end_event (by_time (reports_now g w (dispatcher_at c node) time)) report_fits)
        (all_map Fits (frame_event time) (frames_now g w c (reported g w (dispatcher_at c node) time) time) frame_fits)

  -- each record of a node in a play has room; by induction on the turns, of which only the node's own have records
  pub all_fit : (turns : List ℕ) (c : Cluster) → Reached g tables w c →
      AllByRecursion Fits (records_in g w c node turns)
  all_fit [] c reached = tt
  all_fit (a ∷ rest) c reached = elim (cases_eq a node) [
    | inl is ↦ subst (λ es. AllByRecursion Fits (es ++ records_in g w (step g w c a) node rest))
        (sym (cond-true (a == node) _ _ (eq-eqb a node is)))
        (subst (λ a. AllByRecursion Fits (records_by g w c a (answer g c a) (next (dispatcher_at c a))
        ++ records_in g w (step g w c a) node rest)) (sym is)
        (all_append Fits (records_by g w c node (answer g c node) (next (dispatcher_at c node)))
        (records_in g w (step g w c node) node rest)
        (here (answer g c node) (next (dispatcher_at c node)) refl refl)
        (all_fit rest (step g w c node) (reached_step played c reached node))))
    | inr ne ↦ subst (λ es. AllByRecursion Fits (es ++ records_in g w (step g w c a) node rest))
        (sym (cond-false (a == node) _ _ (ne_eqb a node ne)))
        (all_fit rest (step g w c a) (reached_step played c reached a))
  ]
    where
      -- by what the node answers: only a node that takes its turn is told something
      here : (ans : Answer) (o : Option ℕ) → answer g c node ≡ ans → next (dispatcher_at c node) ≡ o →
          AllByRecursion Fits (records_by g w c node ans o)
      here Took (Some time) takes comes = turn_fits c reached time comes takes
      here Took None q e = tt
      here (Waits b) o q e = tt
      here IsDone o q e = tt
