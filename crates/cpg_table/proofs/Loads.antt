-- The rows of all nodes together have no more columns than the loads of the items: each item's columns times the rows
-- that it may have.
use Rattle.std.proofs.Common.{◌≡◌, ℕ, ◌+◌, ◌*◌, ◌<◌, ◌≤◌, Bool, true, false, not, ◌&&◌, ◌==◌, nat_lt, cond, List, []}
use Rattle.std.proofs.Common.{◌∷◌, ◌++◌, length, map, filter, sum_by, refl, sym, ap, ap₂, ◌∙◌, subst, arith}
use Rattle.std.proofs.Common.{inl, inr, lt-ltb, le-ltb, append-nil}
use Rattle.std.specs.List.{range_with_len}
use Rattle.std.proofs.lemmas.Bool.{cases_lt}
use Rattle.std.proofs.lemmas.List.{length-map}
use Rattle.std.proofs.lemmas.List.Elements.{filter-append}
use Rattle.std.proofs.lemmas.List.FromFn.{fill_by_all, length-range_with_len}
use Rattle.std.proofs.lemmas.List.Sums.{sum_by-cons, sum_by-append}
use Rattle.std.proofs.Math.Nat.{mul_comm}
use Rattle.cpg_base.specs.Numbers.{numbers_below}
use Rattle.cpg_base.specs.Graph.{Graph, process_count, edge_count, condition_count, item_count, item_at, node_of}
use Rattle.cpg_base.specs.Graph.{source, target, process_of, producer_of_item, home, is_sent, is_sent_item}
use Rattle.cpg_base.specs.Graph.{is_heard_by, is_message, message_item, broadcast_item}
use Rattle.cpg_base.specs.Limits.{IsWithinLimits}
use Rattle.cpg_base.specs.declared.limits.TheConstants.{MOST_LOAD}
use Rattle.cpg_base.specs.declared.item.Item.TheVariants.{Message, Broadcast}
use Rattle.cpg_base.specs.Bus.{slot_length}
use Rattle.cpg_base.proofs.Items.{item_cases, ItemCases, item_at-start, item_at-message, item_at-broadcast}
use Rattle.cpg_base.proofs.Items.{start_not_sent}
use Rattle.cpg_base.proofs.Lists.{numbers-Contains, same_filter, filter_none, from_range}
use Rattle.cpg_base.proofs.Sums.{sum_by-map, same_sum_by, sum_by_zeros, sum_by-le_each, sum_by-add, sum_by_constant}
use Rattle.cpg_base.proofs.Sums.{sum_by-filter, at_place, at_place-other, sum_of_place}
use Rattle.cpg_order.specs.Reach.{rows_of_item}
use Rattle.cpg_table.specs.Lawful.{column_count, rows_of}
use Rattle.cpg_table.specs.Shape.{processes_on}
use Rattle.cpg_table.specs.Table.{Row, NodeTable, table_at, empty_table}
use Rattle.cpg_table.specs.Valid.{later_by}
use Rattle.cpg_head.specs.GraphHead.{head_of}
use Rattle.cpg_table.specs.Items.{ItemLists, starts_of, sends_of, hears_of, lists_of}
use Rattle.cpg_table.specs.Writing.{row_for, heard_row, rows_of_items, AreWritable, AreNodeTables}
use Rattle.cpg_table.proofs.GraphItems.{range-append, starts_are, sends_are, hears_are}

-- ---- what a node has of each item

-- whether the node starts item x
abbrev is_started_on : Graph → ℕ → ℕ → Bool
is_started_on g node x = nat_lt x (process_count g) && (node_of g x == node)

-- whether the node sends item x
abbrev is_sent_from : Graph → ℕ → ℕ → Bool
is_sent_from g node x = is_sent g x && (home g x == node)

-- whether the node hears item x
abbrev is_heard_at : Graph → ℕ → ℕ → Bool
is_heard_at g node x = is_heard_by g node (item_at g x)

-- given: a graph, and a node of it
module _ (g : Graph) (node : ℕ) where
  -- no node sends a start
  start_sent : (p : ℕ) → p < process_count g → is_sent_from g node p ≡ false
  start_sent p is_process = ap (λ b. b && (home g p == node)) (start_not_sent g p is_process)

  -- no node hears a start
  start_heard : (p : ℕ) → p < process_count g → is_heard_at g node p ≡ false
  start_heard p is_process = ap (is_heard_by g node) (item_at-start g p is_process)

  -- what isn't a process isn't started
  late_start : (x : ℕ) → process_count g ≤ x → is_started_on g node x ≡ false
  late_start x past = ap (λ b. b && (node_of g x == node)) (le-ltb x (process_count g) past)

  -- a message isn't started
  message_started : (e : ℕ) → is_started_on g node (message_item g e) ≡ false
  message_started e = late_start (message_item g e) (omega arith)

  -- a node sends a message exactly if its source is on the node and its target isn't
  message_sent : (e : ℕ) → e < edge_count g →
      is_sent_from g node (message_item g e) ≡ (is_message g e && (node_of g (source g e) == node))
  message_sent e is_edge =
      ap (λ i. is_sent_item g i && (node_of g (producer_of_item g i) == node)) (item_at-message g e is_edge)

  -- a node hears a message exactly if its target is on the node and its source isn't
  message_heard : (e : ℕ) → e < edge_count g →
      is_heard_at g node (message_item g e) ≡ (is_message g e && (node_of g (target g e) == node))
  message_heard e is_edge = ap (is_heard_by g node) (item_at-message g e is_edge)

  -- a broadcast isn't started
  broadcast_started : (c : ℕ) → is_started_on g node (broadcast_item g c) ≡ false
  broadcast_started c = late_start (broadcast_item g c) (omega arith)

  -- a node sends a broadcast exactly if the condition's process is on it, and there are two nodes or more
  broadcast_sent : (c : ℕ) →
      is_sent_from g node (broadcast_item g c) ≡ (nat_lt 1 (length g.nodes) && (node_of g (process_of g c) == node))
  broadcast_sent c = ap (λ i. is_sent_item g i && (node_of g (producer_of_item g i) == node)) (item_at-broadcast g c)

  -- a node hears a broadcast exactly if the condition's process is on another node, and there are two nodes or more
  broadcast_heard : (c : ℕ) →
      is_heard_at g node (broadcast_item g c) ≡ (nat_lt 1 (length g.nodes) && not (node_of g (process_of g c) == node))
  broadcast_heard c = ap (is_heard_by g node) (item_at-broadcast g c)

  -- the items that a node starts are the processes on it: among the processes the tests are the same, and no later item
  -- is started (`late_start`)
  starts_whole : filter (is_started_on g node) (numbers_below (item_count g)) ≡ processes_on g node
  starts_whole =
      ap (filter (is_started_on g node)) (ap numbers_below
      (let same : item_count g ≡ process_count g + (edge_count g + condition_count g) = omega arith in same) ∙
      range-append 0 (process_count g) (edge_count g + condition_count g))
      ∙ filter-append (is_started_on g node) (numbers_below (process_count g))
      (range_with_len (0 + process_count g) (edge_count g + condition_count g))
      ∙ ap₂ (λ xs ys. xs ++ ys)
      (same_filter (is_started_on g node) (λ p. node_of g p == node) (numbers_below (process_count g))
      (λ p c.
      ap (λ b. b && (node_of g p == node)) (lt-ltb p (process_count g) (numbers-Contains (process_count g) p c))))
      (filter_none (is_started_on g node) (range_with_len (0 + process_count g) (edge_count g + condition_count g))
      (λ x c.
      late_start x (omega (arith, (from_range (0 + process_count g) (edge_count g + condition_count g) x c).0))))
      ∙ append-nil (processes_on g node)

-- sums of sums may be taken in either order
swapped : {X Y : Type 0} (f : X → Y → ℕ) (xs : List X) (ys : List Y) →
    sum_by (λ x. sum_by (f x) ys) xs ≡ sum_by (λ y. sum_by (λ x. f x y) xs) ys
swapped f [] ys = sym (sum_by_zeros (λ y. sum_by (λ x. f x y) []) ys (λ y c. refl))
swapped f (x ∷ xs) ys = sum_by-cons (λ z. sum_by (f z) ys) x xs ∙ ap (λ n. sum_by (f x) ys + n) (swapped f xs ys)
    ∙ sym (sum_by-add (f x) (λ y. sum_by (λ z. f z y) xs) ys)
    ∙ same_sum_by (λ y. f x y + sum_by (λ z. f z y) xs) (λ y. sum_by (λ z. f z y) (x ∷ xs)) ys
    (λ y c. sym (sum_by-cons (λ z. f z y) x xs))

-- how many columns the rows of some items have, if it is known of each item's row
count_rows : (row : ℕ → Row) (columns : ℕ → ℕ) (xs : List ℕ) → ((x : ℕ) → length (row x).columns ≡ columns x) →
    column_count (map row xs) ≡ sum_by columns xs
count_rows row columns xs each = sum_by-map (λ (r : Row). length r.columns) row xs
    ∙ same_sum_by (λ x. length (row x).columns) columns xs (λ x c. each x)

-- a sum over n places that has v at the place w and 0 elsewhere is at most v
place_le : (w v n : ℕ) → sum_by (λ node. cond (w == node) v 0) (numbers_below n) ≤ v
place_le w v n = elim (cases_lt w n) [
  | inl inside ↦ omega (arith, sum_of_place w v n inside)
  | inr past ↦ omega (
    arith,
    sum_by_zeros (at_place w v) (numbers_below n)
        (λ node c. at_place-other w v node (let is_place = numbers-Contains n node c in
        λ same. omega (arith, is_place, past, same))),
  )
]

-- given: a graph within its limits, and a row for each item
module _ (g : Graph) (within : IsWithinLimits g) (rows : List Row) where
  -- how many columns an item has
  abbrev columns : ℕ → ℕ
  columns x = length (row_for rows x).columns

  -- how many columns a node has in its rows of item x: as often as it starts, sends or hears it
  abbrev at_node : ℕ → ℕ → ℕ
  at_node node x = cond (is_started_on g node x) (columns x) 0
      + (cond (is_sent_from g node x) (columns x) 0 + cond (is_heard_at g node x) (columns x) 0)

  -- The rows of a node have as many columns as the items have at the node in all. Starts, sends and hears are each a filter
  -- of all items, whose sums are added.
  node_count : (node : ℕ) → node < length g.nodes →
      column_count (rows_of_items g rows (lists_of (head_of g) node))
      ≡ sum_by (at_node node) (numbers_below (item_count g))
  node_count node is_node =
      let all : List ℕ = numbers_below (item_count g) in
      let items : ItemLists = lists_of (head_of g) node in
      let started : starts_of (head_of g) node ≡ filter (is_started_on g node) all =
      starts_are g within node ∙ sym (starts_whole g node) in
      let sent : sends_of (head_of g) node ≡ filter (is_sent_from g node) all = sends_are g within node in
      let heard : hears_of (head_of g) node ≡ filter (is_heard_at g node) all = hears_are g within node is_node in
      sum_by-append (λ (r : Row). length r.columns) (map (row_for rows) items.starts)
      (map (row_for rows) items.sends ++ map (heard_row g rows) items.hears)
      ∙ ap₂ ◌+◌ (count_rows (row_for rows) columns items.starts (λ x. refl) ∙ ap (sum_by columns) started
      ∙ sum_by-filter columns (is_started_on g node) all)
      (sum_by-append (λ (r : Row). length r.columns) (map (row_for rows) items.sends)
      (map (heard_row g rows) items.hears)
      ∙ ap₂ ◌+◌ (count_rows (row_for rows) columns items.sends (λ x. refl) ∙ ap (sum_by columns) sent
      ∙ sum_by-filter columns (is_sent_from g node) all)
      (count_rows (heard_row g rows) columns items.hears
      (λ x. length-map (row_for rows x).columns (later_by (slot_length g (home g x)))) ∙ ap (sum_by columns) heard ∙
      sum_by-filter columns (is_heard_at g node) all)
      ∙ sym (sum_by-add (λ x. cond (is_sent_from g node x) (columns x) 0)
      (λ x. cond (is_heard_at g node x) (columns x) 0) all))
      ∙ sym (sum_by-add (λ x. cond (is_started_on g node x) (columns x) 0)
      (λ x. cond (is_sent_from g node x) (columns x) 0 + cond (is_heard_at g node x) (columns x) 0) all)

  -- ---- an item at all nodes

  -- if three tests have the answers x, y and z, so have their counts
  three : (a b d : Bool) (x y z : Bool) (n : ℕ) → a ≡ x → b ≡ y → d ≡ z →
      cond a n 0 + (cond b n 0 + cond d n 0) ≡ cond x n 0 + (cond y n 0 + cond z n 0)
  three a b d x y z n p q r = cc

  -- the numbers of the nodes
  abbrev nodes : List ℕ
  nodes = numbers_below (length g.nodes)

  -- a start has its columns at one node at most, that of its process
  start_le : (p : ℕ) → p < process_count g → sum_by (λ node. at_node node p) nodes ≤ columns p
  start_le p is_process = omega (
    arith,
    place_le (node_of g p) (columns p) (length g.nodes),
    same_sum_by (λ node. at_node node p) (λ node. cond (node_of g p == node) (columns p) 0) nodes
        (λ node c. three (is_started_on g node p) (is_sent_from g node p) (is_heard_at g node p)
        (node_of g p == node) false false (columns p)
        (ap (λ b. b && (node_of g p == node)) (lt-ltb p (process_count g) is_process)) (start_sent g node p is_process)
        (start_heard g node p is_process) ∙ omega arith),
  )

  -- a message has its columns at most at two nodes, its sender and its receiver; an edge within a node has none
  message_by : (e : ℕ) → e < edge_count g → (b : Bool) → is_message g e ≡ b →
      sum_by (λ node. at_node node (message_item g e)) nodes ≤ columns (message_item g e) * cond b 2 0
  message_by e is_edge true answer =
      let item : ℕ = message_item g e in
      omega (
        arith,
        place_le (node_of g (source g e)) (columns item) (length g.nodes),
        place_le (node_of g (target g e)) (columns item) (length g.nodes),
        sum_by-add (λ node. cond (node_of g (source g e) == node) (columns item) 0)
            (λ node. cond (node_of g (target g e) == node) (columns item) 0) nodes,
        same_sum_by (λ node. at_node node item) (λ node. cond (node_of g (source g e) == node) (columns item) 0
            + cond (node_of g (target g e) == node) (columns item) 0) nodes
            (λ node c. three (is_started_on g node item) (is_sent_from g node item) (is_heard_at g node item) false
            (node_of g (source g e) == node) (node_of g (target g e) == node) (columns item)
            (message_started g node e)
            (message_sent g node e is_edge ∙ ap (λ b. b && (node_of g (source g e) == node)) answer)
            (message_heard g node e is_edge ∙ ap (λ b. b && (node_of g (target g e) == node)) answer) ∙
            omega arith),
      )
  message_by e is_edge false answer =
      let item : ℕ = message_item g e in
      omega (
        arith,
        sum_by_zeros (λ node. at_node node item) nodes
            (λ node c. three (is_started_on g node item) (is_sent_from g node item)
            (is_heard_at g node item) false false false (columns item)
            (message_started g node e)
            (message_sent g node e is_edge ∙ ap (λ b. b && (node_of g (source g e) == node)) answer)
            (message_heard g node e is_edge ∙ ap (λ b. b && (node_of g (target g e) == node)) answer)),
      )

  -- a number counts once, by a test or by its opposite
  either : (b : Bool) (n : ℕ) → 0 + (cond b n 0 + cond (not b) n 0) ≡ n
  either true n = omega arith
  either false n = omega arith

  -- a broadcast has its columns once at each node, where it is sent or heard; on a single node it has none
  broadcast_by : (k : ℕ) (b : Bool) → nat_lt 1 (length g.nodes) ≡ b →
      sum_by (λ node. at_node node (broadcast_item g k)) nodes
      ≤ columns (broadcast_item g k) * cond b (length g.nodes) 0
  broadcast_by k true answer =
      let item : ℕ = broadcast_item g k in
      let each : sum_by (λ node. at_node node item) nodes ≡ sum_by (λ node. columns item) nodes =
      same_sum_by (λ node. at_node node item) (λ node. columns item) nodes
      (λ node c. three (is_started_on g node item) (is_sent_from g node item) (is_heard_at g node item) false
      (node_of g (process_of g k) == node) (not (node_of g (process_of g k) == node)) (columns item)
      (broadcast_started g node k)
      (broadcast_sent g node k ∙ ap (λ b. b && (node_of g (process_of g k) == node)) answer)
      (broadcast_heard g node k ∙ ap (λ b. b && not (node_of g (process_of g k) == node)) answer)
      ∙ either (node_of g (process_of g k) == node) (columns item)) in
      let all : sum_by (λ node. columns item) nodes ≡ length g.nodes * columns item =
      sum_by_constant (columns item) nodes ∙ ap (λ n. n * columns item) (length-range_with_len 0 (length g.nodes)) in
      let product : length g.nodes * columns item ≡ columns item * length g.nodes =
      mul_comm (length g.nodes) (columns item) in
      omega (arith, each, all, product)
  broadcast_by k false answer =
      let item : ℕ = broadcast_item g k in
      omega (
        arith,
        sum_by_zeros (λ node. at_node node item) nodes
            (λ node c. three (is_started_on g node item) (is_sent_from g node item)
            (is_heard_at g node item) false false false (columns item)
            (broadcast_started g node k)
            (broadcast_sent g node k ∙ ap (λ b. b && (node_of g (process_of g k) == node)) answer)
            (broadcast_heard g node k ∙ ap (λ b. b && not (node_of g (process_of g k) == node)) answer)),
      )

  -- the columns that an item has at all nodes are at most its columns times the rows that it may have, by its kind: one
  -- row for a start, and as many as nodes start, send or hear it otherwise
  item_le : (x : ℕ) → x < item_count g → ItemCases g x →
      sum_by (λ node. at_node node x) nodes ≤ columns x * rows_of_item g (item_at g x)
  item_le x is_item (inl kind) =
      subst (λ i. sum_by (λ node. at_node node x) nodes ≤ columns x * rows_of_item g i) (sym kind.1)
      (omega (arith, start_le x kind.0))
  item_le x is_item (inr (inl kind)) =
      subst (λ i. sum_by (λ node. at_node node x) nodes ≤ columns x * rows_of_item g i) (sym kind.3)
      (subst (λ y. sum_by (λ node. at_node node y) nodes ≤ columns y * rows_of_item g (Message kind.0)) (sym kind.2)
      (message_by kind.0 kind.1 (is_message g kind.0) refl))
  item_le x is_item (inr (inr kind)) =
      subst (λ i. sum_by (λ node. at_node node x) nodes ≤ columns x * rows_of_item g i) (sym kind.3)
      (subst (λ y. sum_by (λ node. at_node node y) nodes ≤ columns y * rows_of_item g (Broadcast kind.0)) (sym kind.2)
      (broadcast_by kind.0 (nat_lt 1 (length g.nodes)) refl))

  -- the rows of all nodes have at most the columns of each item times its rows: sum by item instead of by node
  pub rows_le : sum_by (λ node. column_count (rows_of_items g rows (lists_of (head_of g) node))) nodes
      ≤ sum_by (λ x. columns x * rows_of_item g (item_at g x)) (numbers_below (item_count g))
  rows_le = omega (
    arith,
    same_sum_by (λ node. column_count (rows_of_items g rows (lists_of (head_of g) node)))
        (λ node. sum_by (at_node node) (numbers_below (item_count g))) nodes
        (λ node c. node_count node (numbers-Contains (length g.nodes) node c)),
    -- the sum by node and then item is that by item and then node
    swapped at_node nodes (numbers_below (item_count g)),
    sum_by-le_each (λ x. sum_by (λ node. at_node node x) nodes) (λ x. columns x * rows_of_item g (item_at g x))
        (numbers_below (item_count g))
        (λ x c. let is_item = numbers-Contains (item_count g) x c in item_le x is_item (item_cases g x is_item)),
  )

  -- tables with writable rows have no more columns than tables may have: they have as many as the rows of their items,
  -- at most what `rows_le` says, and that is within the load of writable rows
  pub tables_le : (tables : List NodeTable) → AreNodeTables g rows (length g.nodes) tables → AreWritable g rows →
      sum_by (λ t. column_count (rows_of t)) tables ≤ MOST_LOAD
  tables_le tables are are_writable = omega (
    arith,
    -- the tables are one for each node
    ap (sum_by (λ t. column_count (rows_of t)))
        (fill_by_all (table_at tables) tables (length g.nodes) empty_table are.long (λ k l. refl)),
    sum_by-map (λ t. column_count (rows_of t)) (table_at tables) nodes,
    -- the rows of each table are those of its node's items
    same_sum_by (λ node. column_count (rows_of (table_at tables node)))
        (λ node. column_count (rows_of_items g rows (lists_of (head_of g) node))) nodes
        (λ node c. ap column_count (are.each node (numbers-Contains (length g.nodes) node c)).stands),
    rows_le,
    are_writable.loads,
  )
