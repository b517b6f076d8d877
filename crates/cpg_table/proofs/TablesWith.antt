-- Tables of all nodes that have given rows: each item has the columns of its row, and hear rows are those of V10.
use Rattle.std.proofs.Common.{◌≡◌, ℕ, ◌+◌, ◌<◌, ◌≤◌, true, false, List, [], ◌∷◌, ◌++◌, Some, length, take, drop, map}
use Rattle.std.proofs.Common.{slice_get, Contains, refl, sym, ap, ap₂, ◌∙◌, subst, arith, inl, inr, ◌⊎◌}
use Rattle.std.proofs.Common.{true≢false, length-append}
use Rattle.std.proofs.Math.Seq.{take-append_seam, drop-append_seam, get_or-append_seam}
use Rattle.std.proofs.lemmas.Bool.{cases_lt, cases_Bool}
use Rattle.std.proofs.lemmas.List.{length-map, get_or_append_left, get_or_past}
use Rattle.std.proofs.lemmas.List.Elements.{Contains-append_cases}
use Rattle.std.proofs.lemmas.Option.{get_or_from_slice_get, slice_get_within}
use Rattle.cpg_base.specs.Graph.{Graph, process_count, item_count, home, is_sent}
use Rattle.cpg_base.specs.Bus.{slot_length}
use Rattle.cpg_base.specs.Limits.{IsWithinLimits}
use Rattle.cpg_base.specs.WellFormed.{WellFormed}
use Rattle.cpg_base.proofs.Lists.{Contains-map_parts, Contains-first, same_map}
use Rattle.cpg_head.specs.GraphHead.{head_of}
use Rattle.cpg_table.specs.Lawful.{Tables, AreTablesOf}
use Rattle.cpg_table.specs.Shape.{HasShape, items_of, heard_by}
use Rattle.cpg_table.specs.Table.{Row, NodeTable, table_at, empty_table, columns_of}
use Rattle.cpg_cube.specs.declared.column.Column.{Column}
use Rattle.cpg_table.specs.Valid.{later_by, hear_row, hear_rows}
use Rattle.cpg_table.proofs.GraphItems.{hears_are}
use Rattle.cpg_table.proofs.GraphTables.{has_shape}
use Rattle.cpg_table.proofs.Rows.{HasRow, rows_at, row_of, row_columns, has_row, home_within}
use Rattle.cpg_table.specs.Items.{ItemLists, lists_of}
use Rattle.cpg_table.specs.Writing.{row_for, heard_row, AreWritable, IsTableWith, AreNodeTables, AreTablesWith}
use Rattle.cpg_table.proofs.NodeRows.{no_row, long, item_is, start_below, send_below}
use Rattle.cpg_table.proofs.Loads.{tables_le}

-- given that a, b and d, one after another, are x, y and z, and that a is as long as x
module _ {X : Type 0} (a b d x y z : List X) (is : a ++ (b ++ d) ≡ x ++ (y ++ z)) (p : length a ≡ length x) where
  -- the first lists are equal
  first_of : a ≡ x
  first_of = sym (take-append_seam a (b ++ d)) ∙ ap₂ take p is ∙ take-append_seam x (y ++ z)

  -- what comes after the first lists is equal
  rest_of : b ++ d ≡ y ++ z
  rest_of = sym (drop-append_seam a (b ++ d)) ∙ ap₂ drop p is ∙ drop-append_seam x (y ++ z)

  -- given also that b is as long as y
  module _ (q : length b ≡ length y) where
    -- the second lists are equal
    second_of : b ≡ y
    second_of = sym (take-append_seam b d) ∙ ap₂ take q rest_of ∙ take-append_seam y z

    -- the third lists are equal
    third_of : d ≡ z
    third_of = sym (drop-append_seam b d) ∙ ap₂ drop q rest_of ∙ drop-append_seam y z

-- a list that contains nothing is empty
nothing : (cs : List Column) → ((c : Column) → Contains cs c → ⊥) → cs ≡ []
nothing [] none = refl
nothing (c ∷ cs) none = absurd (none c (Contains-first c cs))

-- given: tables that have the writable rows of a graph
-- `within`, `formed`: a well-formed graph within the limits; `rows`, `w`: its writable rows; `tables`, `are`: the
-- tables
module _ (g : Graph) (within : IsWithinLimits g) (formed : WellFormed g) (rows : List Row) (w : AreWritable g rows)
    (tables : List NodeTable) (are : AreNodeTables g rows (length g.nodes) tables) where
  -- the tables are lawful tables under the head of the graph
  pub lawful : AreTablesOf (head_of g) tables
  lawful =
      record { count = are.long; each = λ node l. (are.each node l).table; few = tables_le g within rows tables are w }

  -- lawful tables have the shape that the graph asks for
  shape : HasShape g tables
  shape = has_shape g within tables lawful

  -- the items of a node
  abbrev items : ℕ → ItemLists
  items node = lists_of (head_of g) node

  -- given: a node of the graph
  module _ (node : ℕ) (l : node < length g.nodes) where
    -- rows of some items are as many as the rows that are made for these items
    count_by_items : (row : ℕ → Row) (rs : List Row) (xs : List ℕ) → items_of rs ≡ xs → length rs ≡ length (map row xs)
    count_by_items row rs xs items_are =
        sym (length-map rs (λ (r : Row). r.item)) ∙ ap length items_are ∙ sym (length-map xs row)

    -- a node has a row for each item that it starts
    start_count : length (table_at tables node).starts ≡ length (map (row_for rows) (items node).starts)
    start_count =
        count_by_items (row_for rows) (table_at tables node).starts (items node).starts (are.each node l).table.starts

    -- a node has a row for each item that it sends
    send_count : length (table_at tables node).sends ≡ length (map (row_for rows) (items node).sends)
    send_count =
        count_by_items (row_for rows) (table_at tables node).sends (items node).sends (are.each node l).table.sends

    -- the start rows of a node are the given rows of the items that it starts
    pub starts : (table_at tables node).starts ≡ map (row_for rows) (items node).starts
    starts = first_of (table_at tables node).starts (table_at tables node).sends (table_at tables node).hears
        (map (row_for rows) (items node).starts) (map (row_for rows) (items node).sends)
        (map (heard_row g rows) (items node).hears) (are.each node l).stands start_count

    -- the send rows of a node are the given rows of the items that it sends
    pub sends : (table_at tables node).sends ≡ map (row_for rows) (items node).sends
    sends = second_of (table_at tables node).starts (table_at tables node).sends (table_at tables node).hears
        (map (row_for rows) (items node).starts) (map (row_for rows) (items node).sends)
        (map (heard_row g rows) (items node).hears) (are.each node l).stands start_count send_count

    -- the hear rows of a node are those that are made for the items that it hears
    pub hears : (table_at tables node).hears ≡ map (heard_row g rows) (items node).hears
    hears = third_of (table_at tables node).starts (table_at tables node).sends (table_at tables node).hears
        (map (row_for rows) (items node).starts) (map (row_for rows) (items node).sends)
        (map (heard_row g rows) (items node).hears) (are.each node l).stands start_count send_count

    -- a row among the given rows of some items has the columns of the given row of its item
    from_rows : (xs : List ℕ) → ((x : ℕ) → Contains xs x → x < item_count g) → (rs : List Row) (row : Row) →
        rs ≡ map (row_for rows) xs →
        Contains rs row →
        row.columns ≡ (row_for rows row.item).columns
    from_rows xs below rs row made among =
        let found = Contains-map_parts (row_for rows) xs row (subst (λ qs. Contains qs row) made among) in
        let same : row.item ≡ found.0 =
        ap (λ (r : Row). r.item) (sym found.2) ∙ item_is g rows w found.0 (below found.0 found.1) in
        ap (λ (r : Row). r.columns) (sym found.2) ∙ ap (λ x. (row_for rows x).columns) (sym same)

    -- each start or send row of the node has the columns of the given row of its item
    row_is : (row : Row) → Contains (rows_at tables node) row → row.columns ≡ (row_for rows row.item).columns
    row_is row has = elim (Contains-append_cases (table_at tables node).starts (table_at tables node).sends row has) [
      | inl start ↦ from_rows (items node).starts (start_below g within node) (table_at tables node).starts row starts
          start
      | inr send ↦ from_rows (items node).sends (send_below g within node) (table_at tables node).sends row sends send
    ]

  -- an item that is no process and isn't sent is of neither kind
  neither : (x : ℕ) → process_count g ≤ x → is_sent g x ≡ false → (x < process_count g) ⊎ (is_sent g x ≡ true) → ⊥
  neither x later unsent (inl start) = absurd (omega arith)
  neither x later unsent (inr sent) = true≢false (sym sent ∙ unsent)

  -- an item with a row at its node has the columns of its given row
  stands : (x : ℕ) → HasRow g (home g x) x → columns_of tables x ≡ (row_for rows x).columns
  stands x has =
      let is_node : home g x < length g.nodes = home_within formed shape x has.within in
      let found = row_of formed shape (home g x) x is_node has in
      subst (λ y. columns_of tables y ≡ (row_for rows y).columns) found.2
      (row_columns formed shape (home g x) is_node found.0 found.1 ∙ row_is (home g x) is_node found.0 found.1)

  -- each item of the graph has those columns: it is a process, or sent, or has no column in the tables and none in its
  -- given row
  within_count : (x : ℕ) → x < item_count g → columns_of tables x ≡ (row_for rows x).columns
  within_count x is_item = elim (cases_lt x (process_count g)) [
    | inl start ↦ stands x (record { within = is_item; home = refl; kind = inl start })
    | inr later ↦ elim (cases_Bool (is_sent g x)) [
      | inl sent ↦ stands x (record { within = is_item; home = refl; kind = inr sent })
      | inr unsent ↦ nothing (columns_of tables x)
          (λ c column_there. neither x later unsent (has_row formed shape x c column_there).kind)
          ∙ sym (w.unsent x later is_item unsent)
    ]
  ]

  -- any number has them: one that is no item has no columns, and no given row
  pub columns : (x : ℕ) → columns_of tables x ≡ (row_for rows x).columns
  columns x = elim (cases_lt x (item_count g)) [
    | inl inside ↦ within_count x inside
    | inr past ↦ nothing (columns_of tables x)
        (λ c column_there. let inside = (has_row formed shape x c column_there).within in
        absurd (omega arith))
        ∙ sym (ap (λ (row : Row). row.columns) (get_or_past rows x no_row (omega (arith, past, long g rows w))))
  ]

  -- the hear rows of a node are those of V10: made for what it hears, with the columns of the given rows
  pub heard_rows : (node : ℕ) (u : NodeTable) → slice_get tables node ≡ Some u → u.hears ≡ hear_rows g tables node
  heard_rows node u at_node =
      let is_node : node < length g.nodes = omega (arith, slice_get_within tables node u at_node, are.long) in
      ap (λ (t : NodeTable). t.hears) (sym (get_or_from_slice_get tables node u empty_table at_node))
      ∙ hears node is_node
      ∙ ap (map (heard_row g rows)) (hears_are g within node is_node)
      ∙ same_map (heard_row g rows) (hear_row g tables) (heard_by g node)
      (λ x c. same_row x _ _ (ap (map (later_by (slot_length g (home g x)))) (sym (columns x))))
    where
      same_row : (x : ℕ) (a b : List Column) → a ≡ b →
          (let row : Row = record { item = x; columns = a } in row) ≡ record { item = x; columns = b }
      same_row x a b same = cc

  -- tables under the head of the graph with these node tables are tables with the given rows, as `AreTablesWith` says
  pub tables_with : (t : Tables) → t.head ≡ head_of g → t.nodes ≡ tables → AreTablesWith g rows t
  tables_with t head is = record {
    head = head;
    lawful = subst (AreTablesOf (head_of g)) (sym is) lawful;
    columns = subst (λ ts. (x : ℕ) → columns_of ts x ≡ (row_for rows x).columns) (sym is) columns;
    hears = subst (λ ts. (node : ℕ) (u : NodeTable) → slice_get ts node ≡ Some u → u.hears ≡ hear_rows g ts node)
        (sym is) heard_rows;
  }

-- if the tables of the first n nodes have the given rows, and t is one of node n with them, so are n + 1 with t at the
-- end: before the place n the tables are what they were, and at n it is t
pub table_pushed : (g : Graph) (rows : List Row) (n : ℕ) (tables more : List NodeTable) (t : NodeTable) →
    AreNodeTables g rows n tables → IsTableWith g rows n t →
    more ≡ tables ++ t ∷ [] →
    AreNodeTables g rows (n + 1) more
table_pushed g rows n tables more t were new is = record {
  long = omega (arith, ap length is, length-append tables (t ∷ []), were.long);
  each = λ node within. elim (cases_lt node n) [
    | inl before ↦ subst (IsTableWith g rows node) (sym (ap (λ ts. table_at ts node) is
        ∙ get_or_append_left tables (t ∷ []) empty_table node (omega (arith, before, were.long))))
        (were.each node before)
    | inr last ↦
        let at : node ≡ length tables = omega (arith, within, last, were.long) in
        let here : table_at more node ≡ t = ap₂ table_at is at ∙ get_or-append_seam tables t [] empty_table in
        subst (IsTableWith g rows node) (sym here)
        (subst (λ j. IsTableWith g rows j t) (let same : n ≡ node = omega (arith, within, last) in same) new)
  ];
}
