-- The spelling of tables with given rows is the pack of these rows (`spelled`).
use Rattle.std.proofs.Common.{ℕ, ◌<◌, ◌≤◌, ◌≡◌, List, [], ◌∷◌, ◌++◌, length, map, get_or, Contains, Some, arith, refl}
use Rattle.std.proofs.Common.{sym, ap, ap₂, ◌∙◌, subst}
use Rattle.std.specs.Prelude.{slice_get}
use Rattle.std.specs.List.{flat_map}
use Rattle.std.proofs.lemmas.Option.{slice_get-get_or}
use Rattle.std.proofs.lemmas.List.Elements.{Contains-append_left, Contains-append_right}
use Rattle.cpg_base.proofs.Lists.{Contains-first, Contains-rest, numbers-Contains, same_map}
use Rattle.cpg_base.specs.Graph.{Graph, item_count, home}
use Rattle.cpg_base.specs.Bus.{slot_length}
use Rattle.cpg_base.specs.Limits.{IsWithinLimits}
use Rattle.cpg_base.specs.Numbers.{numbers_below}
use Rattle.cpg_base.specs.WellFormed.{WellFormed}
use Rattle.cpg_codec.specs.Spelling.{head_bytes, row_bytes, spelling, table_bytes}
use Rattle.cpg_codec.proofs.Short.{table_parts}
use Rattle.cpg_cube.specs.declared.column.Column.{Column}
use Rattle.cpg_head.specs.GraphHead.{head_of}
use Rattle.cpg_table.specs.Items.{ItemLists, lists_of}
use Rattle.cpg_table.specs.Lawful.{Tables}
use Rattle.cpg_table.specs.Shape.{heard_by, items_of, HasShape}
use Rattle.cpg_table.specs.Table.{NodeTable, Row, columns_of, empty_table, table_at}
use Rattle.cpg_table.specs.Valid.{hear_row, later_by}
use Rattle.cpg_table.specs.Writing.{AreTablesWith, AreWritable, heard_row, row_for}
use Rattle.cpg_table.proofs.GraphItems.{by_place, hears_are}
use Rattle.cpg_table.proofs.GraphTables.{has_shape}
use Rattle.cpg_table.proofs.NodeRows.{item_is}
use Rattle.cpg_table.proofs.Rows.{row_columns, row_parts, rows_at}
use Rattle.cpg_packing.specs.PackBytes.{heard_bytes, items_of_nodes, node_bytes, own_bytes, pack_bytes}

-- to spell by `f` what `h` makes of `xs` is to spell each `x` of it as `f (h x)`
pub flat_mapped : {X Y : Type 0} (f : Y → List ℕ) (h : X → Y) (xs : List X) →
    flat_map f (map h xs) ≡ flat_map (λ x. f (h x)) xs
-- by induction on the list
flat_mapped f h [] = refl
flat_mapped f h (x ∷ xs) = ap (λ bytes. f (h x) ++ bytes) (flat_mapped f h xs)

-- if `f` and `h` spell each element `x` of `xs` alike, they spell the list alike
flat_same : {X : Type 0} (f h : X → List ℕ) (xs : List X) → ((x : X) → Contains xs x → f x ≡ h x) →
    flat_map f xs ≡ flat_map h xs
-- by induction on the list
flat_same f h [] same = refl
flat_same f h (x ∷ xs) same =
    ap₂ ◌++◌ (same x (Contains-first x xs)) (flat_same f h xs (λ y c. same y (Contains-rest x xs y c)))

-- rows `a` and `b` with the same item and the same columns are equal
row_same : (a b : Row) → a.item ≡ b.item → a.columns ≡ b.columns → a ≡ b
row_same a b same_item same_columns =
    ap₂ (λ (x : ℕ) (cs : List Column). let r : Row = record { item = x; columns = cs } in r) same_item same_columns

-- two rows of item `x` with equal columns, `a` and `b`, are equal
heard_same : (x : ℕ) (a b : List Column) → a ≡ b →
    (let row : Row = record { item = x; columns = a } in row) ≡ record { item = x; columns = b }
heard_same x a b equal = cc

-- if each of the rows `rs` is the given row of its item, `rs` are the given rows of their items
mapped : (rows rs : List Row) → ((row : Row) → Contains rs row → row ≡ row_for rows row.item) →
    rs ≡ map (row_for rows) (items_of rs)
-- by induction on the list
mapped rows [] are_given = refl
mapped rows (r ∷ rs) are_given = ap₂ (λ (a : Row) (rest : List Row). a ∷ rest) (are_given r (Contains-first r rs))
    (mapped rows rs (λ row c. are_given row (Contains-rest r rs row c)))

-- given a graph, rows of it that can be written, and the tables with these rows
module _ (g : Graph) (within : IsWithinLimits g) (formed : WellFormed g) (rows : List Row)
    (writable : AreWritable g rows)
    (t : Tables) (are : AreTablesWith g rows t) where
  -- the tables of the nodes
  abbrev tables : List NodeTable
  tables = t.nodes

  -- lawful tables have the shape of the graph
  shape : HasShape g tables
  shape = has_shape g within tables are.lawful

  -- given one node of the graph
  module _ (node : ℕ) (l : node < length g.nodes) where
    -- the node's table
    abbrev table : NodeTable
    table = table_at tables node

    -- the items of the node
    abbrev items : ItemLists
    items = lists_of (head_of g) node

    -- a start or send row of the node is the given row of its item
    own : (row : Row) → Contains (rows_at tables node) row → row ≡ row_for rows row.item
    own row listed =
        let has = row_parts formed shape node l row listed in
        row_same row (row_for rows row.item) (sym (item_is g rows writable row.item has.within))
        (sym (row_columns formed shape node l row listed) ∙ are.columns row.item)

    -- the start rows of the node are the given rows of what it starts
    starts : table.starts ≡ map (row_for rows) items.starts
    starts = mapped rows table.starts (λ row listed. own row (Contains-append_left table.starts table.sends row listed))
        ∙ ap (map (row_for rows)) (are.lawful.each node l).starts

    -- the send rows of the node are the given rows of what it sends
    sends : table.sends ≡ map (row_for rows) items.sends
    sends = mapped rows table.sends (λ row listed. own row (Contains-append_right table.starts table.sends row listed))
        ∙ ap (map (row_for rows)) (are.lawful.each node l).sends

    -- the node has a table
    there : slice_get tables node ≡ Some table
    there = slice_get-get_or tables node empty_table (omega (arith, are.lawful.count, l))

    -- the hear rows of the node are the given rows of what it hears, each later by the sender's slot
    hears : table.hears ≡ map (heard_row g rows) items.hears
    hears = are.hears node table there
        ∙ same_map (hear_row g tables) (heard_row g rows) (heard_by g node)
        (λ x c. heard_same x _ _ (ap (map (later_by (slot_length g (home g x)))) (are.columns x)))
        ∙ ap (map (heard_row g rows)) (sym (hears_are g within node l))

    -- so the bytes of its table are those of its items' rows
    bytes : table_bytes table ≡ node_bytes g rows items
    bytes = table_parts table
        ∙ ap₂ (λ (a b : List ℕ). a ++ b)
        (ap (flat_map row_bytes) starts ∙ flat_mapped row_bytes (row_for rows) items.starts)
        (ap₂ (λ (a b : List ℕ). a ++ b)
        (ap (flat_map row_bytes) sends ∙ flat_mapped row_bytes (row_for rows) items.sends)
        (ap (flat_map row_bytes) hears ∙ flat_mapped row_bytes (heard_row g rows) items.hears))

  -- and the bytes of all tables are those of the rows of each node
  all_nodes : flat_map table_bytes tables ≡ flat_map (node_bytes g rows) (items_of_nodes g)
  all_nodes = ap (flat_map table_bytes)
      (by_place tables empty_table ∙ ap (λ n. map (table_at tables) (numbers_below n)) are.lawful.count)
      ∙ flat_mapped table_bytes (table_at tables) (numbers_below (length g.nodes))
      ∙ flat_same (λ node. table_bytes (table_at tables node)) (λ node. node_bytes g rows (lists_of (head_of g) node))
      (numbers_below (length g.nodes))
      (λ node c. bytes node (numbers-Contains (length g.nodes) node c))
      ∙ sym (flat_mapped (node_bytes g rows) (lists_of (head_of g)) (numbers_below (length g.nodes)))

  -- with the head before them, the spelling of the tables is the pack of the rows
  pub spelled : spelling t ≡ pack_bytes g rows
  spelled = ap₂ (λ (a b : List ℕ). a ++ b) (ap head_bytes are.head) all_nodes
