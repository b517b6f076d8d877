-- Rows that tables may have fit the fields of a pack; the items of nodes are items of the graph; and the bytes of a row
-- whose columns are later by a delay are the number of its columns and these.
use Rattle.std.proofs.Common.{ℕ, ◌+◌, ◌<◌, ◌≤◌, ◌≡◌, List, [], ◌∷◌, ◌++◌, length, map, get_or, All, Contains, arith}
use Rattle.std.proofs.Common.{refl, sym, ap, ap₂, ◌∙◌, subst, inl, inr}
use Rattle.std.specs.List.{flat_map}
use Rattle.std.specs.Int.{w16, to_be_bytes}
use Rattle.std.proofs.lemmas.List.{get_or_default, length-map}
use Rattle.std.proofs.lemmas.List.Elements.{All-contains, All-weaker, Contains-get_or}
use Rattle.cpg_base.specs.Graph.{Graph, IsVariable, home, item_count}
use Rattle.cpg_base.specs.Bus.{slot_length}
use Rattle.cpg_base.specs.Limits.{IsWithinLimits}
use Rattle.cpg_base.specs.Numbers.{numbers_below}
use Rattle.cpg_base.proofs.Lists.{numbers-Contains, Contains-map_parts}
use Rattle.cpg_codec.specs.Spelling.{column_bytes, row_bytes}
use Rattle.cpg_cube.specs.declared.literal.Literal.{Literal}
use Rattle.cpg_cube.specs.declared.column.Column.{Column}
use Rattle.cpg_cube.specs.Fit.{IsCube}
use Rattle.cpg_head.specs.GraphHead.{head_of}
use Rattle.cpg_table.specs.Items.{ItemLists, lists_of}
use Rattle.cpg_table.specs.Table.{Row}
use Rattle.cpg_table.specs.Valid.{later_by}
use Rattle.cpg_table.specs.Writing.{AreWritable, IsWritable, row_for}
use Rattle.cpg_table.proofs.NodeRows.{hear_below, no_row, send_below, start_below}
use Rattle.cpg_packing.specs.Packable.{IsPackable, IsPackableRow}
use Rattle.cpg_packing.specs.PackBytes.{AreItemsWithin, items_of_nodes, later_bytes}
use Rattle.cpg_tree_columns.proofs.PathRoom.{few_below}
use Rattle.cpg_packing.proofs.Spelled.{flat_mapped}

-- given a graph within its limits
module _ (g : Graph) (within : IsWithinLimits g) where
  -- a variable of a graph is below 160: 128 counts and 32 values
  small : (v : ℕ) → IsVariable g v → v < 160
  small v (inl p) = omega (arith, p, within.few_processes)
  small v (inr (from, p)) = omega (arith, p, within.few_conditions)

  -- so a cube, whose variables rise, has at most 255 literals
  short_cube : (cube : List Literal) → IsCube g cube → length cube ≤ 255
  short_cube cube is =
      omega (
        arith,
        few_below cube 160 is.rising (All-weaker (λ (l : Literal). IsVariable g l.variable) (λ l. l.variable < 160)
            (λ l known. small l.variable known) cube is.known),
      )

  -- writable rows fit the fields of a pack
  pub packable_rows : (rows : List Row) → AreWritable g rows → All IsPackableRow rows
  packable_rows rows writable i d inside = record {
    few = writable.few i d inside;
    columns =
        All-weaker (IsWritable g) IsPackable (λ c is. record { time = is.time; short = short_cube c.cube is.cube })
        (get_or rows i d).columns (writable.lawful i d inside);
  }

  -- what a node starts, sends and hears under the head are items of the graph
  items_within : (node : ℕ) → node < length g.nodes → AreItemsWithin g (lists_of (head_of g) node)
  items_within node below = record {
    starts = from_each (lists_of (head_of g) node).starts (start_below g within node);
    sends = from_each (lists_of (head_of g) node).sends (send_below g within node);
    hears = from_each (lists_of (head_of g) node).hears (hear_below g within node below);
  }
    where
      -- if each element of `xs` is an item of the graph, so is the element at each place
      from_each : (xs : List ℕ) → ((x : ℕ) → Contains xs x → x < item_count g) → All (λ x. x < item_count g) xs
      from_each xs are_items i d inside = are_items (get_or xs i d) (Contains-get_or xs i d inside)

  -- the items of every node are items of the graph
  pub nodes_within : All (AreItemsWithin g) (items_of_nodes g)
  nodes_within i d inside =
      let node = Contains-map_parts (lists_of (head_of g)) (numbers_below (length g.nodes))
      (get_or (items_of_nodes g) i d)
      (Contains-get_or (items_of_nodes g) i d inside) in
      subst (AreItemsWithin g) node.2 (items_within node.0 (numbers-Contains (length g.nodes) node.0 node.1))

-- ---- the bytes of a row whose columns are later

-- the bytes of a row whose columns are later by a delay are the number of its columns and these, each later
pub row_later : (item delay : ℕ) (columns : List Column) →
    to_be_bytes w16 (length columns) ++ later_bytes delay columns
    ≡ (let row : Row = record { item = item; columns = map (later_by delay) columns } in row_bytes row)
row_later item delay columns = ap₂ (λ (n : ℕ) (bytes : List ℕ). to_be_bytes w16 n ++ bytes)
    (sym (length-map columns (later_by delay))) (sym (flat_mapped column_bytes (later_by delay) columns))

-- a column with the cube of `c` and an equal time `t` is the same column
same_column : (c : Column) (t : ℕ) → t ≡ c.time → (let d : Column = record { time = t; cube = c.cube } in d) ≡ c
same_column c t same_time = ap (λ (x : ℕ). let d : Column = record { time = x; cube = c.cube } in d) same_time

-- columns that are later by nothing are the same columns
later_none : (columns : List Column) → map (later_by 0) columns ≡ columns
-- by induction on the list
later_none [] = refl
later_none (c ∷ cs) =
    ap₂ (λ (d : Column) (ds : List Column). d ∷ ds) (same_column c (c.time + 0) (omega arith)) (later_none cs)

-- the bytes of the row at place x, later by nothing, are those of the row of x
pub own_row : (rows : List Row) (x : ℕ) (row : Row) → row ≡ get_or rows x row → x < length rows →
    (let later : Row = record { item = row.item; columns = map (later_by 0) row.columns } in
    row_bytes later) ≡ row_bytes (row_for rows x)
own_row rows x row is inside =
    let bytes = λ (cs : List Column). to_be_bytes w16 (length cs) ++ flat_map column_bytes cs in
    ap bytes (later_none row.columns) ∙ ap row_bytes (is ∙ get_or_default rows x row no_row inside)

-- the bytes of the row at place x, later by a delay, are those of the row that is heard of x with that delay
pub heard_row_bytes : (rows : List Row) (x delay other : ℕ) (row : Row) → row ≡ get_or rows x row → x < length rows →
    delay ≡ other →
    (let later : Row = record { item = row.item; columns = map (later_by delay) row.columns } in row_bytes later)
    ≡ (let later : Row = record { item = x; columns = map (later_by other) (row_for rows x).columns } in
    row_bytes later)
heard_row_bytes rows x delay other row is inside same =
    let bytes = λ (cs : List Column). to_be_bytes w16 (length cs) ++ flat_map column_bytes cs in
    ap bytes
    (ap₂ (λ d cs. map (later_by d) cs) same
    (ap (λ (r : Row). r.columns) (is ∙ get_or_default rows x row no_row inside)))
