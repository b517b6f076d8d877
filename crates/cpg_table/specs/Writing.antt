-- A row for each item of a graph, and tables that are made of these rows.
use Rattle.std.specs.Prelude.{ℕ, ◌*◌, ◌^◌, ◌≡◌, ◌≤◌, ◌<◌, Bool, false, not, ◌&&◌, ◌||◌, ◌==◌, nat_lt, List, [], ◌++◌}
use Rattle.std.specs.Prelude.{Some, length, map, filter, get_or, sum_by, slice_get, All}
use Rattle.cpg_base.specs.Numbers.{numbers_below}
use Rattle.cpg_base.specs.declared.limits.TheConstants.{MOST_COLUMNS, MOST_LOAD}
use Rattle.cpg_base.specs.Graph.{Graph, process_count, item_count, item_at, home, is_sent}
use Rattle.cpg_base.specs.Bus.{slot_length}
use Rattle.cpg_cube.specs.Cube.{is_whole}
use Rattle.cpg_base.specs.Variable.{top}
use Rattle.cpg_cube.specs.Fit.{IsCube}
use Rattle.cpg_order.specs.Reach.{rows_of_item}
use Rattle.cpg_head.specs.GraphHead.{head_of}
use Rattle.cpg_table.specs.Items.{ItemLists, lists_of}
use Rattle.cpg_table.specs.Lawful.{Tables, IsTableOf, AreTablesOf, rows_of}
use Rattle.cpg_table.specs.Shape.{items_of}
use Rattle.cpg_table.specs.Table.{Row, NodeTable, table_at, columns_of}
use Rattle.cpg_cube.specs.declared.column.Column.{Column}
use Rattle.cpg_table.specs.Valid.{later_by, hear_rows}

-- the row of item x, if each row is at the number of its item; an empty one if there is none
abbrev pub row_for : List Row → ℕ → Row
row_for rows x = get_or rows x (record { item = 0; columns = [] })

-- the row of item x at a node that hears it: its columns, each later by the sender's slot
abbrev pub heard_row : Graph → List Row → ℕ → Row
heard_row g rows x = record { item = x; columns = map (later_by (slot_length g (home g x))) (row_for rows x).columns }

-- the rows of what a node hears
abbrev pub hears_at : Graph → List Row → ℕ → List Row
hears_at g rows node = map (heard_row g rows) (lists_of (head_of g) node).hears

-- whether a node starts item x (a process on it) or sends it
abbrev pub has_own : Graph → ℕ → ℕ → Bool
has_own g node x = (home g x == node) && (nat_lt x (process_count g) || is_sent g x)

-- those of the rows whose item a node starts or sends
abbrev pub own_rows : Graph → ℕ → List Row → List Row
own_rows g node rows = filter (λ row. has_own g node row.item) rows

-- those of the rows whose item a node neither starts nor sends
abbrev pub other_rows : Graph → ℕ → List Row → List Row
other_rows g node rows = filter (λ row. not (has_own g node row.item)) rows

-- a column that a table may have, also when it is heard later by a slot: so its time is below 2^59, and not only below
-- 2^60
pub record IsWritable (g : Graph) (c : Column) : Type 0 where
  pub time : c.time < 2 ^ 59
  -- the variables are those of the graph, and rise
  pub cube : IsCube g c.cube
  -- no range is empty, goes beyond the numbers of its variable, or has all of them
  pub some : All (λ l. l.low ≤ l.high) c.cube
  pub within : All (λ l. l.high ≤ top g.faults l.variable) c.cube
  pub not_whole : All (λ l. is_whole g.faults l ≡ false) c.cube

-- a row for each item by number, with columns that tables may have: not too many in a row, nor in all rows of all nodes
-- (`loads`: the row of an item counts once for each table that it is in), and none for what isn't sent
pub record AreWritable (g : Graph) (rows : List Row) : Type 0 where
  pub items : items_of rows ≡ numbers_below (item_count g)
  pub lawful : All (λ row. All (IsWritable g) row.columns) rows
  -- not too many columns in a row
  pub few : All (λ row. length row.columns ≤ MOST_COLUMNS) rows
  -- the tables of all nodes don't have too many columns
  pub loads : sum_by (λ x. length (row_for rows x).columns * rows_of_item g (item_at g x))
      (numbers_below (item_count g)) ≤ MOST_LOAD
  -- an item that no node sends has no columns
  pub unsent : (x : ℕ) → process_count g ≤ x → x < item_count g → is_sent g x ≡ false → (row_for rows x).columns ≡ []

-- the rows of a node's items in the order of its table: starts, sends, hears
abbrev pub rows_of_items : Graph → List Row → ItemLists → List Row
rows_of_items g rows items =
    map (row_for rows) items.starts ++ (map (row_for rows) items.sends ++ map (heard_row g rows) items.hears)

-- t is the table of a node, and its rows are those that `rows` gives it
pub record IsTableWith (g : Graph) (rows : List Row) (node : ℕ) (t : NodeTable) : Type 0 where
  pub table : IsTableOf (head_of g) node t
  pub stands : rows_of t ≡ rows_of_items g rows (lists_of (head_of g) node)

-- these are the tables of the first `count` nodes, with the rows that `rows` gives them
pub record AreNodeTables (g : Graph) (rows : List Row) (count : ℕ) (tables : List NodeTable) : Type 0 where
  pub long : length tables ≡ count
  pub each : (node : ℕ) → node < count → IsTableWith g rows node (table_at tables node)

-- lawful tables under the graph's head in which each item has the columns of its row, and each node the hear rows of
-- V10
pub record AreTablesWith (g : Graph) (rows : List Row) (t : Tables) : Type 0 where
  pub head : t.head ≡ head_of g
  pub lawful : AreTablesOf (head_of g) t.nodes
  -- the columns of each item's start row or send row
  pub columns : (x : ℕ) → columns_of t.nodes x ≡ (row_for rows x).columns
  -- each node's hear rows are those that V10 gives
  pub hears : (node : ℕ) (u : NodeTable) → slice_get t.nodes node ≡ Some u → u.hears ≡ hear_rows g t.nodes node
