-- Tables exist: an order has rows, these are within the limits, and they are written node by node.
use Rattle.std.proofs.Common.{◌≡◌, ◌∙◌, ℕ, ◌<◌, List, [], ◌∷◌, length, map, Contains, arith, refl, sym, ap, ap₂, subst}
use Rattle.std.proofs.Common.{ext_get_or}
use Rattle.std.proofs.lemmas.List.{length-map, get_or-map}
use Rattle.std.proofs.lemmas.List.FromFn.{length-map-range_with_len}
use Rattle.cpg_base.specs.Graph.{Graph}
use Rattle.cpg_base.specs.Limits.{IsWithinLimits}
use Rattle.cpg_base.specs.Numbers.{numbers_below}
use Rattle.cpg_base.specs.WellFormed.{WellFormed}
use Rattle.cpg_base.proofs.Lists.{Contains-first, Contains-rest, get_or-map-below}
use Rattle.cpg_cube.specs.declared.column.Column.{Column}
use Rattle.cpg_head.specs.GraphHead.{head_of}
use Rattle.cpg_table.specs.Items.{first_broadcast, own_of, starts_of, sends_of, hears_of, lists_of}
use Rattle.cpg_table.specs.Lawful.{Tables, AreRowsOf}
use Rattle.cpg_table.specs.Shape.{items_of}
use Rattle.cpg_table.specs.Table.{Row, NodeTable, empty_table}
use Rattle.cpg_table.specs.Writing.{row_for, heard_row, rows_of_items, AreWritable, AreNodeTables, AreTablesWith}
use Rattle.cpg_table.specs.Writing.{IsTableWith}
use Rattle.cpg_table.proofs.NodeRows.{are_rows, item_is, start_below, send_below}
use Rattle.cpg_table.proofs.TablesWith.{tables_with}
use Rattle.cpg_reach.proofs.Narrow.{none_too_wide}
use Rattle.cpg_run.specs.Carried.{row_at}
use Rattle.cpg_run.specs.Found.{columns_of_rows, AreRowsFound, DoRowsFit}
use Rattle.cpg_run.specs.RowLaws.{IsTimed}
use Rattle.cpg_run.specs.Rows.{AreRows}
use Rattle.cpg_run.proofs.BuiltTables.{admitted_under}
use Rattle.cpg_run.proofs.ListedRows.{listed_rows_carry}
use Rattle.cpg_run.proofs.Written.{found_rows_are_writable, found_rows_fit}
use Rattle.cpg_built_laws.specs.Exist.{TablesExist}
use Rattle.cpg_built_laws.proofs.EarlyFrozen.{frozen_early}
use Rattle.cpg_built_laws.proofs.RowsExist.{rows_exist}

-- if the row made for each number names it as its item, the items of the rows are the numbers
items_same : (row : ℕ → Row) (xs : List ℕ) → ((x : ℕ) → Contains xs x → (row x).item ≡ x) → items_of (map row xs) ≡ xs
-- by induction on the list
items_same row [] each = refl
items_same row (x ∷ xs) each =
    ap₂ ◌∷◌ (each x (Contains-first x xs)) (items_same row xs (λ y c. each y (Contains-rest x xs y c)))

-- ---- tables of rows

-- given: rows that can be written, of a well-formed graph within the limits
module _ (g : Graph) (within : IsWithinLimits g) (formed : WellFormed g) (rows : List Row)
    (writable : AreWritable g rows) where
  -- the table of a node: its head, and the rows of what it starts, sends and hears
  abbrev table_of : ℕ → NodeTable
  table_of node = record {
    faults = (head_of g).faults;
    first_broadcast = first_broadcast (head_of g);
    own = own_of (head_of g) node;
    starts = map (row_for rows) (starts_of (head_of g) node);
    sends = map (row_for rows) (sends_of (head_of g) node);
    hears = map (heard_row g rows) (hears_of (head_of g) node);
  }

  -- the table made for a node has the node's head and the rows of its items
  table_with : (node : ℕ) → node < length g.nodes → IsTableWith g rows node (table_of node)
  -- each part of the node's list of items is mapped to their rows
  table_with node below =
      let are : AreRowsOf (head_of g) node (rows_of_items g rows (lists_of (head_of g) node)) =
      are_rows g within rows writable node below in
      record {
        table = record {
          faults = refl;
          first_broadcast = refl;
          own = refl;
          starts = items_same (row_for rows) (starts_of (head_of g) node)
              (λ x c. item_is g rows writable x (start_below g within node x c));
          sends = items_same (row_for rows) (sends_of (head_of g) node)
              (λ x c. item_is g rows writable x (send_below g within node x c));
          hears = items_same (heard_row g rows) (hears_of (head_of g) node) (λ x c. refl);
          lawful = are.lawful;
        };
        stands = refl;
      }

  -- a table for each node
  abbrev nodes : List NodeTable
  nodes = map table_of (numbers_below (length g.nodes))

  -- they are right for all nodes
  are_nodes : AreNodeTables g rows (length g.nodes) nodes
  are_nodes = record {
    long = length-map-range_with_len table_of 0 (length g.nodes);
    each = λ node below. subst (IsTableWith g rows node)
        (sym (get_or-map-below table_of (length g.nodes) node empty_table below)) (table_with node below);
  }

  -- the tables of all nodes, with the graph's head
  abbrev pub written : Tables
  written = record { head = head_of g; nodes = nodes }

  -- these tables have the rows
  pub is_written : AreTablesWith g rows written
  is_written = tables_with g within formed rows writable nodes are_nodes written refl refl

-- ---- the rows

-- the row of item x, with its columns in the list
abbrev numbered_row : List (List Column) → ℕ → Row
numbered_row columns x = record { item = x; columns = row_at columns x }

-- the rows of all items, by number
abbrev numbered : List (List Column) → List Row
numbered columns = map (numbered_row columns) (numbers_below (length columns))

-- the items of these rows are their numbers
numbered_items : (columns : List (List Column)) → items_of (numbered columns) ≡ numbers_below (length columns)
numbered_items columns = items_same (numbered_row columns) (numbers_below (length columns)) (λ x c. refl)

-- their columns are those they were made from
numbered_columns : (columns : List (List Column)) → columns_of_rows (numbered columns) ≡ columns
numbered_columns columns =
    let blank : Row = record { item = 0; columns = [] } in
    let long : length (numbered columns) ≡ length columns =
    length-map-range_with_len (numbered_row columns) 0 (length columns) in
    let count : length (columns_of_rows (numbered columns)) ≡ length (numbered columns) =
    length-map (numbered columns) (λ (r : Row). r.columns) in
    ext_get_or [] (columns_of_rows (numbered columns)) columns (count ∙ long)
    (λ k below. get_or-map (λ (r : Row). r.columns) (numbered columns) k blank [] (omega (arith, below, count))
    ∙ ap (λ (r : Row). r.columns)
    (get_or-map-below (numbered_row columns) (length columns) k blank (omega (arith, below, count, long))))

-- the whole: there are tables under each topological order in which no item is too wide
pub tables_exist : TablesExist
tables_exist g urgency order guards frozen admitted topological narrow times =
    let timed : IsTimed g urgency order frozen =
    record { admitted = admitted_under g urgency order guards admitted topological; frozen_times = times } in
    -- the rows of all items, by number
    let found_rows = rows_exist g urgency order frozen timed in
    let rows = numbered found_rows.0 in
    let are : AreRows g urgency order frozen (columns_of_rows rows) =
    subst (AreRows g urgency order frozen) (sym (numbered_columns found_rows.0)) found_rows.1 in
    -- they are rows as a builder finds them, with these frozen times
    let found : AreRowsFound g urgency order frozen rows = record {
      frozen_times = times;
      early = frozen_early g admitted.limits order topological frozen times;
      items = numbered_items found_rows.0 ∙ ap numbers_below found_rows.1.count;
      found = listed_rows_carry g urgency order frozen (columns_of_rows rows) timed are;
    } in
    -- within the limits, so they can be written
    let fit : DoRowsFit g rows = found_rows_fit g urgency order frozen rows admitted.limits timed.admitted found
    (none_too_wide g order narrow) in
    let writable : AreWritable g rows =
    found_rows_are_writable g urgency order frozen rows admitted.limits timed.admitted found fit in
    record {
      rows = rows;
      found = found;
      fit = fit;
      tables = written g admitted.limits admitted.well_formed rows writable;
      written = is_written g admitted.limits admitted.well_formed rows writable;
    }
