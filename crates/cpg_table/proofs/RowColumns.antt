-- The columns of an item x, by the first row of it, table by table; and how many they are.
use Rattle.std.proofs.Common.{ℕ, ◌+◌, ◌<◌, ◌≤◌, ◌≡◌, ◌==◌, Bool, true, false, cond, List, [], ◌∷◌, ◌++◌, length, drop}
use Rattle.std.proofs.Common.{Some, None, arith, refl, sym, ap, ◌∙◌, subst, append_assoc}
use Rattle.std.specs.Prelude.{sum_by, unwrap_or}
use Rattle.std.specs.List.{flat_map}
use Rattle.std.proofs.lemmas.List.{drop_more}
use Rattle.std.proofs.lemmas.List.Sums.{sum_by-append, sum_by-cons}
use Rattle.cpg_table.specs.Table.{Row, NodeTable, empty_table, table_at, columns_in, columns_of}
use Rattle.cpg_cube.specs.declared.column.Column.{Column}
use Rattle.cpg_table.specs.Lawful.{column_count, rows_of, AreTablesOf}
use Rattle.cpg_head.specs.Head.{Head}
use Rattle.cpg_base.specs.declared.limits.TheConstants.{MOST_LOAD}
use Rattle.cpg_table.specs.Found.{row_columns}

-- given: the number x of an item
module _ (x : ℕ) where
  -- x has the columns of its first row; none if no row is of it
  pub columns_in_row : (rows : List Row) → columns_in rows x ≡ unwrap_or (row_columns rows x) []
  columns_in_row [] = refl
  columns_in_row (r ∷ rs) = go (r.item == x) (columns_in_row rs)
    where
      -- by whether the first row is of x
      go : (b : Bool) → columns_in rs x ≡ unwrap_or (row_columns rs x) [] →
          cond b r.columns (columns_in rs x) ≡ unwrap_or (cond b (Some r.columns) (row_columns rs x)) []
      go true ih = refl
      go false ih = ih

  -- x has its columns in the first of two lists of rows, or if no row there is of it, in the second
  columns_in-append : (rows more : List Row) →
      columns_in (rows ++ more) x ≡ unwrap_or (row_columns rows x) (columns_in more x)
  columns_in-append [] more = refl
  columns_in-append (r ∷ rs) more = go (r.item == x) (columns_in-append rs more)
    where
      -- by whether the first row is of x
      go : (b : Bool) → columns_in (rs ++ more) x ≡ unwrap_or (row_columns rs x) (columns_in more x) →
          cond b r.columns (columns_in (rs ++ more) x)
          ≡ unwrap_or (cond b (Some r.columns) (row_columns rs x)) (columns_in more x)
      go true ih = refl
      go false ih = ih

  -- x has its columns in the starts of a table, or else in its sends, or else in the tables after it
  columns_step : (tables : List NodeTable) (node : ℕ) → node < length tables → columns_of (drop node tables) x
      ≡ unwrap_or (row_columns (table_at tables node).starts x)
      (unwrap_or (row_columns (table_at tables node).sends x) (columns_of (drop (node + 1) tables) x))
  columns_step tables node is_node =
      let table : NodeTable = table_at tables node in
      let more : List Row = flat_map (λ (t : NodeTable). t.starts ++ t.sends) (drop (node + 1) tables) in
      ap (λ ts. columns_of ts x) (drop_more tables node empty_table is_node)
      ∙ ap (λ rs. columns_in rs x) (append_assoc table.starts table.sends more)
      ∙ columns_in-append table.starts (table.sends ++ more)
      ∙ ap (unwrap_or (row_columns table.starts x)) (columns_in-append table.sends more)

  -- given that the tables before a node have no row of x
  module _ (tables : List NodeTable) (node : ℕ) (h : node < length tables)
      (so_far : columns_of tables x ≡ columns_of (drop node tables) x) where
    -- if this table has a start row of x, it has the columns of x
    pub found_start : (cs : List Column) → row_columns (table_at tables node).starts x ≡ Some cs →
        cs ≡ columns_of tables x
    found_start cs found = sym (so_far ∙ columns_step tables node h ∙ ap (λ o.
        unwrap_or o (unwrap_or (row_columns (table_at tables node).sends x) (columns_of (drop (node + 1) tables) x)))
        found)

    -- if this table has no row of x, its columns are found in the tables after it
    pub found_none : row_columns (table_at tables node).starts x ≡ None →
        row_columns (table_at tables node).sends x ≡ None →
        columns_of tables x ≡ columns_of (drop (node + 1) tables) x
    found_none none f = so_far ∙ columns_step tables node h
        ∙ ap (λ o. unwrap_or o
        (unwrap_or (row_columns (table_at tables node).sends x) (columns_of (drop (node + 1) tables) x))) none
        ∙ ap (λ o. unwrap_or o (columns_of (drop (node + 1) tables) x)) f

    -- if this table has no start row but a send row of x, that has the columns of x
    pub found_send : (cs : List Column) → row_columns (table_at tables node).starts x ≡ None →
        row_columns (table_at tables node).sends x ≡ Some cs →
        cs ≡ columns_of tables x
    found_send cs none found = sym (so_far ∙ columns_step tables node h
        ∙ ap (λ o. unwrap_or o
        (unwrap_or (row_columns (table_at tables node).sends x) (columns_of (drop (node + 1) tables) x))) none
        ∙ ap (λ o. unwrap_or o (columns_of (drop (node + 1) tables) x)) found)

  -- x has no more columns than all rows have
  columns_within : (rows : List Row) → length (columns_in rows x) ≤ column_count rows
  columns_within [] = omega arith
  columns_within (r ∷ rs) = subst (λ n. length (cond (r.item == x) r.columns (columns_in rs x)) ≤ n)
      (sym (sum_by-cons (λ (row : Row). length row.columns) r rs)) (go (r.item == x) (columns_within rs))
    where
      -- by whether the first row is of x
      go : (b : Bool) → length (columns_in rs x) ≤ column_count rs →
          length (cond b r.columns (columns_in rs x)) ≤ length r.columns + column_count rs
      go true h = omega arith
      go false h = omega arith

-- rows of two lists have the columns of both
column_count-append : (rows more : List Row) → column_count (rows ++ more) ≡ column_count rows + column_count more
column_count-append rows more = sum_by-append (λ (row : Row). length row.columns) rows more

-- the rows of what nodes start and send have no more columns than all rows of their tables; by induction on the tables
rows_within : (tables : List NodeTable) →
    column_count (flat_map (λ (t : NodeTable). t.starts ++ t.sends) tables)
    ≤ sum_by (λ t. column_count (rows_of t)) tables
rows_within [] = omega arith
rows_within (t ∷ ts) =
    let all = column_count-append (t.starts ++ t.sends) (flat_map (λ (t : NodeTable). t.starts ++ t.sends) ts) in
    let here = column_count-append t.starts t.sends in
    let there = column_count-append t.starts (t.sends ++ t.hears) in
    let hears = column_count-append t.sends t.hears in
    let more = sum_by-cons (λ (t : NodeTable). column_count (rows_of t)) t ts in
    let ih = rows_within ts in
    omega (arith, all, here, there, hears, more, ih)

-- in lawful tables an item has at most 524,288 columns
pub columns_few : (h : Head) (tables : List NodeTable) → AreTablesOf h tables → (x : ℕ) →
    length (columns_of tables x) ≤ MOST_LOAD
columns_few h tables are x =
    let of_item = columns_within x (flat_map (λ (t : NodeTable). t.starts ++ t.sends) tables) in
    let of_all = rows_within tables in
    omega (arith, of_item, of_all, are.few)
