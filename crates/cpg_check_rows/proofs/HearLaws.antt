-- V10 holds if each item is heard well: by the columns that are due, wherever it is heard.
use Rattle.std.proofs.Common.{ℕ, ◌+◌, ◌<◌, ◌≡◌, List, [], ◌∷◌, length, map, Contains, Some, arith, refl, sym, ap, ap₂}
use Rattle.std.proofs.Common.{◌∙◌, subst, inl, inr, eq-eqb, ne_eqb}
use Rattle.std.specs.Prelude.{IfSome}
use Rattle.std.proofs.lemmas.Bool.{cases_lt, cond-true, cond-false}
use Rattle.std.proofs.lemmas.Option.{get_or_from_slice_get, slice_get_within}
use Rattle.cpg_base.specs.Numbers.{numbers_below}
use Rattle.cpg_base.specs.Graph.{Graph, item_count, item_at, is_heard_by}
use Rattle.cpg_base.specs.Limits.{IsWithinLimits}
use Rattle.cpg_base.proofs.Lists.{Contains-first, Contains-rest, Contains-cases, Contains-nil, Contains-map}
use Rattle.cpg_base.proofs.Lists.{Contains-filter_parts, numbers-Contains}
use Rattle.cpg_base.proofs.Ordered.{Rises, Rises-filter, Rises-from_map, numbers_go_up}
use Rattle.cpg_table.specs.Table.{Row, NodeTable, empty_table, table_at}
use Rattle.cpg_table.specs.Shape.{items_of, heard_by}
use Rattle.cpg_head.specs.GraphHead.{head_of}
use Rattle.cpg_table.specs.Lawful.{AreTablesOf}
use Rattle.cpg_table.specs.Valid.{hear_row, hear_rows}
use Rattle.cpg_table.proofs.GraphTables.{suits_graph}
use Rattle.cpg_table.specs.Found.{row_columns}
use Rattle.cpg_check_rows.specs.Hears.{HearsHold, IsHeardWell, due_columns}

-- if the items of rows rise, each row has the columns that are looked up by its item: no earlier row has the same item;
-- by induction on `rows`
first_of_item : (rows : List Row) → Rises (λ (a b : Row). a.item < b.item) rows → (row : Row) → Contains rows row →
    row_columns rows row.item ≡ Some row.columns
first_of_item [] rising row there = absurd (Contains-nil row there)
first_of_item (r ∷ rs) rising row there = elim (Contains-cases r rs row there) [
  | inl e ↦
      subst (λ (q : Row). row_columns (r ∷ rs) q.item ≡ Some q.columns) e (cond-true _ _ _ (eq-eqb r.item r.item refl))
  | inr among ↦ cond-false _ _ _ (ne_eqb r.item row.item (λ is. absurd (apart (rising.0 row among) is)))
      ∙ first_of_item rs rising.1 row among
]
  where
    -- a number that is less than another isn't equal to it
    apart : {a b : ℕ} → a < b → a ≡ b → ⊥
    apart less is = absurd (omega arith)

-- if each of some rows is what `f` gives for its item, the rows are what `f` gives for their items, one after another;
-- by induction on the rows
rows_by_item : (f : ℕ → Row) (rows : List Row) → ((row : Row) → Contains rows row → row ≡ f row.item) →
    rows ≡ map f (items_of rows)
rows_by_item f [] each = refl
rows_by_item f (r ∷ rs) each = ap₂ (λ (q : Row) (qs : List Row). q ∷ qs) (each r (Contains-first r rs))
    (rows_by_item f rs (λ row there. each row (Contains-rest r rs row there)))

-- node tables that are formed for the graph, which is within limits
module _ (g : Graph) (w : IsWithinLimits g) (tables : List NodeTable) (are : AreTablesOf (head_of g) tables) where
  -- if each item is heard well, each hear row of a node is the one that V10 asks for: the items of the node's hear rows
  -- rise, as those that it hears do, so the row is the one that is looked up by its item
  row_well : ((x : ℕ) → x < item_count g → IsHeardWell g tables x) → (node : ℕ) → node < length g.nodes → (row : Row) →
      Contains (table_at tables node).hears row →
      row ≡ hear_row g tables row.item
  row_well well node within row among =
      let rows : List Row = (table_at tables node).hears in
      let items : items_of rows ≡ heard_by g node = (suits_graph g w tables are node within).hears in
      let rise : Rises (λ (a b : Row). a.item < b.item) rows = Rises-from_map (λ x y. x < y) (λ (r : Row). r.item) rows
      (subst (Rises (λ x y. x < y)) (sym items) (Rises-filter (λ x y. x < y) (λ x. is_heard_by g node (item_at g x))
      (numbers_below (item_count g)) (numbers_go_up (item_count g)))) in
      let there : Contains (heard_by g node) row.item =
      subst (λ is. Contains is row.item) items (Contains-map (λ (r : Row). r.item) rows row among) in
      let inside : row.item < item_count g =
      numbers-Contains (item_count g) row.item (Contains-filter_parts (λ x. is_heard_by g node (item_at g x))
      (numbers_below (item_count g)) row.item there).0 in
      let same : row.columns ≡ due_columns g tables row.item =
      subst (λ o. IfSome o (λ cs. cs ≡ due_columns g tables row.item)) (first_of_item rows rise row among)
      (well row.item inside node within) in
      ap (λ cs. record { item = row.item; columns = cs }) same

  -- if each item is heard well, V10 holds: the hear rows of each node are those that are due for their items, and these
  -- items are the ones that the node hears
  pub hears_hold : ((x : ℕ) → x < item_count g → IsHeardWell g tables x) → HearsHold g tables
  hears_hold well node t is =
      let inside : node < length g.nodes = omega (arith, slice_get_within tables node t is, are.count) in
      let here : table_at tables node ≡ t = get_or_from_slice_get tables node t empty_table is in
      subst (λ (u : NodeTable). u.hears ≡ hear_rows g tables node) here
      (rows_by_item (hear_row g tables) (table_at tables node).hears (row_well well node inside)
      ∙ ap (map (hear_row g tables)) (suits_graph g w tables are node inside).hears)

-- if all items below `x` are heard well and `x` is, all below `x + 1` are
pub heard_more : (g : Graph) (tables : List NodeTable) (x : ℕ) → ((y : ℕ) → y < x → IsHeardWell g tables y) →
    IsHeardWell g tables x → (y : ℕ) → y < x + 1 →
    IsHeardWell g tables y
heard_more g tables x before here y less = elim (cases_lt y x) [
  | inl lt ↦ before y lt
  | inr ge ↦ let same : x ≡ y = omega arith in subst (IsHeardWell g tables) same here
]
