-- The columns of rows are counted as the rows are made: the sum is the load of the rows, and a row or a load that is
-- too large shows that the graph's rows are too wide.
use Rattle.std.proofs.Common.{ℕ, ◌+◌, ◌*◌, ◌<◌, ◌≤◌, ◌≡◌, ◌∙◌, List, [], ◌∷◌, ◌++◌, All, Option, None, Some, length}
use Rattle.std.proofs.Common.{get_or, sum_by, arith, rules, refl, sym, ap, ap₂, subst, inl, inr, ◌⊎◌}
use Rattle.std.specs.Prelude.{IfNone, IfSome}
use Rattle.std.proofs.lemmas.List.{get_or_append_left}
use Rattle.std.proofs.lemmas.List.Elements.{All-append, All-get_or}
use Rattle.std.proofs.lemmas.List.Sums.{sum_by_push}
use Rattle.std.proofs.Math.Seq.{get_or-append_seam}
use Rattle.cpg_base.specs.Graph.{Graph, item_at, item_count}
use Rattle.cpg_base.specs.Limits.{IsWithinLimits}
use Rattle.cpg_base.specs.Numbers.{numbers_below}
use Rattle.cpg_base.specs.declared.limits.TheConstants.{MOST_COLUMNS, MOST_LOAD}
use Rattle.cpg_base.proofs.Lists.{below_push, numbers-Contains}
use Rattle.cpg_base.proofs.Sums.{sum_by-le_each}
use Rattle.cpg_order.specs.Reach.{rows_of_item}
use Rattle.cpg_reach.specs.Wide.{IsLeastWide, IsNarrow}
use Rattle.cpg_reach.proofs.Narrow.{none_too_wide}
use Rattle.cpg_run.specs.Alike.{Admitted}
use Rattle.cpg_run.specs.Built.{ShowsBuildFault}
use Rattle.cpg_run.specs.declared.built.BuildFault.{BuildFault}
use Rattle.cpg_run.specs.declared.built.BuildFault.TheVariants.{TooWide, OutOfMemory}
use Rattle.cpg_run.specs.Found.{AreRowsFound, DoRowsFit}
use Rattle.cpg_run.proofs.Written.{found_rows_fit}
use Rattle.cpg_table.proofs.NodeRows.{no_row}
use Rattle.cpg_table.specs.Lawful.{Tables}
use Rattle.cpg_table.specs.Table.{NodeTable, Row, columns_of}
use Rattle.cpg_table.specs.Writing.{AreTablesWith, row_for}
use Rattle.cpg_tree.specs.Tree.{TreeState}
use Rattle.cpg_tree.specs.GraphTrees.{no_tree}
use Rattle.cpg_core.specs.GrownFor.{IsWidth}
use Rattle.cpg_tree_columns.specs.MadeRows.{AreFirstRows, AreRowsOf, IsRowOf}
use Rattle.cpg_expand.specs.Large.{ShowsLarge}
use Rattle.cpg_core.specs.WideRows.{AreFewIf, DoTablesFit, HaveWideRows, IsLoadIf, row_load, rows_load}
use Rattle.cpg_core.proofs.RowsMade.{rows_more}

-- if two functions agree on all numbers below n, their sums over these are equal
same_sum : (f h : ℕ → ℕ) (n : ℕ) → ((x : ℕ) → x < n → f x ≡ h x) →
    sum_by f (numbers_below n) ≡ sum_by h (numbers_below n)
same_sum f h n same = omega (
  arith,
  sum_by-le_each f h (numbers_below n) (λ x listed. let is_same = same x (numbers-Contains n x listed) in
      omega (arith, is_same)),
  sum_by-le_each h f (numbers_below n) (λ x listed. let is_same = same x (numbers-Contains n x listed) in
      omega (arith, is_same)),
)

-- given: the rows of the first n items, and a row of the next one
-- `rows`, `n`, `long`: the rows; `row`, `more`, `is`: the next row, and the rows with it
module _ (g : Graph) (rows more : List Row) (row : Row) (n : ℕ) (long : length rows ≡ n)
    (is : more ≡ rows ++ row ∷ []) where
  -- each of the first n items keeps its row
  row_before : (x : ℕ) → x < n → row_for more x ≡ row_for rows x
  row_before x below = ap (λ rs. row_for rs x) is ∙ get_or_append_left rows (row ∷ []) no_row x
      (omega (arith, below, long))

  -- the next item has the new row
  row_last : row_for more n ≡ row
  row_last = ap₂ row_for is (sym long) ∙ get_or-append_seam rows row [] no_row

  -- with the next row the load grows by the row's columns, times the rows that its item has in the tables
  pub load_more : rows_load g more (n + 1) ≡ rows_load g rows n + length row.columns * rows_of_item g (item_at g n)
  load_more = ap (sum_by (row_load g more)) (below_push n) ∙ sum_by_push (row_load g more) (numbers_below n) n
      ∙ ap₂ ◌+◌ (same_sum (row_load g more) (row_load g rows) n
      (λ x below. ap (λ (r : Row). length r.columns * rows_of_item g (item_at g x)) (row_before x below)))
      (ap (λ (r : Row). length r.columns * rows_of_item g (item_at g n)) row_last)

  -- if a row isn't too wide, none in the list of it alone is
  one_few : length row.columns ≤ MOST_COLUMNS → All (λ (r : Row). length r.columns ≤ MOST_COLUMNS) (row ∷ [])
  one_few few_columns = search rules

  -- if the rows and the next row with its load are within the limits, the rows with it are too; where no item is too
  -- wide, nothing is asked
  pub few_more : (wide : Option ℕ) (load sum : ℕ) → AreFewIf wide g rows n load → IsLoadIf wide g row n load sum →
      AreFewIf wide g more (n + 1) sum
  few_more None load sum before new = tt
  few_more (Some item) load sum before new = record {
    few = subst (All (λ (r : Row). length r.columns ≤ MOST_COLUMNS)) (sym is)
        (All-append (λ (r : Row). length r.columns ≤ MOST_COLUMNS) rows (row ∷ []) before.few (one_few new.few));
    is = new.is ∙ ap (λ m. m + length row.columns * rows_of_item g (item_at g n)) before.is ∙ sym load_more;
    within = new.within;
  }

-- no rows are within the limits, and their load is 0
pub few_first : (wide : Option ℕ) (g : Graph) (rows : List Row) → length rows ≡ 0 → AreFewIf wide g rows 0 0
few_first None g rows none = tt
few_first (Some item) g rows none =
    record { few = λ i d below. absurd (omega (arith, below, none)); is = refl; within = omega arith }

-- once all rows are made and within the limits, they fit
pub few_all : (wide : Option ℕ) (g : Graph) (rows : List Row) (n load : ℕ) → n ≡ item_count g →
    AreFewIf wide g rows n load →
    IfSome wide (λ item. DoRowsFit g rows)
few_all None g rows n load end are_few = tt
few_all (Some item) g rows n load end are_few =
    record {
      few = are_few.few;
      loads = subst (λ m. rows_load g rows m ≤ MOST_LOAD) end (omega (arith, are_few.is, are_few.within));
    }

-- if the next row has too many columns, or the load is too large with it, the graph's rows are too wide
pub wide_rows : (g : Graph) (urgency : List ℕ) (times : List (TreeState (Option ℕ))) (rows : List Row) (row : Row)
    (n item load : ℕ) → n < item_count g →
    AreFirstRows g urgency times n rows →
    IsRowOf g urgency (get_or times n (no_tree g.faults)) n row → AreFewIf (Some item) g rows n load →
    (MOST_COLUMNS < length row.columns) ⊎ (MOST_LOAD < load + length row.columns * rows_of_item g (item_at g n)) →
    HaveWideRows g urgency times
-- the row itself is too wide, or the rows with it have too large a load together
wide_rows g urgency times rows row n item load below made new few (inl many) =
    inl (record { item = n; within = below; row = row; made = new; many = many })
wide_rows g urgency times rows row n item load below made new few (inr many) = inr (record {
  count = n + 1;
  within = omega (arith, below);
  rows = rows ++ row ∷ [];
  made = rows_more g urgency times n rows (rows ++ row ∷ []) row made new refl;
  many = omega (arith, many, few.is, load_more g rows (rows ++ row ∷ []) row n made.count refl);
})

-- so a fault that is shown by such a row or load is shown by rows that are too wide
pub wide_shown : (wide : Option ℕ) (fault : BuildFault) (g : Graph) (urgency : List ℕ)
    (times : List (TreeState (Option ℕ))) (rows : List Row) (row : Row) (n load : ℕ) →
    n < item_count g →
    AreFirstRows g urgency times n rows →
    IsRowOf g urgency (get_or times n (no_tree g.faults)) n row → AreFewIf wide g rows n load →
    ShowsLarge wide ((MOST_COLUMNS < length row.columns) ⊎
    (MOST_LOAD < load + length row.columns * rows_of_item g (item_at g n))) fault →
    ShowsLarge wide (HaveWideRows g urgency times) fault
wide_shown None fault g urgency times rows row n load below made new few shown = none_shown fault shown
  where
    -- `None` has no item
    no_name : (x : ℕ) → None ≡ Some x → ⊥
    no_name x equal = cc

    -- where there is no item to name, only running out of memory can be shown, and that names none
    none_shown : (fault : BuildFault) →
        ShowsLarge None ((MOST_COLUMNS < length row.columns) ⊎
        (MOST_LOAD < load + length row.columns * rows_of_item g (item_at g n))) fault →
        ShowsLarge None (HaveWideRows g urgency times) fault
    none_shown (TooWide x) shown = absurd (no_name x shown.0)
    none_shown OutOfMemory shown = tt
wide_shown (Some item) (TooWide x) g urgency times rows row n load below made new few shown =
    (shown.0, wide_rows g urgency times rows row n item load below made new few shown.1)
wide_shown (Some item) OutOfMemory g urgency times rows row n load below made new few shown = tt

-- ---- tables of rows

-- given: rows that are found for an order of an admitted graph
-- `order`, `frozen`, `rows`, `found`: the rows found for an order and its frozen times; `limits`, `admitted`: the
-- graph is within the limits, and admitted with that order
module _ (g : Graph) (urgency order : List ℕ) (frozen : List (Option ℕ)) (rows : List Row) (limits : IsWithinLimits g)
    (admitted : Admitted g urgency order)
    (found : AreRowsFound g urgency order frozen rows) where
  -- the rows fit if no item is too wide, or if they are known to fit where one is
  pub rows_fit : (wide : Option ℕ) → IsWidth g order wide → IfSome wide (λ item. DoRowsFit g rows) → DoRowsFit g rows
  rows_fit None narrow few =
      found_rows_fit g urgency order frozen rows limits admitted found (none_too_wide g order narrow)
  rows_fit (Some item) least few = few

-- tables that are written of rows that fit do fit
pub tables_fit : (g : Graph) (rows : List Row) (tables : Tables) → length rows ≡ item_count g → DoRowsFit g rows →
    AreTablesWith g rows tables →
    DoTablesFit g tables.nodes
tables_fit g rows tables long fits written = record {
  few = λ x below. subst (λ cs. length cs ≤ MOST_COLUMNS) (sym (written.columns x))
      (All-get_or (λ (r : Row). length r.columns ≤ MOST_COLUMNS) rows x no_row (omega (arith, below, long)) fits.few);
  loads = omega (
    arith,
    fits.loads,
    same_sum (λ x. length (columns_of tables.nodes x) * rows_of_item g (item_at g x)) (row_load g rows) (item_count g)
        (λ x below. ap (λ cs. length cs * rows_of_item g (item_at g x)) (written.columns x)),
  );
}

-- if `wide` has the least item that is too wide, or is `None` and no item is, it is as `IsWidth` says
pub width_of : (g : Graph) (order : List ℕ) (wide : Option ℕ) → IfSome wide (IsLeastWide g order) →
    IfNone wide (IsNarrow g order) →
    IsWidth g order wide
width_of g order None some none = none
width_of g order (Some x) some none = some

-- if `wide` is as `IsWidth` says, a fault that names its item names the least item that is too wide
pub named_least : (A : Type 0) (g : Graph) (order : List ℕ) (wide : Option ℕ) (fault : BuildFault) →
    IsWidth g order wide →
    ShowsLarge wide A fault →
    ShowsBuildFault (λ x. IsLeastWide g order x × A) fault
named_least A g order wide (TooWide x) is shown = (subst (IsWidth g order) shown.0 is, shown.1)
named_least A g order wide OutOfMemory is shown = tt

-- if no item is too wide, a fault that could name only the least such item is not `TooWide`
pub narrow_unnamed : (A : Type 0) (g : Graph) (order : List ℕ) (fault : BuildFault) (x : ℕ) → IsNarrow g order →
    fault ≡ TooWide x → ShowsBuildFault (λ y. IsLeastWide g order y × A) fault → ⊥
narrow_unnamed A g order fault x narrow is_wide shows =
    let shown : IsLeastWide g order x × A = subst (ShowsBuildFault (λ y. IsLeastWide g order y × A)) is_wide shows in
    narrow x shown.0.wide
