-- Rows of trees that have too many columns: one row alone, or the rows of the first items together.
use Rattle.std.specs.Prelude.{ℕ, ◌+◌, ◌*◌, ◌≡◌, ◌≤◌, ◌<◌, ◌⊎◌, List, Option, Some, None, All, get_or, length, sum_by}
use Rattle.cpg_base.specs.Graph.{Graph, item_at, item_count}
use Rattle.cpg_base.specs.Numbers.{numbers_below}
use Rattle.cpg_base.specs.declared.limits.TheConstants.{MOST_COLUMNS, MOST_LOAD}
use Rattle.cpg_order.specs.Reach.{rows_of_item}
use Rattle.cpg_table.specs.Table.{NodeTable, Row, columns_of}
use Rattle.cpg_table.specs.Writing.{row_for}
use Rattle.cpg_tree.specs.Tree.{TreeState}
use Rattle.cpg_tree.specs.GraphTrees.{no_tree}
use Rattle.cpg_tree_columns.specs.MadeRows.{AreFirstRows, IsRowOf}

-- how many columns the row of item x has in all tables together: its columns times the tables in which it stands
abbrev pub row_load : Graph → List Row → ℕ → ℕ
row_load g rows x = length (row_for rows x).columns * rows_of_item g (item_at g x)

-- how many columns the rows of items 0 .. n - 1 have in all tables together
abbrev pub rows_load : Graph → List Row → ℕ → ℕ
rows_load g rows n = sum_by (row_load g rows) (numbers_below n)

-- the row of some item, which is made from its tree in `times`, has more columns than a row may have
pub record IsWideRow (g : Graph) (urgency : List ℕ) (times : List (TreeState (Option ℕ))) : Type 0 where
  -- the item, and the row that is made from its tree
  pub item : ℕ
  pub within : item < item_count g
  pub row : Row
  pub made : IsRowOf g urgency (get_or times item (no_tree g.faults)) item row
  -- it has more columns than a row may have
  pub many : MOST_COLUMNS < length row.columns

-- the rows of the first few items, which are made from their trees in `times`, have more columns together than all
-- tables may have
pub record AreWideRows (g : Graph) (urgency : List ℕ) (times : List (TreeState (Option ℕ))) : Type 0 where
  -- how many items, and their rows, each made from its tree
  pub count : ℕ
  pub within : count ≤ item_count g
  pub rows : List Row
  pub made : AreFirstRows g urgency times count rows
  -- they have more columns than all tables together may have
  pub many : MOST_LOAD < rows_load g rows count

-- one row has too many columns, or the rows of the first items have too many together
abbrev pub HaveWideRows : Graph → List ℕ → List (TreeState (Option ℕ)) → Type 0
HaveWideRows g urgency times = IsWideRow g urgency times ⊎ AreWideRows g urgency times

-- ---- rows within the limits

-- The rows of items 0 .. n - 1 are within the limits, and `load` is how many columns they have in all tables together.
pub record AreFewSoFar (g : Graph) (rows : List Row) (n load : ℕ) : Type 0 where
  -- no row has more columns than a row may have
  pub few : All (λ row. length row.columns ≤ MOST_COLUMNS) rows
  -- the columns of a row count once for each table in which it stands
  pub is : load ≡ rows_load g rows n
  -- they aren't more than all tables may have
  pub within : load ≤ MOST_LOAD

-- if there is an item to name, the rows of items 0 .. n - 1 are within the limits and `load` is right (`AreFewSoFar`);
-- without one, nothing is counted
abbrev pub AreFewIf : Option ℕ → Graph → List Row → ℕ → ℕ → Type 0
AreFewIf None g rows n load = Unit {0}
AreFewIf (Some item) g rows n load = AreFewSoFar g rows n load

-- Row x comes next, and is within the limits: `load_old` counts the columns of the rows before it, and `load_new` its
-- own too.
pub record IsLoadWith (g : Graph) (row : Row) (x load_old load_new : ℕ) : Type 0 where
  -- the row alone isn't too wide
  pub few : length row.columns ≤ MOST_COLUMNS
  -- each column counts once for each table in which the row stands
  pub is : load_new ≡ load_old + length row.columns * rows_of_item g (item_at g x)
  -- all rows up to this one have no more columns together than all tables may have
  pub within : load_new ≤ MOST_LOAD

-- if there is an item to name, row x and the load with it are within the limits (`IsLoadWith`); without one, nothing is
-- counted
abbrev pub IsLoadIf : Option ℕ → Graph → Row → ℕ → ℕ → ℕ → Type 0
IsLoadIf None g row x load_old load_new = Unit {0}
IsLoadIf (Some item) g row x load_old load_new = IsLoadWith g row x load_old load_new

-- the tables are within the limits of columns
pub record DoTablesFit (g : Graph) (nodes : List NodeTable) : Type 0 where
  -- no item's row has more columns than a row may have
  pub few : (x : ℕ) → x < item_count g → length (columns_of nodes x) ≤ MOST_COLUMNS
  -- all rows of all tables have no more columns than all tables may have
  pub loads : sum_by (λ x. length (columns_of nodes x) * rows_of_item g (item_at g x)) (numbers_below (item_count g))
      ≤ MOST_LOAD
