-- The rows that are made of trees.
use Rattle.std.specs.Prelude.{ℕ, ◌≡◌, ◌<◌, ◌≤◌, List, Option, length, get_or, All, IsPermutation}
use Rattle.cpg_base.specs.Graph.{Graph, item_count, process_count}
use Rattle.cpg_cube.specs.Keys.{AreByLows}
use Rattle.cpg_merging.specs.Merged.{IsMergeOf}
use Rattle.cpg_table.specs.Table.{Row}
use Rattle.cpg_cube.specs.declared.column.Column.{Column}
use Rattle.cpg_tree.specs.Tree.{TreeState, HasOnePathEach}
use Rattle.cpg_tree.specs.GraphTrees.{no_tree}
use Rattle.cpg_tree_columns.specs.Columns.{columns_of_paths, IsTidyColumn}

-- the columns that a tree lists, in any order
pub record AreListedOf (g : Graph) (t : TreeState (Option ℕ)) (columns : List Column) : Type 0 where
  -- the tree has one path for each scenario
  pub each : HasOnePathEach g.faults t.paths
  -- there is a column for each path that has a time
  pub all : IsPermutation (columns_of_paths t.paths) columns
  pub tidy : All (IsTidyColumn g) columns

-- `entries` are the columns that the tree lists, sorted by their least scenarios along the urgency order
pub record AreEntriesOf (g : Graph) (urgency : List ℕ) (t : TreeState (Option ℕ)) (entries : List Column) : Type 0 where
  -- they are the tree's columns
  pub are : AreListedOf g t entries
  -- each stands before those whose least scenario comes later
  pub by_lows : AreByLows (λ (c : Column). c.cube) g urgency entries

-- `entries` are the columns that the tree lists, merged
pub record AreMergedOf (g : Graph) (urgency : List ℕ) (t : TreeState (Option ℕ)) (entries : List Column) : Type 0 where
  -- the tree's columns, in any order
  pub columns : List Column
  pub are : AreListedOf g t columns
  -- `entries` is what merging makes of them
  pub merge : IsMergeOf g urgency columns entries

-- the row of item x, which is made from the tree of its times: merged if x is a start
pub record IsRowOf (g : Graph) (urgency : List ℕ) (t : TreeState (Option ℕ)) (x : ℕ) (row : Row) : Type 0 where
  -- it names its item
  pub item : row.item ≡ x
  -- the columns of a start are merged
  pub start : x < process_count g → AreMergedOf g urgency t row.columns
  -- the columns of what is sent are those that the tree lists
  pub send : process_count g ≤ x → AreEntriesOf g urgency t row.columns

-- `rows` are the rows of items 0 .. n - 1 by number, each made from its tree
pub record AreFirstRows (g : Graph) (urgency : List ℕ) (times : List (TreeState (Option ℕ))) (n : ℕ)
    (rows : List Row) : Type 0 where
  -- there are n rows
  pub count : length rows ≡ n
  -- row x is made from the tree of item x's times
  pub each : (x : ℕ) (row : Row) → x < n → IsRowOf g urgency (get_or times x (no_tree g.faults)) x (get_or rows x row)

-- `rows` are the rows of all items by number, each made from its tree
abbrev pub AreRowsOf : Graph → List ℕ → List (TreeState (Option ℕ)) → List Row → Type 0
AreRowsOf g urgency times rows = AreFirstRows g urgency times (item_count g) rows
