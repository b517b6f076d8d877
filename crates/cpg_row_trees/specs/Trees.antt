-- Trees of rows: each leads a scenario to the place of the row's column that matches it.
use Rattle.std.specs.Prelude.{ℕ, ◌≡◌, ◌<◌, List, Option, None, IfSome, length, get_or, map}
use Rattle.cpg_base.specs.Graph.{Graph, item_count}
use Rattle.cpg_base.specs.Scenario.{Scenario, IsScenario}
use Rattle.cpg_cube.specs.declared.column.Column.{Column}
use Rattle.cpg_table.specs.Table.{NodeTable, columns_of}
use Rattle.cpg_row_trees.specs.PlacesState.{PlacesState}
use Rattle.cpg_row_trees.specs.Places.{place_at, IsPlaceOfMatch}

-- in each scenario of the graph the tree has the place of the one column that matches, and none if no column does
pub record IsRowTree (g : Graph) (columns : List Column) (tree : PlacesState) : Type 0 where
  -- the place that a scenario comes to is that of the column
  pub found : (s : Scenario) → IsScenario g s → IsPlaceOfMatch (map (λ c. c.cube) columns) (place_at tree s) s

-- there is an entry for each of the first items; if it has a tree, that is the tree of the item's row
pub record AreFirstTrees (g : Graph) (tables : List NodeTable) (items : ℕ)
    (trees : List (Option PlacesState)) : Type 0 where
  -- there is an entry for each of them
  pub count : length trees ≡ items
  -- a tree is that of the item's row
  pub each : (x : ℕ) → x < items → IfSome (get_or trees x None) (IsRowTree g (columns_of tables x))

-- there is an entry for each item of the graph; if it has a tree, that is the tree of the item's row
abbrev pub AreRowTrees : Graph → List NodeTable → List (Option PlacesState) → Type 0
AreRowTrees g tables trees = AreFirstTrees g tables (item_count g) trees
