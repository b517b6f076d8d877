-- Laws on tables.
use Rattle.std.specs.Prelude.{ℕ, ◌≡◌, ◌≤◌, ◌<◌, true, List, length}
use Rattle.cpg_base.specs.Graph.{Graph, process_count, item_count}
use Rattle.cpg_order.specs.Reach.{views}
use Rattle.cpg_base.specs.Scenario.{Scenario, IsScenario}
use Rattle.cpg_cube.specs.Cube.{holds}
use Rattle.cpg_cube.specs.declared.literal.Literal.{Literal}
use Rattle.cpg_table.specs.Heard.{facts, is_heard}
use Rattle.cpg_table.specs.Table.{NodeTable, columns_of}
use Rattle.cpg_table.specs.declared.rule.Rule.{Rule}
use Rattle.cpg_run.specs.Exact.{IsFormed}
use Rattle.cpg_run.specs.Laws.{Keeps}

-- each literal that a node has heard in a scenario by a time holds in that scenario, whatever the tables are
abbrev pub HeardLiteralsAreTrue : Type 0
HeardLiteralsAreTrue =
    (g : Graph) (tables : List NodeTable) (node time : ℕ) (s : Scenario) (l : Literal) → IsScenario g s →
    is_heard g.faults (facts g tables node s time) l ≡ true → holds s l ≡ true

-- If tables keep V1 and V2, a formed row has at most as many columns as its variables have views.
abbrev pub FormedRowsHaveFewColumns : Type 0
FormedRowsHaveFewColumns =
    (g : Graph) (tables : List NodeTable) (urgency reached : List ℕ) (x : ℕ) → process_count g ≤ 128 →
    Keeps Rule.Activity g tables → Keeps Rule.Single g tables → x < item_count g →
    IsFormed g urgency reached (columns_of tables x) → length (columns_of tables x) ≤ views g reached
