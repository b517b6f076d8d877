-- What a tree of where an item is active says.
use Rattle.std.specs.Prelude.{ℕ, ◌≡◌, Bool}
use Rattle.cpg_base.specs.Graph.{Graph, item_at}
use Rattle.cpg_base.specs.Activity.{item_active}
use Rattle.cpg_base.specs.Scenario.{Scenario, IsScenario}
use Rattle.cpg_tree.specs.Tree.{Path, TreeState, IsOnPath}

-- The tree says in each scenario of the graph whether item x is active: that is the value (`path.1`) of the path that
-- the scenario is on.
abbrev pub IsActivityOf : Graph → ℕ → TreeState Bool → Type 0
IsActivityOf g x t = (s : Scenario) (path : Path Bool) → IsScenario g s → IsOnPath t.paths s path →
    path.1 ≡ item_active g s.values (item_at g x)
