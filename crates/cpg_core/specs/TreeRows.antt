-- Trees that have the times of an item in the runs of an order.
use Rattle.std.specs.Prelude.{ℕ, ◌≡◌, List, Option, None, get_or, All, IsPermutation}
use Rattle.cpg_base.specs.Graph.{Graph}
use Rattle.cpg_base.specs.Scenario.{Scenario, IsScenario}
use Rattle.cpg_cube.specs.declared.column.Column.{Column}
use Rattle.cpg_run.specs.Run.{Times, IsRun}
use Rattle.cpg_run.specs.Carried.{carried}
use Rattle.cpg_tree_columns.specs.Columns.{columns_of_paths, IsTidyColumn}
use Rattle.cpg_tree.specs.Tree.{TreeState, HasOnePathEach}
use Rattle.cpg_expand.specs.Agreeing.{Agrees}

-- in every scenario the tree t has the time of item x in the run, `None` if it has none, and its path says no more than
-- what is carried beside that time
abbrev pub IsTreeOf : Graph → List ℕ → List (Option ℕ) → List (List Column) → ℕ → TreeState (Option ℕ) → Type 0
IsTreeOf g order frozen rows x t = (s : Scenario) (run : Times) → IsScenario g s → IsRun g order frozen s run →
    Agrees s (carried g order rows s x) (λ time. time ≡ get_or run.times x None) t
