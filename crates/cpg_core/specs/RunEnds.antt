-- Trees that say when the processes end in the runs of an order under frozen times.
use Rattle.std.specs.Prelude.{ℕ, ◌≡◌, ◌<◌, List, Option, None, get_or}
use Rattle.cpg_base.specs.Graph.{Graph, process_count}
use Rattle.cpg_base.specs.Scenario.{Scenario, IsScenario}
use Rattle.cpg_run.specs.Run.{Times, IsRun}
use Rattle.cpg_tree.specs.Tree.{Path, TreeState, IsOnPath}
use Rattle.cpg_tree_columns.specs.Peaks.{tree_at}

-- in every run, tree q says when process q ends; `None` if it doesn't
abbrev pub GiveEnds : Graph → List ℕ → List (Option ℕ) → List (TreeState (Option ℕ)) → Type 0
GiveEnds g order frozen trees =
    (s : Scenario) (t : Times) → IsScenario g s → IsRun g order frozen s t → (q : ℕ) → q < process_count g →
    (x : Path (Option ℕ)) → IsOnPath (tree_at g trees q).paths s x → x.1 ≡ get_or t.ends q None
