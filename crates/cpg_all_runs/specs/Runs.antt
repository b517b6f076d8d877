-- The runs of scenarios, in the order of a list.
use Rattle.std.specs.Prelude.{ℕ, ◌≡◌, ◌<◌, List, Option, length, get_or}
use Rattle.cpg_base.specs.Graph.{Graph}
use Rattle.cpg_base.specs.Scenario.{Scenario}
use Rattle.cpg_run.specs.Run.{Times, IsRun}

-- `runs` has the runs of the first n scenarios of the list, in its order
pub record AreFirstRuns (g : Graph) (order : List ℕ) (frozen : List (Option ℕ)) (n : ℕ) (list : List Scenario)
    (runs : List Times) : Type 0 where
  pub count : length runs ≡ n
  -- the defaults s and t of `get_or` are used only if the list is too short
  pub each : (i : ℕ) (s : Scenario) (t : Times) → i < n → IsRun g order frozen (get_or list i s) (get_or runs i t)

-- `runs` has the run of each scenario of the list, in its order
abbrev pub AreRuns : Graph → List ℕ → List (Option ℕ) → List Scenario → List Times → Type 0
AreRuns g order frozen list runs = AreFirstRuns g order frozen (length list) list runs
