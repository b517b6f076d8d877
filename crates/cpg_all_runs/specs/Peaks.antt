-- The greatest of the numbers of scenarios, the first scenario and the first process that have it, and the greatest
-- finish and excess as they are read off given runs.
use Rattle.std.specs.Prelude.{ℕ, ◌≡◌, ◌≢◌, ◌≤◌, ◌<◌, false, List, Option, Some, None, get_or}
use Rattle.cpg_base.specs.Graph.{Graph}
use Rattle.cpg_base.specs.Scenario.{Scenario, is_before}
use Rattle.cpg_order.specs.Urgency.{IsTopological}
use Rattle.cpg_run.specs.Run.{Times}
use Rattle.cpg_run.specs.Finish.{excess_of, IsWorst, IsExcess}
use Rattle.cpg_all_runs.specs.Runs.{AreRuns}

-- `at` is the place of the greatest of the first n numbers and, if several are as great, of the one whose scenario
-- comes first in the urgency order; `list` has the scenario of each number
pub record IsFirstGreatest (g : Graph) (urgency : List ℕ) (n : ℕ) (list : List Scenario) (numbers : List ℕ)
    (at : ℕ) : Type 0 where
  -- the place is one of the first n
  pub there : at < n
  -- no number is greater
  pub most : (i : ℕ) → i < n → get_or numbers i 0 ≤ get_or numbers at 0
  -- no scenario with the same number comes before it
  pub first : (i : ℕ) (d : Scenario) → i < n → get_or numbers i 0 ≡ get_or numbers at 0 →
      is_before g urgency (get_or list i d) (get_or list at d) ≡ false

-- the process p ends at the time, and none with a lesser number does
pub record IsFirstEnding (t : Times) (time p : ℕ) : Type 0 where
  pub ends : get_or t.ends p None ≡ Some time
  pub first : (q : ℕ) → q < p → get_or t.ends q None ≢ Some time

-- the end of p is past its due by the excess, and that of no process with a lesser number is
pub record IsFirstExceeding (g : Graph) (t : Times) (excess p : ℕ) : Type 0 where
  pub has : excess_of g t p ≡ excess
  pub first : (q : ℕ) → q < p → excess_of g t q ≢ excess

-- `worst` is the greatest finish, with the least scenario and process that have it, under any topological order and
-- frozen times under which the scenarios have these runs
abbrev pub IsWorstOfRuns : Graph → List ℕ → List Scenario → List Times → ℕ → Scenario → Option ℕ → Type 0
IsWorstOfRuns g urgency list runs worst worst_in worst_by =
    (order : List ℕ) (frozen : List (Option ℕ)) → IsTopological g order →
    AreRuns g order frozen list runs
    → IsWorst g urgency order frozen worst worst_in worst_by

-- `excess` is the greatest excess, with the least scenario and process that have it, under any topological order and
-- frozen times under which the scenarios have these runs
abbrev pub IsExcessOfRuns : Graph → List ℕ → List Scenario → List Times → ℕ → Scenario → Option ℕ → Type 0
IsExcessOfRuns g urgency list runs excess excess_in excess_by =
    (order : List ℕ) (frozen : List (Option ℕ)) → IsTopological g order →
    AreRuns g order frozen list runs
    → IsExcess g urgency order frozen excess excess_in excess_by
