-- In generated graphs nothing is late, each for every number and under any topological order.
use Rattle.std.specs.Prelude.{ℕ, ◌≡◌, ◌<◌, ◌≤◌, List, Option}
use Rattle.cpg_base.specs.Graph.{process_count}
use Rattle.cpg_base.specs.Scenario.{Scenario, IsScenario}
use Rattle.cpg_order.specs.Urgency.{IsTopological}
use Rattle.cpg_run.specs.Run.{Times, IsRun, end_in}
use Rattle.cpg_run.specs.Frozen.{AreFrozenTimes}
use Rattle.cpg_run.specs.Finish.{IsExcess}
use Rattle.cpg_gen.specs.Generated.{generated}

-- no process of a generated graph ends later than 19,720: 60 executions of at most 166, and two rounds of 40 for each
-- of at most 122 items
abbrev pub GeneratedEndEarly : Type 0
GeneratedEndEarly =
    (number : ℕ) (order : List ℕ) → IsTopological (generated number) order → (frozen : List (Option ℕ)) →
    AreFrozenTimes (generated number) order frozen →
    (s : Scenario) (t : Times) → IsScenario (generated number) s → IsRun (generated number) order frozen s t → (p : ℕ) →
    p < process_count (generated number) → end_in t p ≤ 19720

-- no process of a generated graph ends past its due, so the greatest excess is 0
abbrev pub GeneratedAreInTime : Type 0
GeneratedAreInTime =
    (number : ℕ) (order : List ℕ) → IsTopological (generated number) order → (frozen : List (Option ℕ)) →
    AreFrozenTimes (generated number) order frozen →
    (urgency : List ℕ) (excess : ℕ) (s : Scenario) (process : Option ℕ) →
    IsExcess (generated number) urgency order frozen excess s process → excess ≡ 0
