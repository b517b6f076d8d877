-- Loops of `all_end_in_time`: whether an execution ends by its process's due, whichever of these columns starts it.
use Rattle.std.proofs.Common.{◌≡◌, ◌≤◌, ◌+◌, All, true, take}
use Rattle.cpg_base.specs.Duration.{duration, due}
use Rattle.cpg_base.specs.Scenario.{Scenario, IsScenario, fault_of}
use Rattle.cpg_cube.specs.Cube.{matches}
use Rattle.cpg_violation.proofs.quick_due.all_end_in_time.Given as goal

-- by each column so far the process ends by its due in each scenario that the column's cube matches
abbrev pub invariant-loop-column : goal.invariant-loop-column
invariant-loop-column l = All (λ c. (s : Scenario) → IsScenario l.problem s → matches c.cube s ≡ true →
    c.time + duration l.problem l.process (fault_of s l.process) ≤ due l.problem l.process)
    (take l.column-index l.columns)
