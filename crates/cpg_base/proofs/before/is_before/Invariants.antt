-- Loops of `is_before`: returns whether the first scenario comes before the second: at the first process in the order
-- at which they differ, the first has fewer faults, or as many and a false value of the process's condition.
use Rattle.std.proofs.Common.{◌≡◌, drop}
use Rattle.cpg_base.specs.Scenario.{is_before}
use Rattle.cpg_base.proofs.before.is_before.Given as goal

-- the scenarios are alike at the processes so far, so the processes that are left decide as all do
abbrev pub invariant-loop-process : goal.invariant-loop-process
invariant-loop-process l = is_before l.problem l.process-items l.first l.second
    ≡ is_before l.problem (drop l.process-index l.process-items) l.first l.second
