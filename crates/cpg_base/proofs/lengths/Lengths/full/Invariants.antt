-- Loops of `Lengths::full`: returns the longest executions of a scenario: for each process, its duration with its
-- fault count in the scenario.
use Rattle.std.proofs.Common.{◌≡◌, map}
use Rattle.cpg_base.specs.Numbers.{numbers_below}
use Rattle.cpg_base.specs.Duration.{duration}
use Rattle.cpg_base.specs.Scenario.{fault_of}
use Rattle.cpg_base.proofs.lengths.Lengths.full.Given as goal

-- the lengths so far are the planned durations of the processes below `process`, with the scenario's faults
abbrev pub invariant-loop-process : goal.invariant-loop-process
invariant-loop-process l =
    l.lengths.items ≡ map (λ p. duration l.problem p (fault_of l.scenario p)) (numbers_below l.process)
