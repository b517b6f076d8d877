-- The loop of `durations`, which adds how long an execution of the process lasts for one number of faults after
-- another.
use Rattle.std.proofs.Common.{◌≡◌, map}
use Rattle.cpg_base.specs.Numbers.{numbers_below}
use Rattle.cpg_base.specs.Duration.{duration}
use Rattle.cpg_expand.proofs.ending.durations.Given as goal

-- after each turn, the list has the durations of the process with 0, 1, .. faults, for the numbers gone over
abbrev pub invariant-loop-faults : goal.invariant-loop-faults
invariant-loop-faults l = l.durations.items ≡ map (duration l.problem l.process) (numbers_below l.faults)
