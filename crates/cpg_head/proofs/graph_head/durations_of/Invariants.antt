-- Loops of `durations_of`, which returns how long an execution of a process lasts at most with 0, 1, .. faults, up
-- to the most that the graph allows.
use Rattle.std.proofs.Common.{◌≡◌, map}
use Rattle.cpg_base.specs.Numbers.{numbers_below}
use Rattle.cpg_base.specs.Duration.{duration}
use Rattle.cpg_head.proofs.graph_head.durations_of.Given as goal

-- the list has the duration of the process with each number of faults so far
abbrev pub invariant-loop-faults : goal.invariant-loop-faults
invariant-loop-faults l = l.times.items ≡ map (duration l.problem l.process) (numbers_below l.faults)
