-- Loops of `durations`: returns for each process how long an execution with all faults lasts.
use Rattle.std.proofs.Common.{◌≡◌, map}
use Rattle.cpg_base.specs.Numbers.{numbers_below}
use Rattle.cpg_base.specs.Duration.{duration}
use Rattle.cpg_tracks.proofs.timing.durations.Given as goal

-- the list has the duration of each process so far with all the faults
abbrev pub invariant-loop-process : goal.invariant-loop-process
invariant-loop-process l = l.durations.items ≡ map (λ p. duration l.problem p l.problem.faults) (numbers_below l.process)
