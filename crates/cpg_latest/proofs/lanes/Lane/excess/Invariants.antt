-- Loops of `Lane::excess`: how far an end with all the faults is past its due at most, in time units, or 0 if none is.
use Rattle.std.proofs.Common.{◌≡◌, ◌-◌, map}
use Rattle.cpg_base.specs.Duration.{due}
use Rattle.cpg_base.specs.Numbers.{greatest, numbers_below}
use Rattle.cpg_run.specs.Run.{end_in}
use Rattle.cpg_latest.proofs.lanes.Lane.excess.Given as goal

-- `most` is how far an end of the processes so far is past its due at most, or 0 if none is
abbrev pub invariant-loop-process : goal.invariant-loop-process
invariant-loop-process l =
    l.most ≡ greatest (map (λ p. end_in l.course.known p - due l.problem p) (numbers_below l.process))
