-- Loops of `Lane::finish`: the greatest end with all the faults, in time units, or 0 if no process is active.
use Rattle.std.proofs.Common.{◌≡◌, map}
use Rattle.cpg_base.specs.Numbers.{greatest, numbers_below}
use Rattle.cpg_run.specs.Run.{end_in}
use Rattle.cpg_latest.proofs.lanes.Lane.finish.Given as goal

-- `latest` is the greatest end of the processes so far
abbrev pub invariant-loop-process : goal.invariant-loop-process
invariant-loop-process l = l.latest ≡ greatest (map (λ p. end_in l.course.known p) (numbers_below l.process))
