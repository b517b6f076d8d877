-- Loops of `excess_in_run`: how far an end of a run is past its due at most, or 0 if none is.
use Rattle.std.proofs.Common.{◌≡◌, map}
use Rattle.cpg_base.specs.Numbers.{greatest, numbers_below}
use Rattle.cpg_run.specs.Finish.{excess_of}
use Rattle.cpg_all_runs.proofs.exceeding.excess_in_run.Given as goal

-- `most` is the greatest excess of the processes below `process`, or 0 if there is none
abbrev pub invariant-loop-process : goal.invariant-loop-process
invariant-loop-process l = l.most ≡ greatest (map (excess_of l.problem l.times) (numbers_below l.process))
