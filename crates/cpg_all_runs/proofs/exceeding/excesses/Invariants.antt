-- Loops of `excesses`: the greatest excess of each run.
use Rattle.std.proofs.Common.{◌≡◌, map, take}
use Rattle.cpg_run.specs.Finish.{excess_in_run}
use Rattle.cpg_all_runs.proofs.exceeding.excesses.Given as goal

-- the numbers so far are the greatest excesses of the runs so far
abbrev pub invariant-loop-run : goal.invariant-loop-run
invariant-loop-run l = l.numbers.items ≡ map (excess_in_run l.problem) (take l.run-index l.runs)
