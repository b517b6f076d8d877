-- Loops of `finishes`: the finish of each run, in their order.
use Rattle.std.proofs.Common.{◌≡◌, map, take}
use Rattle.cpg_all_runs.proofs.peaks.finishes.Given as goal

-- the numbers so far are the finishes of the runs so far
abbrev pub invariant-loop-run : goal.invariant-loop-run
invariant-loop-run l = l.numbers.items ≡ map (λ t. t.finish) (take l.run-index l.runs)
