-- Loops of `first_exceeding`: the first process whose end is past its due by `excess`, and `None` exactly if there is
-- none.
use Rattle.std.proofs.Common.{ℕ, ◌<◌, ◌≢◌}
use Rattle.cpg_run.specs.Finish.{excess_of}
use Rattle.cpg_all_runs.proofs.exceeding.first_exceeding.Given as goal

-- no process below `process` has this excess
abbrev pub invariant-loop-process : goal.invariant-loop-process
invariant-loop-process l = (q : ℕ) → q < l.process → excess_of l.problem l.times q ≢ l.excess
