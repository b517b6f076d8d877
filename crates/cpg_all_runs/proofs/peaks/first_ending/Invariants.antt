-- Loops of `first_ending`: the least process with a number below `processes` that ends at a time, and `None` exactly if
-- none does.
use Rattle.std.proofs.Common.{ℕ, ◌<◌, ◌≢◌, get_or, Some, None}
use Rattle.cpg_all_runs.proofs.peaks.first_ending.Given as goal

-- no process below `process` ends at the time
abbrev pub invariant-loop-process : goal.invariant-loop-process
invariant-loop-process l = (q : ℕ) → q < l.process → get_or l.times.ends q None ≢ Some l.time
