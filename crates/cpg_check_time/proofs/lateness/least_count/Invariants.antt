-- Loops of `least_count`: the least count of faults with which an execution that starts at `start` ends after `time`.
use Rattle.std.proofs.Common.{ℕ, ◌+◌, ◌<◌, ◌≤◌}
use Rattle.cpg_base.specs.Duration.{duration}
use Rattle.cpg_check_time.proofs.lateness.least_count.Given as goal

-- with each number of faults so far the execution ends by `time`
abbrev pub invariant-loop-faults : goal.invariant-loop-faults
invariant-loop-faults l = (n : ℕ) → n < l.faults → l.start + duration l.problem l.process n ≤ l.time
