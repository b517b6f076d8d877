-- Loops of `counts_by`: with how many of the fault counts, from 0 on, an execution that starts at `start` ends by
-- `time`: with fewer faults than the result it does, and with as many or more it doesn't.
use Rattle.std.proofs.Common.{ℕ, ◌<◌, ◌≤◌}
use Rattle.cpg_base.specs.Duration.{duration}
use Rattle.cpg_check_heard.proofs.parts.counts_by.Given as goal

-- with each count so far an execution lasts no longer than the time that is left
abbrev pub invariant-loop-count : goal.invariant-loop-count
invariant-loop-count l = (n : ℕ) → n < l.count → duration l.problem l.process n ≤ l.left
