-- Loops of `ItemSpan::of_execution`: how long an execution of a process lasts at most, by its faults.
use Rattle.std.proofs.Common.{ℕ, ◌<◌, ◌≡◌, length, get_or, min}
use Rattle.cpg_base.specs.Duration.{duration}
use Rattle.cpg_check_quick.proofs.span.ItemSpan.of_execution.Given as goal

-- `long`: there is a length for each count from 0 to 8. `done`: that at each count so far is the duration with so many
-- faults, or with the graph's most if that is fewer.
abbrev pub invariant-loop-count : goal.invariant-loop-count
invariant-loop-count l = record {
  long : length l.lengths ≡ 9;
  done : (n : ℕ) → n < l.count → get_or l.lengths n 0 ≡ duration l.problem l.process (min l.faults n);
}
