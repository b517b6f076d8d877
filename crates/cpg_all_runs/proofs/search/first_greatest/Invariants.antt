-- Loops of `first_greatest`: the place of the greatest of the numbers of scenarios, and of several the one whose
-- scenario comes first in the urgency order.
use Rattle.cpg_all_runs.specs.Peaks.{IsFirstGreatest}
use Rattle.cpg_all_runs.proofs.search.first_greatest.Given as goal

-- the number at `at` is the greatest of the first `next`, and no scenario with the same number comes before its own
abbrev pub invariant-loop-next : goal.invariant-loop-next
invariant-loop-next l = IsFirstGreatest l.problem l.urgency l.next l.scenarios l.numbers l.at
