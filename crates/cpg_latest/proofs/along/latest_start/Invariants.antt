-- Loops of `latest_start`: the latest start of a process over all tracks as if it were not frozen, and `None` exactly
-- if it is active in none.
use Rattle.cpg_latest.specs.Course.{outcomes_asked}
use Rattle.cpg_latest.specs.Over.{IsLatestStart}
use Rattle.cpg_latest.proofs.along.latest_start.Given as goal

-- `latest` is the latest start over the first i tracks that the process could have if it were not frozen, or None
abbrev pub invariant-loop-i : goal.invariant-loop-i
invariant-loop-i l = IsLatestStart l.setting.problem.now (outcomes_asked l.asked) l.process l.lanes l.i l.latest
