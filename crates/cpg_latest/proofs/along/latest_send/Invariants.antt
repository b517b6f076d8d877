-- Loops of `latest_send`: the latest time over all tracks at which a process could send an item if that were not
-- frozen, and `None` exactly if the item is active in none.
use Rattle.cpg_latest.specs.Course.{outcomes_asked}
use Rattle.cpg_latest.specs.Over.{IsLatestSend}
use Rattle.cpg_latest.proofs.along.latest_send.Given as goal

-- `latest` is the latest time over the first i tracks at which the item could be sent if it were not frozen, or None
abbrev pub invariant-loop-i : goal.invariant-loop-i
invariant-loop-i l = IsLatestSend l.setting.problem.now (outcomes_asked l.asked) l.process l.item l.lanes l.i l.latest
