-- Loops of `send_all`: sends all items of a process in each track in which they are active, and sets the frozen times
-- of those that are frozen.
use Rattle.cpg_latest.specs.Course.{outcomes_asked}
use Rattle.cpg_latest.specs.Lanes.{AreSending}
use Rattle.cpg_latest.proofs.along.send_all.Given as goal

-- in all lanes the process has sent its first `at` items, and the frozen ones of them have their frozen times
abbrev pub invariant-loop-at : goal.invariant-loop-at
invariant-loop-at l = AreSending l.setting (outcomes_asked l.asked) l.process l.at l.frozen l.lanes.items
