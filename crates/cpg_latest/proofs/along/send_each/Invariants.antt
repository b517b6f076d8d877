-- Loops of `send_each`: sends the item at a place in the queue of a process, in each course of each track in which it
-- is active.
use Rattle.std.proofs.Common.{◌+◌, length}
use Rattle.cpg_latest.specs.Course.{AreHalf, outcomes_asked}
use Rattle.cpg_latest.specs.Lanes.{HasSentTo}
use Rattle.cpg_latest.proofs.LaneSteps.{LaneHas}
use Rattle.cpg_latest.proofs.along.send_each.Given as goal

-- in the first i lanes the item at the place `at` is sent, and in the others only those before it
abbrev pub invariant-loop-i : goal.invariant-loop-i
invariant-loop-i l = AreHalf
    (LaneHas l.setting.problem.now (HasSentTo l.setting l.frozen l.process (l.at + 1) l.at) (outcomes_asked l.asked))
    (LaneHas l.setting.problem.now (HasSentTo l.setting l.frozen l.process (l.at + 1) (l.at + 1))
    (outcomes_asked l.asked)) l.i (length l.asked) l.lanes.items
