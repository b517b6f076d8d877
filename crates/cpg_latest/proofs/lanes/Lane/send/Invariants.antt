-- Loops of `Lane::send`: sends the item at a place in the queue of a process in each course of a track, if it is
-- active.
use Rattle.std.proofs.Common.{◌+◌}
use Rattle.cpg_latest.specs.Course.{AreHalf}
use Rattle.cpg_latest.specs.Lanes.{HasSentTo}
use Rattle.cpg_latest.proofs.lanes.Lane.send.Given as goal

-- in the courses with fewer faults the item at the place `at` is sent, and in the others only those before it
abbrev pub invariant-loop-faults : goal.invariant-loop-faults
invariant-loop-faults l =
    AreHalf (HasSentTo l.setting l.frozen l.process (l.at + 1) l.at l.asked.scenario.now.values)
    (HasSentTo l.setting l.frozen l.process (l.at + 1) (l.at + 1) l.asked.scenario.now.values) l.faults
    (l.setting.problem.now.faults + 1) l.self-inside.courses.items
