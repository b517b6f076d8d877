-- Loops of `Lane::begin`: starts a process in each course of a track if it is active, and otherwise lets its node wait
-- in each for what decides it.
use Rattle.std.proofs.Common.{◌≡◌, ◌+◌, true}
use Rattle.cpg_latest.specs.Course.{AreHalf}
use Rattle.cpg_latest.specs.Lanes.{CanBegin, HasSentTo, IsLastEnd}
use Rattle.cpg_latest.proofs.lanes.Lane.begin.Given as goal

-- `half`: in the courses with fewer faults the process has begun, and in the others it can begin. `last`: if the process is
-- active, `last` is its latest end with one fault less.
abbrev pub invariant-loop-faults : goal.invariant-loop-faults
invariant-loop-faults l = record {
  half : AreHalf (CanBegin l.setting l.frozen l.process l.asked.scenario.now.values)
      (HasSentTo l.setting l.frozen l.process 0 0 l.asked.scenario.now.values) l.faults
      (l.setting.problem.now.faults + 1) l.self-inside.courses.items;
  last : l.asked.acts ≡ true → IsLastEnd l.setting l.frozen l.process l.asked.scenario.now.values l.faults l.last;
}
