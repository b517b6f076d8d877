-- Loops of `begin_each`: starts a process in each course of each track in which it is active, and otherwise lets its
-- node wait for what decides it.
use Rattle.std.proofs.Common.{length}
use Rattle.cpg_latest.specs.Course.{AreHalf, outcomes_asked}
use Rattle.cpg_latest.specs.Lanes.{CanBegin, HasSentTo}
use Rattle.cpg_latest.proofs.LaneSteps.{LaneHas}
use Rattle.cpg_latest.proofs.along.begin_each.Given as goal

-- in the first i lanes the process has begun and sent nothing, and in the others it can begin
abbrev pub invariant-loop-i : goal.invariant-loop-i
invariant-loop-i l =
    AreHalf (LaneHas l.setting.problem.now (CanBegin l.setting l.frozen l.process) (outcomes_asked l.asked))
    (LaneHas l.setting.problem.now (HasSentTo l.setting l.frozen l.process 0 0) (outcomes_asked l.asked)) l.i
    (length l.asked) l.lanes.items
