-- Proof of `Lane::begin`: starts a process in each course of a track if it is active, and otherwise lets its node wait
-- in each for what decides it.
use Rattle.std.proofs.Common.{◌∙◌, ◌+◌, length, refl, sym, ap, subst, arith}
use Rattle.cpg_latest.specs.Course.{IsLane}
use Rattle.cpg_latest.specs.Lanes.{CanBegin, HasSentTo}
use Rattle.cpg_latest.proofs.CourseSteps.{last_first, last_next}
use Rattle.cpg_latest.proofs.Halves.{half_first, half_more, half_all}
use Rattle.cpg_latest.proofs.lanes.Lane.begin.Goals as goal

-- at first the process can begin in each course, and the last end for no faults is 0
pub loop-faults-init : goal.loop-faults-init
loop-faults-init c = let lane = subst (IsLane c.args.setting.now.problem.now
    (CanBegin c.args.setting.now c.args.frozen.now c.args.process c.args.asked.now.scenario.now.values))
    (sym c.self.view_is) c.requires.lane in record {
      half =
          half_first (CanBegin c.args.setting.now c.args.frozen.now c.args.process c.args.asked.now.scenario.now.values)
          (HasSentTo c.args.setting.now c.args.frozen.now c.args.process 0 0 c.args.asked.now.scenario.now.values)
          (c.args.setting.now.problem.now.faults + 1) c.self.inside.courses.items lane.count lane.each;
      last = λ acts more goes late are. last_first c.args.setting.now.problem.now late c.args.process;
    }

-- the process can still begin in this course
pub begin-last-requires-clause-course : goal.begin-last-requires-clause-course
begin-last-requires-clause-course c =
    subst (CanBegin c.args.setting.now c.args.frozen.now c.args.process c.args.asked.now.scenario.now.values
    c.loop-faults.faults) (sym c.index_mut-course.ensures.value)
    (c.loop-faults.invariant.half.left c.loop-faults.faults c.index_mut-course.result.now (omega arith)
    (omega (arith, c.loop-faults-test.true, c.requires.lane.count, ap length c.self.view_is)))

-- the invariant says that `last` is the latest end with one fault less
pub begin-last-requires-clause-last : goal.begin-last-requires-clause-last
begin-last-requires-clause-last c = c.loop-faults.invariant.last

-- the process has begun in one course more, and the end that `begin` returns is the last end for one fault more
pub loop-faults-preserved : goal.loop-faults-preserved
loop-faults-preserved c = record {
  half = half_more (CanBegin c.args.setting.now c.args.frozen.now c.args.process c.args.asked.now.scenario.now.values)
      (HasSentTo c.args.setting.now c.args.frozen.now c.args.process 0 0 c.args.asked.now.scenario.now.values)
      (c.args.setting.now.problem.now.faults + 1) c.loop-faults.faults c.loop-faults.self-inside.courses.items _
      c.begin-last.new.course c.loop-faults.invariant.half
      (omega (arith, c.loop-faults-test.true, c.requires.lane.count, ap length c.self.view_is))
      c.begin-last.ensures.sends refl;
  last = λ acts more goes late are. c.begin-last.ensures.end acts more goes late are
      ∙ last_next c.args.setting.now.problem.now late c.loop-faults.faults c.args.process;
}

-- after the loop the process has begun in the courses of all numbers of faults
pub returns : goal.returns
returns c = record {
  count = c.loop-faults.invariant.half.count_is;
  each = half_all (CanBegin c.args.setting.now c.args.frozen.now c.args.process c.args.asked.now.scenario.now.values)
      (HasSentTo c.args.setting.now c.args.frozen.now c.args.process 0 0 c.args.asked.now.scenario.now.values)
      (c.args.setting.now.problem.now.faults + 1) c.loop-faults.faults c.loop-faults.self-inside.courses.items
      c.loop-faults.invariant.half
      (omega (
        arith,
        c.loop-faults-test.false,
        c.loop-faults.auto.faults-end,
        c.requires.lane.count,
        ap length c.self.view_is,
      ));
}
