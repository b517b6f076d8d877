-- Loops of `send`: sets the times of all that an active process sends, if the slots of its node are free from a given
-- time on.
use Rattle.cpg_run.specs.Run.{Times, IsRun}
use Rattle.cpg_run.specs.Progress.{HasSent, KeepsEnds}
use Rattle.cpg_run.proofs.sending.send.Given as goal

-- `sent`: in the scenario's run the items of the queue so far have their times, and `free` is when the slots of the node are
-- free after them. `keeps`: the ends and the number of times are as at the start.
abbrev pub invariant-loop-item : goal.invariant-loop-item
invariant-loop-item l = record {
  sent : (t : Times) → IsRun l.setting.problem.now l.setting.order.now l.frozen l.scenario t →
      HasSent l.setting.problem.now l.setting.order.now l.scenario t l.process l.item-index l.fn.known l.known l.free;
  keeps : KeepsEnds l.fn.known l.known;
}
