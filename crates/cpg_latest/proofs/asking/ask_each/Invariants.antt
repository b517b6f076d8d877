-- Loops of `ask_each`: what each track says of a process, in the order of the tracks.
use Rattle.std.proofs.Common.{◌≡◌, take}
use Rattle.cpg_latest.specs.Course.{AreAsked, outcomes_asked, outcomes_of}
use Rattle.cpg_latest.proofs.asking.ask_each.Given as goal

-- `asked`: each answer so far is what an outcome says of the process. `outcomes`: these are the outcomes of the tracks so far,
-- in their order.
abbrev pub invariant-loop-track : goal.invariant-loop-track
invariant-loop-track l = record {
  asked : AreAsked l.setting.problem.now l.setting.guards.now l.process l.asked.items;
  outcomes : outcomes_asked l.asked.items ≡ outcomes_of (take l.track-index l.tracks);
}
