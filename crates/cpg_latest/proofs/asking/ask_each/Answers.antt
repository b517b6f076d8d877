-- Proof of `ask_each`: what each track says of a process, in the order of the tracks.
use Rattle.std.proofs.Common.{◌∙◌, ap}
use Rattle.cpg_base.specs.Scenario.{Scenario}
use Rattle.cpg_latest.proofs.AskedTracks.{asked_more, outcomes_more}
use Rattle.cpg_latest.proofs.asking.ask_each.Goals as goal

-- what this track says is right, as `ask` promises, and has its outcome
pub loop-track-preserved : goal.loop-track-preserved
loop-track-preserved c = record {
  asked = asked_more c.args.setting.now.problem.now c.args.setting.now.guards.now c.args.process
      c.loop-track.asked.items c.push.new.self.items c.in_ok-ask.field-0 c.loop-track.invariant.asked
      c.in_ok-ask.ensures.asked c.in_ok-push.ensures.items;
  outcomes = outcomes_more c.loop-track.asked.items c.push.new.self.items c.in_ok-ask.field-0 c.args.tracks.now
      c.loop-track.track-index c.track-item.result c.loop-track.invariant.outcomes
      c.loop-track-test.true (c.in_ok-ask.ensures.values ∙ ap (λ (s : Scenario). s.values) c.track-item.is)
      c.in_ok-push.ensures.items;
}
