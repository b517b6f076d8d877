-- Proof of `tracks_of`: returns the tracks of these outcomes, in the same order.
use Rattle.std.proofs.Common.{◌∙◌, All, ap, sym, subst}
use Rattle.cpg_base.specs.Scenario.{Scenario}
use Rattle.std.proofs.lemmas.List.Elements.{All-push}
use Rattle.cpg_tracks.specs.Track.{IsTrackOf}
use Rattle.cpg_tracks.proofs.WalkSteps.{outcomes_more}
use Rattle.cpg_tracks.proofs.track.tracks_of.Goals as goal

-- the track of one more outcome is found
pub loop-scenario-preserved : goal.loop-scenario-preserved
loop-scenario-preserved c = record {
  outcomes = outcomes_more c.args.scenarios.now c.loop-scenario.tracks.items c.push.new.self.items
      c.in_ok-track_of.field-0 c.loop-scenario.scenario-index _ c.loop-scenario-test.true
      c.loop-scenario.invariant.outcomes
      (c.in_ok-track_of.ensures.outcome ∙ ap (λ (s : Scenario). s.values) c.scenario-item.is)
      c.in_ok-push.ensures.items;
  each = subst (All (IsTrackOf c.args.problem.now)) (sym c.in_ok-push.ensures.items)
      (All-push (IsTrackOf c.args.problem.now) c.loop-scenario.tracks.items c.in_ok-track_of.field-0
      c.loop-scenario.invariant.each c.in_ok-track_of.ensures.track);
}
