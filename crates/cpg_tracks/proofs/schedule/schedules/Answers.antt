-- Proof of `schedules`: returns the greedy schedule of each of these tracks, in the same order.
use Rattle.std.proofs.Common.{◌^◌, All, sym, subst}
use Rattle.std.proofs.lemmas.List.Elements.{All-push}
use Rattle.cpg_tracks.specs.Tracks.{IsGreedy}
use Rattle.cpg_tracks.specs.Track.{Track, AreBy}
use Rattle.cpg_tracks.proofs.Keyed.{schedules_more}
use Rattle.cpg_tracks.proofs.schedule.schedules.Goals as goal

-- the schedule of one more track is found
pub loop-track-preserved : goal.loop-track-preserved
loop-track-preserved c =
    let graph = c.args.admitted.now.graph in
    record {
      greedy = schedules_more graph c.args.tracks.now c.loop-track.track-index _ c.loop-track.schedules.items
          c.push.new.self.items c.in_ok-greedy_by.field-0 c.loop-track-test.true
          c.loop-track.invariant.greedy
          (subst (λ (t : Track). IsGreedy graph t.outcome c.in_ok-greedy_by.field-0) c.track-item.is
          c.in_ok-greedy_by.ensures.greedy) c.in_ok-push.ensures.items;
      early = subst (All (AreBy (2 ^ 60))) (sym c.in_ok-push.ensures.items)
          (All-push (AreBy (2 ^ 60)) c.loop-track.schedules.items c.in_ok-greedy_by.field-0 c.loop-track.invariant.early
          c.in_ok-greedy_by.ensures.early);
    }
