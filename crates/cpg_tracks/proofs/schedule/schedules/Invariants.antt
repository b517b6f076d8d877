-- Loops of `schedules`: returns the greedy schedule of each of these tracks, in the same order.
use Rattle.std.proofs.Common.{◌^◌, All, map, take}
use Rattle.cpg_tracks.specs.Tracks.{AreSchedules}
use Rattle.cpg_tracks.specs.Track.{AreBy}
use Rattle.cpg_tracks.proofs.schedule.schedules.Given as goal

-- there is a greedy schedule for each track so far, and no start is later than 2 ^ 60
abbrev pub invariant-loop-track : goal.invariant-loop-track
invariant-loop-track l = record {
  -- each track so far has its greedy schedule
  greedy : AreSchedules l.admitted.graph (map (λ t. t.outcome) (take l.track-index l.tracks)) l.schedules.items;
  -- no start overflows what is added to it
  early : All (AreBy (2 ^ 60)) l.schedules.items;
}
