-- Loops of `tracks_of`: returns the tracks of these outcomes, in the same order.
use Rattle.std.proofs.Common.{◌≡◌, All, map, take}
use Rattle.cpg_tracks.specs.Track.{IsTrackOf, outcomes_of}
use Rattle.cpg_tracks.proofs.track.tracks_of.Given as goal

-- there is a track for each outcome so far, with its active processes
abbrev pub invariant-loop-scenario : goal.invariant-loop-scenario
invariant-loop-scenario l = record {
  -- the tracks so far have the outcomes so far
  outcomes : map (λ t. t.outcome) l.tracks.items ≡ outcomes_of (take l.scenario-index l.scenarios);
  -- each has the processes that are active in it
  each : All (IsTrackOf l.problem) l.tracks.items;
}
