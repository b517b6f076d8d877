-- Loops of `both_ways`: returns the outcomes that come of these if the condition is chosen too: one or two of each,
-- false before true.
use Rattle.std.proofs.Common.{◌≡◌, All, take}
use Rattle.std.specs.List.{flat_map}
use Rattle.cpg_tracks.specs.Walks.{both_ways_at}
use Rattle.cpg_tracks.specs.Track.{outcomes_of, HasValues}
use Rattle.cpg_tracks.proofs.track.both_ways.Given as goal

-- each outcome so far is there, and after it with the condition true if the condition's process is active; each has a value
-- for each condition
abbrev pub invariant-loop-scenario : goal.invariant-loop-scenario
invariant-loop-scenario l = record {
  -- the outcomes so far have gone both ways
  ways : outcomes_of l.ways.items
      ≡ flat_map (both_ways_at l.problem l.condition) (outcomes_of (take l.scenario-index l.scenarios));
  -- each has a value for each condition
  values : All (HasValues l.problem) l.ways.items;
}
