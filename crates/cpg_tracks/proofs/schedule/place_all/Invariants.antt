-- Loops of `place_all`: returns the start of each process of a track, by number, and `None` for each inactive one.
use Rattle.cpg_tracks.specs.Timing.{AreFed}
use Rattle.cpg_tracks.proofs.GreedySteps.{HavePlaced}
use Rattle.cpg_tracks.proofs.schedule.place_all.Given as goal

-- as many processes as there were turns are placed as a greedy schedule asks, `free` says when each node has ended them,
-- and `fed` lists those that can be placed next
abbrev pub invariant-loop-placed : goal.invariant-loop-placed
invariant-loop-placed l = record {
  -- as many are placed as there were turns, and `free` fits the schedule
  placed : HavePlaced l.problem l.track.outcome l.starts.items l.free.items l._placed;
  -- `fed` lists what can be placed next
  fed : AreFed l.problem l.track.outcome l.starts.items l.fed.items;
}
