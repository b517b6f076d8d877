-- Loops of `outcomes`: returns the outcomes of the tracks, in order, and `None` exactly if there are more than 256.
use Rattle.std.proofs.Common.{◌≡◌, ◌≤◌, ◌∷◌, [], All, length, take}
use Rattle.cpg_order.specs.Counting.{conditions_along, all_false}
use Rattle.cpg_tracks.specs.Tracks.{most_scheduled_tracks}
use Rattle.cpg_tracks.specs.Walks.{tracks_over}
use Rattle.cpg_tracks.specs.Track.{outcomes_of, HasValues}
use Rattle.cpg_tracks.proofs.track.outcomes.Given as goal

-- The outcomes come of choosing the conditions of the processes so far, in turn, from the one in which all are false. Each
-- has a value for each condition, and there aren't too many to schedule.
abbrev pub invariant-loop-process : goal.invariant-loop-process
invariant-loop-process l = record {
  -- the conditions of the processes so far are chosen
  walked : outcomes_of l.scenarios.items
      ≡ tracks_over l.problem (conditions_along l.problem (take l.process-index l.order)) (all_false l.problem ∷ []);
  -- each outcome has a value for each condition
  values : All (HasValues l.problem) l.scenarios.items;
  -- there are few enough to schedule
  few : length l.scenarios.items ≤ most_scheduled_tracks;
}
