-- Loops of `ready_time`: returns when an active process is ready; `None` exactly if it is placed already, or the
-- source of a live input isn't.
use Rattle.std.proofs.Common.{ℕ, ◌≡◌, ◌∷◌, true, Contains, filter, map, take}
use Rattle.cpg_base.specs.Numbers.{greatest}
use Rattle.cpg_base.specs.Graph.{process_at, source, inputs}
use Rattle.cpg_base.specs.Activity.{live}
use Rattle.cpg_tracks.specs.Tracks.{input_ready}
use Rattle.cpg_tracks.specs.Placing.{has_start}
use Rattle.cpg_tracks.specs.Timing.{outcome_of}
use Rattle.cpg_tracks.proofs.schedule.ready_time.Given as goal

-- `ready` is the latest of the release and of the live inputs so far, and the source of each of these has its start
abbrev pub invariant-loop-edge : goal.invariant-loop-edge
invariant-loop-edge l = record {
  -- the latest of the release and the times of the live inputs so far
  ready : l.ready ≡ greatest ((process_at l.problem l.process).release ∷ map (input_ready l.problem l.starts)
      (filter (live l.problem (outcome_of l.timing)) (take l.edge-index (inputs l.problem l.process))));
  -- the sources of these inputs are placed
  fed : (e : ℕ) →
      Contains (filter (live l.problem (outcome_of l.timing)) (take l.edge-index (inputs l.problem l.process))) e →
      has_start l.starts (source l.problem e) ≡ true;
}
