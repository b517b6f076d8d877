-- Loops of `feed_targets`: adds the processes that waited for this placed process and can be placed now.
use Rattle.std.proofs.Common.{ℕ, Contains, map, take}
use Rattle.cpg_base.specs.Graph.{outputs}
use Rattle.cpg_tracks.specs.Timing.{outcome_of, IsFedAt}
use Rattle.cpg_tracks.specs.declared.schedule.FedProcess.{FedProcess}
use Rattle.cpg_tracks.proofs.Feeding.{AreTargetsFed}
use Rattle.cpg_tracks.proofs.schedule.feed_targets.Given as goal

-- all in the list can be placed; it has what it had before, and each target of the edges so far that can be placed
abbrev pub invariant-loop-edge : goal.invariant-loop-edge
invariant-loop-edge l = record {
  -- each entry is a process that can be placed, with its right time
  each : (f : FedProcess) → Contains l.fed.items f → IsFedAt l.problem (outcome_of l.timing) l.starts f;
  -- what was in the list is still in it
  kept : (q : ℕ) → Contains (map (λ f. f.process) l.fn.fed.items) q → Contains (map (λ f. f.process) l.fed.items) q;
  -- the targets of the outputs so far are in it, if they can be placed
  targets : AreTargetsFed l.problem (outcome_of l.timing) l.starts
      (take l.edge-index (outputs l.problem l.process)) l.fed.items;
}
