-- Loops of `all_fed`: returns the processes that can be placed, the lowest first.
use Rattle.std.proofs.Common.{ℕ, ◌<◌, Contains, map}
use Rattle.cpg_tracks.specs.Placing.{IsFed}
use Rattle.cpg_tracks.specs.Timing.{outcome_of, IsFedAt}
use Rattle.cpg_tracks.specs.declared.schedule.FedProcess.{FedProcess}
use Rattle.cpg_tracks.proofs.schedule.all_fed.Given as goal

-- the list has the processes so far that can be placed, each with the time from which it is ready
abbrev pub invariant-loop-process : goal.invariant-loop-process
invariant-loop-process l = record {
  -- each entry is a process that can be placed, with its right time
  each : (f : FedProcess) → Contains l.fed.items f → IsFedAt l.problem (outcome_of l.timing) l.starts f;
  -- each process so far that can be placed is in the list
  all : (q : ℕ) → q < l.process → IsFed l.problem (outcome_of l.timing) l.starts q →
      Contains (map (λ f. f.process) l.fed.items) q;
}
