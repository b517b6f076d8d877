-- Loops of `next`: returns the process to place next: of those that can be placed, the one that would start first, and
-- of several the most urgent.
use Rattle.std.proofs.Common.{ℕ, ◌<◌, Bool, List, Option, IfSome, map, take}
use Rattle.cpg_base.specs.Graph.{process_count}
use Rattle.cpg_tracks.specs.Timing.{AreFree, AreFed, IsBestOf}
use Rattle.cpg_tracks.proofs.schedule.next.Given as goal

-- `best` is the candidate that starts soonest among those so far, or the more urgent one of two that start together
abbrev pub invariant-loop-fed_process : goal.invariant-loop-fed_process
invariant-loop-fed_process l = record {
  -- the best so far is a process of the graph
  within : IfSome l.best (λ c. c.process < process_count l.problem);
  -- it is the best of those so far, in every schedule with these free times and these processes to place
  best : (o : List Bool) (starts : List (Option ℕ)) → AreFree l.problem starts l.free →
      AreFed l.problem o starts l.fed →
      IsBestOf l.problem o starts (map (λ f. f.process) (take l.fed_process-index l.fed)) l.best;
}
