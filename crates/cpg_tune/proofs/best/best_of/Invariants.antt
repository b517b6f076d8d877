-- Loops of `best_of`: returns the least number of parts from 1 to 255 with which an execution with `faults` faults is
-- shortest.
use Rattle.std.proofs.Common.{◌≡◌, ◌-◌, fold}
use Rattle.std.specs.List.{range_with_len}
use Rattle.cpg_tune.specs.Best.{duration_in, shorter}
use Rattle.cpg_tune.proofs.best.best_of.Given as goal

-- `best` is the best of the numbers of parts below `parts`, and `least` is its duration with `faults` faults
abbrev pub invariant-loop-parts : goal.invariant-loop-parts
invariant-loop-parts l = record {
  -- the best of the numbers of parts so far
  best : l.best ≡ fold (shorter l.process l.faults) 1 (range_with_len 1 (l.parts - 1));
  -- how long the execution lasts with it
  least : l.least ≡ duration_in l.process l.faults l.best;
}
