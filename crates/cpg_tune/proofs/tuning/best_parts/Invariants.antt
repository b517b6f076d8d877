-- Loops of `best_parts`: returns the best number of parts of each process, by number.
use Rattle.std.proofs.Common.{◌≡◌, take}
use Rattle.cpg_tune.specs.Best.{best_parts}
use Rattle.cpg_tune.proofs.tuning.best_parts.Given as goal

-- the list has the best number of parts for each process so far
abbrev pub invariant-loop-process : goal.invariant-loop-process
invariant-loop-process l = l.parts.items ≡ take l.process (best_parts l.problem)
