-- Loops of `greatest_figures`: the greatest excess and the greatest finish of these lanes, in their courses with all
-- the faults.
use Rattle.std.proofs.Common.{◌≡◌, map, take}
use Rattle.cpg_base.specs.Numbers.{greatest}
use Rattle.cpg_latest.specs.Lanes.{excess_of_course, finish_of, last_course}
use Rattle.cpg_latest.proofs.figures.greatest_figures.Given as goal

-- `excess`, `worst`: each figure is the greatest of the lanes so far, of their courses with all the faults
abbrev pub invariant-loop-lane : goal.invariant-loop-lane
invariant-loop-lane l = record {
  excess : l.figures.excess
      ≡ greatest (map (λ c. excess_of_course l.problem (last_course l.problem c)) (take l.lane-index l.lanes));
  worst : l.figures.worst
      ≡ greatest (map (λ c. finish_of l.problem (last_course l.problem c)) (take l.lane-index l.lanes));
}
