-- Loops of `around_border`, which returns between which two places of a slice its border lies, which is the first place
-- from which on all cubes ask for a number above a cut.
use Rattle.std.proofs.Common.{◌-◌, ◌≤◌}
use Rattle.cpg_row_trees.proofs.slices.around_border.Given as goal

-- the step is at least 1, so each turn brings the end nearer to the start of the slice
abbrev pub invariant-loop-end : goal.invariant-loop-end
invariant-loop-end l = 1 ≤ l.step

-- the end of the search comes nearer to the start of the slice
abbrev pub decreases-loop-end : goal.decreases-loop-end
decreases-loop-end l = l.end - l.slice.from
