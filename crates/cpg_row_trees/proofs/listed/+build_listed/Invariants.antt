-- Recursion of `build_listed`, which adds the tree for the scenarios of a space, whose first cube is at a place, and
-- returns the place behind its last cube; the space is as before then.
use Rattle.std.proofs.Common.{◌+◌, ◌*◌}
use Rattle.cpg_row_trees.proofs.listed.+build_listed.Given as goal

-- The three functions call each other in a circle. A step takes 1 from `left`, the items that may still be added;
-- the 2, 1 and 0 order the calls that take none. So the measure gets smaller at each call.
abbrev pub decreases-build_listed_fork : goal.decreases-build_listed_fork
decreases-build_listed_fork l = 3 * l.growth.now.left + 2

-- it calls `build_listed` with the same number of items left
abbrev pub decreases-build_listed_above : goal.decreases-build_listed_above
decreases-build_listed_above l = 3 * l.growth.now.left + 1

-- it takes one of the items left before it calls `build_listed_fork`
abbrev pub decreases-build_listed : goal.decreases-build_listed
decreases-build_listed l = 3 * l.growth.now.left
