-- Recursion of `build_slice_tree`, which adds the tree of a slice for the scenarios of a space, which are those that
-- the literals of a path match, and leaves the space and the path as they were.
use Rattle.std.proofs.Common.{◌+◌, ◌*◌}
use Rattle.cpg_row_trees.proofs.slices.+build_slice_tree.Given as goal

-- The two functions call each other in a circle. A step takes 1 from `left`, the items that may still be
-- added; the 1 orders the calls that take none. So the measure gets smaller at each call.
abbrev pub decreases-build_forked_slice : goal.decreases-build_forked_slice
decreases-build_forked_slice l = 2 * l.growth.now.left + 1

-- it takes one of the items left before it calls `build_forked_slice`
abbrev pub decreases-build_slice_tree : goal.decreases-build_slice_tree
decreases-build_slice_tree l = 2 * l.growth.now.left
