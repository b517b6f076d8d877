-- Recursion of `build_place_tree`, which adds the tree of these places for the scenarios of a space, and leaves the
-- space as it was.
use Rattle.std.proofs.Common.{◌+◌, ◌*◌}
use Rattle.cpg_row_trees.proofs.places.+build_place_tree.Given as goal

-- The two functions call each other in a circle. A step takes 1 from `left`, the items that may still be
-- added; the 1 orders the calls that take none. So the measure gets smaller at each call.
abbrev pub decreases-build_forked_places : goal.decreases-build_forked_places
decreases-build_forked_places l = 2 * l.growth.now.left + 1

-- it takes one of the items left before it calls `build_forked_places`
abbrev pub decreases-build_place_tree : goal.decreases-build_place_tree
decreases-build_place_tree l = 2 * l.growth.now.left
