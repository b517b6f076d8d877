-- Recursion of `pick_read`, which adds the tree of the numbers of `on`, as they are read, if the chooser, whose list is
-- `items`, is true, and otherwise of `off`, for the scenarios of a space.
use Rattle.std.proofs.Common.{length}
use Rattle.cpg_tree_times.proofs.picking.+pick_read.Given as goal

-- each call goes to a side of the chooser's fork, which has fewer items
abbrev pub decreases-pick_read : goal.decreases-pick_read
decreases-pick_read g l = length l.items.now
