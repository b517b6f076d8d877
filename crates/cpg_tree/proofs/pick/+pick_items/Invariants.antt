-- Recursion of `pick_items`, which adds the tree of the values of `on` if the chooser, whose list is `items`, is true,
-- and otherwise of `off`, for the scenarios of a space.
use Rattle.std.proofs.Common.{length}
use Rattle.cpg_tree.proofs.pick.+pick_items.Given as goal

-- each call goes to a side of the chooser's fork, which has fewer items
abbrev pub decreases-pick_items : goal.decreases-pick_items
decreases-pick_items g l = length l.items.now
