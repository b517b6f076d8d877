-- Recursion of `at_items`, which returns the value at the leaf that a scenario comes to in a tree, given as its list.
use Rattle.std.proofs.Common.{length}
use Rattle.cpg_tree.proofs.at.+at_items.Given as goal

-- each call goes to a side of the fork, which has fewer items
abbrev pub decreases-at_items : goal.decreases-at_items
decreases-at_items g l = length l.items.now
