-- Recursion of `push_columns`, which adds the columns of a tree that is entered with a cube, from left to right.
use Rattle.std.proofs.Common.{length}
use Rattle.cpg_tree_columns.proofs.listing.+push_columns.Given as goal

-- each call goes to a side of the fork, which has fewer items
abbrev pub decreases-push_columns : goal.decreases-push_columns
decreases-push_columns l = length l.items.now
