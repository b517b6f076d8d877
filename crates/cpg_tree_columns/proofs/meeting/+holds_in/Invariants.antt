-- Recursion of `holds_in`, which says whether the tree is true in some scenario of the space.
use Rattle.std.proofs.Common.{length}
use Rattle.cpg_tree_columns.proofs.meeting.+holds_in.Given as goal

-- each call goes to a side of the fork, which has fewer items
abbrev pub decreases-holds_in : goal.decreases-holds_in
decreases-holds_in l = length l.items.now
