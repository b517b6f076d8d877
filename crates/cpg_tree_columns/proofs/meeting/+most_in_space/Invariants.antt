-- Recursion of `most_in_space`, which returns the greater of `best` and of the greatest number that the tree has in a
-- scenario of the space in which `wanted` is true; `None` exactly if there is neither.
use Rattle.std.proofs.Common.{length}
use Rattle.cpg_tree_columns.proofs.meeting.+most_in_space.Given as goal

-- each call goes to a side of the fork, which has fewer items
abbrev pub decreases-most_in_space : goal.decreases-most_in_space
decreases-most_in_space l = length l.items.now
