-- Recursion of `are_along`, which says whether the forks stand along the order on each way down.
use Rattle.std.proofs.Common.{length}
use Rattle.cpg_tree_columns.proofs.along.+are_along.Given as goal

-- each call goes to a side of the fork, which has fewer items
abbrev pub decreases-are_along : goal.decreases-are_along
decreases-are_along g l = length l.items.now
