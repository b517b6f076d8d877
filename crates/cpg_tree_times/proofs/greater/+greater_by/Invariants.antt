-- Recursion of `greater_by`, which adds the tree of what is made of the greater number of two trees, for the scenarios
-- of two spaces.
use Rattle.std.proofs.Common.{length}
use Rattle.cpg_tree_times.proofs.greater.+greater_by.Given as goal

-- each call goes to a side of the first tree's fork, which has fewer items
abbrev pub decreases-greater_by : goal.decreases-greater_by
decreases-greater_by g l = length l.own.items.now
