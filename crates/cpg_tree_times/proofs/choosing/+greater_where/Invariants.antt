-- Recursion of `greater_where`, which adds the tree of what is made of the greater number of two trees if a chooser is
-- true, and otherwise of the value `none`, for the scenarios of two spaces.
use Rattle.std.proofs.Common.{length}
use Rattle.cpg_tree_times.proofs.choosing.+greater_where.Given as goal

-- each call goes to a side of the chooser's fork, which has fewer items
abbrev pub decreases-greater_where : goal.decreases-greater_where
decreases-greater_where g l = length l.chooser.now
