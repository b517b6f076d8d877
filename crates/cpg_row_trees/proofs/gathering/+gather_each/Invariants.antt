-- Recursion of `gather_each`, which adds the places that scenarios of a space come to.
use Rattle.std.proofs.Common.{length}
use Rattle.cpg_row_trees.proofs.gathering.+gather_each.Given as goal

-- each call goes to a side of the fork, which has fewer items
abbrev pub decreases-gather_each : goal.decreases-gather_each
decreases-gather_each g l = length l.items.now
