-- Recursion of `narrow_to_first`, which narrows the cube to that of the first leaf from the left that has the number,
-- and returns true.
use Rattle.std.proofs.Common.{length}
use Rattle.cpg_tree_columns.proofs.peaks.+narrow_to_first.Given as goal

-- each call goes to a side of the fork, which has fewer items
abbrev pub decreases-narrow_to_first : goal.decreases-narrow_to_first
decreases-narrow_to_first l = length l.items.now
