-- Recursion of `bounded_part`, which returns the part of a tree that all scenarios of a space come to, with its spans.
use Rattle.std.proofs.Common.{length}
use Rattle.cpg_tree_times.proofs.greater.+bounded_part.Given as goal

-- each call goes to a side of the fork, which has fewer items
abbrev pub decreases-bounded_part : goal.decreases-bounded_part
decreases-bounded_part g l = length l.tree.items.now
