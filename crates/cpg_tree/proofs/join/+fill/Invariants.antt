-- Recursion of `fill_items` and `fill_fork`, which call each other.
use Rattle.std.proofs.Common.{◌+◌, ◌*◌, length}
use Rattle.cpg_tree.proofs.join.+fill.Given as goal

-- a side of a fork has fewer items than the fork, and `fill_items` calls `fill_fork` with the same items
abbrev pub decreases-fill_items : goal.decreases-fill_items
decreases-fill_items g l = length l.items.now * 2 + 1

-- it calls `fill_items` on the sides of a fork, which are shorter lists
abbrev pub decreases-fill_fork : goal.decreases-fill_fork
decreases-fill_fork g l = length l.items.now * 2
