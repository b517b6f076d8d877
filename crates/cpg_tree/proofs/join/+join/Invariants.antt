-- Recursion of `join_items` and `join_side`, which call each other.
use Rattle.std.proofs.Common.{◌+◌, ◌*◌, length}
use Rattle.cpg_tree.proofs.join.+join.Given as goal

-- a side of a fork has fewer items than the fork, and `join_side` calls `join_items` with the same items
abbrev pub decreases-join_items : goal.decreases-join_items
decreases-join_items g l = length l.items.now * 2

-- one more than that of `join_items`, which it calls on the same list
abbrev pub decreases-join_side : goal.decreases-join_side
decreases-join_side g l = length l.items.now * 2 + 1
