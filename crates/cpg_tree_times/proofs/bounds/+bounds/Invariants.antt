-- Recursion of `push_bounds` and `push_fork_bounds`, which call each other.
use Rattle.std.proofs.Common.{◌+◌, ◌*◌, length}
use Rattle.cpg_tree_times.proofs.bounds.+bounds.Given as goal

-- a side of a fork has fewer items than the fork, and `push_bounds` calls `push_fork_bounds` with the same items
abbrev pub decreases-push_bounds : goal.decreases-push_bounds
decreases-push_bounds g l = length l.items.now * 2 + 1

-- it calls `push_bounds` on the sides of a fork, which are shorter lists
abbrev pub decreases-push_fork_bounds : goal.decreases-push_fork_bounds
decreases-push_fork_bounds g l = length l.items.now * 2
