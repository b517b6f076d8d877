-- Recursion of `map_items` and `map_fork`, which call each other.
use Rattle.std.proofs.Common.{◌+◌, ◌*◌, length}
use Rattle.cpg_tree.proofs.map.+map.Given as goal

-- a side of a fork has fewer items than the fork, and `map_items` calls `map_fork` with the same items
abbrev pub decreases-map_items : goal.decreases-map_items
decreases-map_items g l = length l.items.now * 2 + 1

-- it calls `map_items` on the sides of a fork, which are shorter lists
abbrev pub decreases-map_fork : goal.decreases-map_fork
decreases-map_fork g l = length l.items.now * 2
