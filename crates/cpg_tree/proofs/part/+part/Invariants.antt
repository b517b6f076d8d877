-- Recursion of `part_of` and `part_in`, which call each other.
use Rattle.std.proofs.Common.{◌+◌, ◌*◌, length}
use Rattle.cpg_tree.proofs.part.+part.Given as goal

-- a side of a fork has fewer items than the fork, and `part_of` calls `part_in` with the same items
abbrev pub decreases-part_in : goal.decreases-part_in
decreases-part_in g l = length l.items.now * 2

-- one more than that of `part_in`, which it calls on the same list
abbrev pub decreases-part_of : goal.decreases-part_of
decreases-part_of g l = length l.items.now * 2 + 1
