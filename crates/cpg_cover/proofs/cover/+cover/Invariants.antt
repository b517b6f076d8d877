-- Recursion of `left_of`, `left_of_part` and `left_outside`, which return the least scenario that a list of cubes
-- leaves of a cube, one cube of the list after another.
use Rattle.std.proofs.Common.{◌+◌, ◌*◌, length}
use Rattle.cpg_cover.proofs.cover.+cover.Given as goal

-- The three functions call each other. The cubes that are left count 300 each, which is more than the literals of a
-- cube, so a call with one cube less is smaller, and `left_outside` goes on with one literal less.
abbrev pub decreases-left_of : goal.decreases-left_of
decreases-left_of l = length l.by.items * 300

-- `left_of_part` calls `left_of` with a list that is no longer
abbrev pub decreases-left_of_part : goal.decreases-left_of_part
decreases-left_of_part l = length l.by.now * 300 + 1

-- `left_outside` calls `left_of_part` with the same list, and itself with one literal less
abbrev pub decreases-left_outside : goal.decreases-left_outside
decreases-left_outside l = length l.by.now * 300 + 2 + length l.literals.now
