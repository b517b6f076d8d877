-- Loops of `sorted_place`, which returns where a cube belongs in a sorted list, or `None` if the list has it already.
use Rattle.std.proofs.Common.{◌≤◌, length}
use Rattle.cpg_cover.proofs.stepping.sorted_place.Given as goal

-- the place is one of the list, or its end
abbrev pub invariant-loop-place : goal.invariant-loop-place
invariant-loop-place l = l.place ≤ length l.cubes

-- each turn goes one place towards the front
abbrev pub decreases-loop-place : goal.decreases-loop-place
decreases-loop-place l = l.place
