-- Loops of `are_equal`: whether two lists of literals are equal.
use Rattle.std.proofs.Common.{◌≡◌, take}
use Rattle.cpg_cover.proofs.memory.are_equal.Given as goal

-- the literals of the two before `place` are the same
abbrev pub invariant-loop-place : goal.invariant-loop-place
invariant-loop-place l = take l.place l.literals ≡ take l.place l.others
