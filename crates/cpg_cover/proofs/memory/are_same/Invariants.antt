-- Loops of `are_same`: whether two lists of cubes are equal.
use Rattle.std.proofs.Common.{◌≡◌, take}
use Rattle.cpg_cover.proofs.memory.are_same.Given as goal

-- the cubes of the two before `place` are the same
abbrev pub invariant-loop-place : goal.invariant-loop-place
invariant-loop-place l = take l.place l.cubes ≡ take l.place l.others
