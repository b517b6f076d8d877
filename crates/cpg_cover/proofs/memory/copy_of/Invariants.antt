-- Loops of `copy_of`, which returns a list of equal cubes.
use Rattle.std.proofs.Common.{◌≡◌, take}
use Rattle.cpg_cover.proofs.memory.copy_of.Given as goal

-- the copies are those of the cubes so far
abbrev pub invariant-loop-cube : goal.invariant-loop-cube
invariant-loop-cube l = l.copies.items ≡ take l.cube-index l.cubes
