-- Loops of `lent`, which returns a reference to each cube, in their order.
use Rattle.std.proofs.Common.{◌≡◌, take, map}
use Rattle.cpg_cover.proofs.cover.lent.Given as goal

-- the cubes lent are those so far
abbrev pub invariant-loop-cube : goal.invariant-loop-cube
invariant-loop-cube l = map (λ b. b.now) l.cubes.items ≡ take l.cube-index l.by
