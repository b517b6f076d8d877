-- Loops of `push_all`: adds to a cube literals on variables above its own, in their order.
use Rattle.std.proofs.Common.{◌≡◌, ◌++◌, take}
use Rattle.cpg_list.proofs.cubes.push_all.Given as goal

-- the cube has its old literals, and then those so far
abbrev pub invariant-loop-literal : goal.invariant-loop-literal
invariant-loop-literal l = l.cube ≡ l.fn.cube ++ take l.literal-index l.literals
