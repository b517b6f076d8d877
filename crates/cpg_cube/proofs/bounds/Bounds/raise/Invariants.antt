-- Loops of `Bounds::raise`, which raises each low to that of a cube, if the cube's is greater.
use Rattle.std.proofs.Common.{◌≡◌, take, length}
use Rattle.cpg_cube.specs.Bounds.{AreRaised}
use Rattle.cpg_cube.proofs.bounds.Bounds.raise.Given as goal

-- each low is the greater of what it was before the loop and that of the literals so far
abbrev pub invariant-loop-literal : goal.invariant-loop-literal
invariant-loop-literal l = record {
  raised : AreRaised (take l.literal-index l.literals) l.fn.self.low l.self.low;
  long : length l.self.low ≡ 256;
}
