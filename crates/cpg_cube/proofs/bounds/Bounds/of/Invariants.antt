-- Loops of `Bounds::of`, which returns the ranges of a cube, given as its literals.
use Rattle.std.proofs.Common.{◌≡◌, take, length}
use Rattle.cpg_cube.specs.Bounds.{AreBounds}
use Rattle.cpg_cube.proofs.bounds.Bounds.of.Given as goal

-- both lists have the ranges of the cube of the literals so far, for each of the 256 variables
abbrev pub invariant-loop-literal : goal.invariant-loop-literal
invariant-loop-literal l = record {
  bounds : AreBounds (take l.literal-index l.literals) l.low l.high;
  lows : length l.low ≡ 256;
  highs : length l.high ≡ 256;
}
