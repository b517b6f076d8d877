-- Loops of `shorn_cube`, which returns a copy of the cube without the literals that have the whole range of their
-- variable.
use Rattle.std.proofs.Common.{◌≡◌, take}
use Rattle.cpg_merging.specs.Merging.{shorn}
use Rattle.cpg_merging.proofs.joins.shorn_cube.Given as goal

-- after each literal, the cube has those literals so far that aren't of the whole range
abbrev pub invariant-loop-literal : goal.invariant-loop-literal
invariant-loop-literal l = l.shorn ≡ shorn l.faults (take l.literal-index l.literal-items)
