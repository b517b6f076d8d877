-- Loops of `Cube::range_left`, which returns the range that narrowing by a literal leaves its variable: met with the
-- cube's literal on it, if there is one.
use Rattle.std.proofs.Common.{◌≡◌, drop}
use Rattle.cpg_cube.specs.Narrow.{range_left}
use Rattle.cpg_cube.proofs.cube.Cube.range_left.Given as goal

-- no literal so far decides the answer, so it is the answer for the literals still to come
abbrev pub invariant-loop-other : goal.invariant-loop-other
invariant-loop-other l = range_left l.literal l.other-items ≡ range_left l.literal (drop l.other-index l.other-items)
