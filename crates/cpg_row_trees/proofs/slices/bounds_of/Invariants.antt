-- Loops of `bounds_of`, which returns how many of the literals are on narrow variables; `None` if one doesn't hold in
-- the whole space or has a number outside its range.
use Rattle.std.proofs.Common.{take}
use Rattle.cpg_row_trees.specs.Slices.{AreSpaceBounds}
use Rattle.cpg_row_trees.proofs.slices.bounds_of.Given as goal

-- the literals so far hold in the whole space and have no number outside it, and at least `found` of them are on narrow
-- variables
abbrev pub invariant-loop-literal : goal.invariant-loop-literal
invariant-loop-literal l = AreSpaceBounds l.k l.space (take l.literal-index l.literals) l.found
