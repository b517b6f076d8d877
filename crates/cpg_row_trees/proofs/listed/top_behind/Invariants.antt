-- Loops of `top_behind`, which returns the top of the tree of a space whose first cube has these literals, if the first
-- `depth` of them say which scenarios are in the space.
use Rattle.std.proofs.Common.{take}
use Rattle.cpg_row_trees.specs.Slices.{IsOwn}
use Rattle.cpg_row_trees.proofs.listed.top_behind.Given as goal

-- the scenarios of the space are those with at most `k` faults that match the literals so far
abbrev pub invariant-loop-at : goal.invariant-loop-at
invariant-loop-at l = IsOwn l.k l.space (take l.at l.literals)
