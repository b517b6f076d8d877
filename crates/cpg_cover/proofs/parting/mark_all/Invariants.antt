-- Loops of `mark_all`, which marks the variables of literals.
use Rattle.std.proofs.Common.{take}
use Rattle.cpg_cover.specs.Fewest.{AreMore}
use Rattle.cpg_cover.proofs.parting.mark_all.Given as goal

-- the marks have the old ones and those of the variables of the literals so far
abbrev pub invariant-loop-literal : goal.invariant-loop-literal
invariant-loop-literal l = AreMore (take l.literal-index l.literals) l.fn.marks l.marks
