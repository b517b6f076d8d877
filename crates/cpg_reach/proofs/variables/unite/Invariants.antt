-- Loops of `unite`, which marks what the others mark, too.
use Rattle.cpg_reach.proofs.Members.{United}
use Rattle.cpg_reach.proofs.variables.unite.Given as goal

-- the marks below `variable` are those of both lists, and the others are the old ones
abbrev pub invariant-loop-variable : goal.invariant-loop-variable
invariant-loop-variable l = United l.fn.marks l.others l.marks l.variable
