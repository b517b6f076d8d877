-- Proof of `unite`, which marks what the others mark, too.
use Rattle.std.proofs.Common.{arith, rules}
use Rattle.cpg_reach.proofs.Members.{united_first, united_next, united_all}
use Rattle.cpg_reach.proofs.variables.unite.Goals as goal

-- before the loop the marks are the old ones
pub loop-variable-init : goal.loop-variable-init
loop-variable-init c = united_first c.args.marks.now c.args.others.now

-- the mark at this variable is set if one of both lists has it
pub loop-variable-preserved : goal.loop-variable-preserved
loop-variable-preserved c = united_next c.args.marks.now c.args.others.now c.loop-variable.marks
    c.loop-variable.variable _ (omega arith) (search rules) c.loop-variable.invariant

-- the loop has gone over all marks, so each is set if it is in one of both lists
pub returns : goal.returns
returns c = united_all c.args.marks.now c.args.others.now c.loop-variable.marks c.loop-variable.variable
    (omega arith) c.loop-variable.invariant
