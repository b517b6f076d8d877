-- Recursion of `union`: returns the part of a join with these inputs, and `None` exactly if two of them are live at
-- once in some outcome.
use Rattle.std.proofs.Common.{length}
use Rattle.cpg_rules.proofs.apart.+union.Given as goal

-- each call of `union` goes to the inputs behind the first, so the list gets shorter
abbrev pub decreases-union : goal.decreases-union
decreases-union l = length l.inputs.now
