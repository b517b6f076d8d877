-- Recursion of `from_variable`: the literals from the first on whose variable is a given one or above.
use Rattle.std.proofs.Common.{length}
use Rattle.cpg_list.proofs.least.+from_variable.Given as goal

-- each call goes on with one literal less
abbrev pub decreases-from_variable : goal.decreases-from_variable
decreases-from_variable l = length l.literals.now
