-- Recursion of `composed`: returns the part with the tree of a process with these inputs.
use Rattle.std.proofs.Common.{length}
use Rattle.cpg_rules.proofs.composing.+composed.Given as goal

-- each call of `composed` goes to the inputs behind the first, so the list gets shorter
abbrev pub decreases-composed : goal.decreases-composed
decreases-composed l = length l.inputs.now
