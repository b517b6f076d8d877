-- Recursion of `rested`: returns the steps among these that a walk rests on, in the same order.
use Rattle.std.proofs.Common.{length}
use Rattle.cpg_rules.proofs.steps.+rested.Given as goal

-- each call of `rested` goes to the steps behind the first, so the list gets shorter
abbrev pub decreases-rested : goal.decreases-rested
decreases-rested l = length l.steps.now
