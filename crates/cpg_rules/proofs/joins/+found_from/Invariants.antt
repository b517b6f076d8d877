-- Recursion of `found_from`: returns the first standings at a process with which two of its inputs are live, and
-- `None` exactly if no way along the steps leads to such standings.
use Rattle.std.proofs.Common.{length}
use Rattle.cpg_rules.proofs.joins.+found_from.Given as goal

-- each call of `found_from` goes to the steps behind the first, so the list gets shorter
abbrev pub decreases-found_from : goal.decreases-found_from
decreases-found_from l = length l.steps.now
