-- Recursion of `views_from`, which returns how many views there are with the values set so far, if the values of
-- `conditions` are still to be chosen; `most` if there are more.
use Rattle.std.proofs.Common.{length}
use Rattle.cpg_reach.proofs.counting.+views_from.Given as goal

-- each call goes on with one condition less
abbrev pub decreases-views_from : goal.decreases-views_from
decreases-views_from l = length l.conditions.now
