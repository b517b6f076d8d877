-- The recursion of `start_after`, which goes over the inputs and makes each that comes from another node, except the
-- last such one, a part of the wait.
use Rattle.std.proofs.Common.{length}
use Rattle.cpg_expand.proofs.guarded.+start_after.Given as goal

-- each call hands on the inputs without the first one, so the list gets shorter
abbrev pub decreases-start_after : goal.decreases-start_after
decreases-start_after l = length l.edges.now
