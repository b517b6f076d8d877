-- The recursion of `start_where`, which goes over the inputs and makes each that comes from another node, except the
-- last such one, a part of the wait.
use Rattle.std.proofs.Common.{length}
use Rattle.cpg_expand.proofs.guarded.+start_where.Given as goal

-- each call hands on the inputs without the first one, so the list gets shorter
abbrev pub decreases-start_where : goal.decreases-start_where
decreases-start_where l = length l.edges.now
