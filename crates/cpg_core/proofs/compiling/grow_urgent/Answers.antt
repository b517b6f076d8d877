-- Proof of `grow_urgent`: returns what is found under the urgency order of a graph that gives no order, or the least
-- item that is too wide by its views.
use Rattle.std.proofs.Common.{subst}
use Rattle.cpg_reach.specs.Wide.{IsNarrow}
use Rattle.cpg_core.proofs.compiling.grow_urgent.Goals as goal

-- no item is too wide under the urgency order, which is the first one
pub returns-in-Ok-clause-narrow : goal.returns-in-Ok-clause-narrow
returns-in-Ok-clause-narrow c = subst (IsNarrow c.args.admitted.now.graph) c.requires.first c.in-Ok.ensures.narrow
