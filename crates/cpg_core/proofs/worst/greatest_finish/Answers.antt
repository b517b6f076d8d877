-- Proof of `greatest_finish`: returns the greatest finish of a graph that compiles, in time units, or the fault that
-- shows why it has none.
use Rattle.std.proofs.Common.{subst}
use Rattle.cpg_order.specs.Urgency.{first_order}
use Rattle.cpg_reach.specs.Wide.{IsNarrow}
use Rattle.cpg_core.proofs.worst.greatest_finish.Goals as goal

-- no item is found, so none is too wide under the first order
pub narrow_finish-requires : goal.narrow_finish-requires
narrow_finish-requires c =
    let found : IsNarrow c.args.admitted.now.graph c.first_order.result.now =
    rw c.in_default.is at c.in_ok-item.ensures.none in
    record { narrow = subst (IsNarrow c.args.admitted.now.graph) c.first_order.ensures.order found }

-- no item is found, so none is too wide under the order that callers know as the first
pub returns-clause-narrow : goal.returns-clause-narrow
returns-clause-narrow c =
    let found : IsNarrow c.args.admitted.now.graph c.first_order.result.now =
    rw c.in_default.is at c.in_ok-item.ensures.none in
    subst (IsNarrow c.args.admitted.now.graph) c.first_order.ensures.order found
