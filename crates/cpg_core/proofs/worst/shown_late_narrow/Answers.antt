-- Proof of `shown_late_narrow`: returns the fault `Late` of a late graph in which no item is too wide by its views, or
-- `OutOfMemory`.
use Rattle.cpg_order.specs.Urgency.{IsTopological, first_order}
use Rattle.cpg_core.proofs.Figures.{grown_late}
use Rattle.cpg_core.proofs.worst.shown_late_narrow.Goals as goal

-- the graph is late, so something is late by the trees of the first order
pub late_narrow-requires-clause-late : goal.late_narrow-requires-clause-late
late_narrow-requires-clause-late c =
    let g = c.args.admitted.now.graph in
    let urgency = c.args.admitted.now.order in
    -- the graph is admitted, and its first order is topological
    let admitted = c.first_order-order.ensures.admitted in
    let top : IsTopological g (first_order g urgency) =
    rw c.first_order-order.ensures.order at c.first_order-order.ensures.topological in
    grown_late g admitted.well_formed urgency admitted.topological top c.in-Ok.first c.in-Ok.ensures c.requires.late
