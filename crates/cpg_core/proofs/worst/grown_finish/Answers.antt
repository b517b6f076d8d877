-- Proof of `grown_finish`: returns the greatest finish of a graph that has too many tracks for a track order, by the
-- trees of its first order, or the fault `Late`.
use Rattle.std.proofs.Common.{None, inl, inr, arith}
use Rattle.cpg_order.specs.Urgency.{IsTopological, first_order}
use Rattle.cpg_core.proofs.Figures.{accepted, grown_many}
use Rattle.cpg_core.proofs.worst.grown_finish.Goals as goal

-- with too many tracks nothing else helps
pub late_narrow-requires-clause-helpless : goal.late_narrow-requires-clause-helpless
late_narrow-requires-clause-helpless c = inr (inl c.requires.many)

-- the first order is the compile's and nothing is late under it, so the graph is accepted with its finish
pub returns-clause-accepted : goal.returns-clause-accepted
returns-clause-accepted c =
    let g = c.args.admitted.now.graph in
    let urgency = c.args.admitted.now.order in
    -- the graph is admitted, and its first order is topological
    let admitted = c.first_order-order.ensures.admitted in
    let top : IsTopological g (first_order g urgency) =
    rw c.first_order-order.ensures.order at c.first_order-order.ensures.topological in
    accepted g urgency
    (record { figures = record { excess = c.in_ok-first.first.excess.time; worst = c.in_ok-first.first.worst.time }; order = None })
    (λ _. c.requires.narrow)
    (grown_many g admitted.well_formed urgency admitted.topological top c.in_ok-first.first c.in_ok-first.ensures
    (λ _. c.requires.narrow) c.requires.many) (omega (arith, c.if-first-gt0.false))
