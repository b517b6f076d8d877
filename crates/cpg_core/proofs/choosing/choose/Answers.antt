-- Proof of `choose`: returns the compile's order with its figures.
use Rattle.std.proofs.Common.{rules, sym, subst}
use Rattle.cpg_order.specs.Urgency.{IsTopological, first_order}
use Rattle.cpg_latest.specs.Laws.{HasFigures}
use Rattle.cpg_core.specs.Accepted.{IsTaken}
use Rattle.cpg_core.proofs.CompiledLaws.{mapped_is_some}
use Rattle.cpg_core.proofs.Figures.{first_given, first_many}
use Rattle.cpg_core.proofs.choosing.choose.Goals as goal

-- the graph gives an order, so the first order is taken
pub returns-then-is_some : goal.returns-then-is_some
returns-then-is_some c =
    let g = c.args.admitted.now.graph in
    let urgency = c.args.admitted.now.order in
    -- the graph is admitted, and its first order is topological
    let admitted = c.first_order.ensures.admitted in
    let top : IsTopological g (first_order g urgency) =
    rw c.first_order.ensures.order at c.first_order.ensures.topological in
    let has_figures : HasFigures g (first_order g urgency) c.in_ok-first.first.excess c.in_ok-first.first.worst =
    rw c.first_order.ensures.order at c.in_ok-first.ensures in
    subst (IsTaken g urgency) (sym c.first.ensures)
    (first_given g admitted.well_formed urgency admitted.topological top c.requires.narrow c.in_ok-first.first.excess
    c.in_ok-first.first.worst has_figures
    (mapped_is_some _ c.given.result _ c.given.ensures.given (search rules)))

-- the graph has too many tracks for a track order, so the first order is taken
pub returns-in_default : goal.returns-in_default
returns-in_default c =
    let g = c.args.admitted.now.graph in
    let urgency = c.args.admitted.now.order in
    -- the graph is admitted, and its first order is topological
    let admitted = c.first_order.ensures.admitted in
    let top : IsTopological g (first_order g urgency) =
    rw c.first_order.ensures.order at c.first_order.ensures.topological in
    let has_figures : HasFigures g (first_order g urgency) c.in_ok-first.first.excess c.in_ok-first.first.worst =
    rw c.first_order.ensures.order at c.in_ok-first.ensures in
    subst (IsTaken g urgency) (sym c.first-in_default.ensures)
    (first_many g admitted.well_formed urgency admitted.topological top c.requires.narrow c.in_ok-first.first.excess
    c.in_ok-first.first.worst has_figures (rw c.in_default.is at c.in_ok-order.ensures.many))
