-- Proof of `taken_of_tracks`: returns which order is taken for a graph that gives none: the track order (`order`) if it
-- is better than the urgency order and no item is too wide under it, and otherwise the urgency order.
use Rattle.std.proofs.Common.{◌∙◌, sym, subst}
use Rattle.std.proofs.lemmas.Bool.{both_ways}
use Rattle.cpg_order.specs.Urgency.{IsTopological, first_order}
use Rattle.cpg_reach.specs.Wide.{IsLeastWide, IsNarrow}
use Rattle.cpg_core.specs.Accepted.{IsTaken}
use Rattle.cpg_core.proofs.Figures.{first_better, first_same, first_wide, tracks_better}
use Rattle.cpg_core.proofs.choosing.taken_of_tracks.Goals as goal

-- the track order is no other than the first order, so the first order is taken
pub returns-then-are_same : goal.returns-then-are_same
returns-then-are_same c =
    let g = c.args.admitted.now.graph in
    let urgency = c.args.admitted.now.order in
    -- the graph is admitted, and its first order is topological
    let admitted = c.first_order-first_order.ensures.admitted in
    let top : IsTopological g (first_order g urgency) =
    rw c.first_order-first_order.ensures.order at c.first_order-first_order.ensures.topological in
    subst (IsTaken g urgency) (sym c.first.ensures)
    (first_same g admitted.well_formed urgency admitted.topological top c.requires.narrow c.args.first.excess
    c.args.first.worst
    c.requires.first c.args.order c.requires.track
    ((rw c.if-are_same.true at c.are_same.ensures) ∙ c.first_order-first_order.ensures.order))

-- the track order is no better than the first, so the first order is taken
pub returns-then-not-is_better : goal.returns-then-not-is_better
returns-then-not-is_better c =
    let g = c.args.admitted.now.graph in
    let urgency = c.args.admitted.now.order in
    -- the graph is admitted, and its first order is topological
    let admitted = c.first_order-first_order.ensures.admitted in
    let top : IsTopological g (first_order g urgency) =
    rw c.first_order-first_order.ensures.order at c.first_order-first_order.ensures.topological in
    subst (IsTaken g urgency) (sym c.first-then-not-is_better.ensures)
    (first_better g admitted.well_formed urgency admitted.topological top c.requires.narrow c.args.first.excess
    c.args.first.worst
    c.requires.first c.args.order c.requires.track c.requires.topological
    c.in_ok-figures.figures.excess c.in_ok-figures.figures.worst c.in_ok-figures.ensures
    (λ better. both_ways c.is_better.result c.if-not-is_better.true (c.is_better.ensures.1 better)))

-- an item is too wide under the track order, so the first order is taken
pub returns-in-Some : goal.returns-in-Some
returns-in-Some c =
    let g = c.args.admitted.now.graph in
    let urgency = c.args.admitted.now.order in
    -- the graph is admitted, and its first order is topological
    let admitted = c.first_order-first_order.ensures.admitted in
    let top : IsTopological g (first_order g urgency) =
    rw c.first_order-first_order.ensures.order at c.first_order-first_order.ensures.topological in
    let least : IsLeastWide g c.args.order c.in-Some.field-0 = rw c.in-Some.is at c.in_ok-too_wide.ensures.some in
    subst (IsTaken g urgency) (sym c.first-in-Some.ensures)
    (first_wide g admitted.well_formed urgency admitted.topological top c.requires.narrow c.args.first.excess
    c.args.first.worst
    c.requires.first c.args.order c.requires.track c.in-Some.field-0 least.wide)

-- the track order is better and nothing is too wide under it, so it is taken
pub returns : goal.returns
returns c =
    let g = c.args.admitted.now.graph in
    let urgency = c.args.admitted.now.order in
    -- the graph is admitted, and its first order is topological
    let admitted = c.first_order-first_order.ensures.admitted in
    let top : IsTopological g (first_order g urgency) =
    rw c.first_order-first_order.ensures.order at c.first_order-first_order.ensures.topological in
    let narrow : IsNarrow g c.args.order = rw c.in_default.is at c.in_ok-too_wide.ensures.none in
    tracks_better g admitted.well_formed urgency admitted.topological top c.requires.narrow c.args.first.excess
    c.args.first.worst
    c.requires.first c.args.order c.requires.track c.requires.topological
    c.in_ok-figures.figures.excess c.in_ok-figures.figures.worst c.in_ok-figures.ensures narrow c.requires.ungiven
    (c.is_better.ensures.0 c.if-not-is_better.false)
