-- Proof of `compile_tracks`: returns the rows of the track order, given that it is taken and nothing is late under it.
use Rattle.std.proofs.Common.{refl, sym, subst}
use Rattle.cpg_order.specs.Urgency.{IsTopological, first_order}
use Rattle.cpg_reach.specs.Wide.{IsNarrow}
use Rattle.cpg_core.specs.GrownFor.{IsGrownFor}
use Rattle.cpg_core.specs.Compiled.{IsCompileOrder}
use Rattle.cpg_core.proofs.Figures.{tracked_in_time}
use Rattle.cpg_core.proofs.RowsCompiled.{compiled_rows}
use Rattle.cpg_core.proofs.compiling.compile_tracks.Goals as goal

-- the order under which the trees were grown is the track order, which is topological
pub build-requires-clause-topological : goal.build-requires-clause-topological
build-requires-clause-topological c =
    subst (IsTopological c.args.admitted.now.graph) (sym c.in_ok-grown.ensures.same) c.requires.topological

-- no item is too wide under the track order, so none is under the order of the trees
pub build-requires-clause-narrow : goal.build-requires-clause-narrow
build-requires-clause-narrow c =
    subst (IsNarrow c.args.admitted.now.graph) (sym c.in_ok-grown.ensures.same) c.requires.narrow

-- the trees are those of the track order, which is their own
pub build-requires-clause-grown : goal.build-requires-clause-grown
build-requires-clause-grown c =
    subst (λ order. IsGrownFor c.args.admitted.now.graph c.args.admitted.now.order order c.in_ok-grown.grown)
    (sym c.in_ok-grown.ensures.same) c.in_ok-grown.ensures

-- the rows of the track order are those of its compilations, as it is the compile's order
pub returns : goal.returns
returns c =
    let g = c.args.admitted.now.graph in
    let urgency = c.args.admitted.now.order in
    -- the graph is admitted, and its first order is topological
    let admitted = c.first_order-order.ensures.admitted in
    let top : IsTopological g (first_order g urgency) =
    rw c.first_order-order.ensures.order at c.first_order-order.ensures.topological in
    let zero = tracked_in_time g admitted.well_formed urgency admitted.topological top c.args.order
    c.requires.topological
    c.in_ok-grown.grown c.in_ok-grown.ensures 0 c.requires.in_time.0 c.requires.in_time.1
    refl in
    compiled_rows g urgency c.args.admitted.now.guards admitted top c.requires.first c.in_ok-grown.grown
    c.in_ok-rows.rows
    c.in_ok-rows.ensures.rows c.in_ok-rows.ensures.measures.0 zero
    (subst (IsCompileOrder g urgency) (sym c.in_ok-grown.ensures.same) c.requires.taken)
