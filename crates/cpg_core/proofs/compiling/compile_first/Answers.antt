-- Proof of `compile_first`: returns the rows of the first order, given that it is taken and nothing is late under it,
-- or the fault that shows why there are none.
use Rattle.std.proofs.Common.{refl, sym, subst}
use Rattle.cpg_order.specs.Urgency.{IsTopological, first_order}
use Rattle.cpg_core.specs.Compiled.{IsCompileOrder}
use Rattle.cpg_core.proofs.Figures.{grown_in_time}
use Rattle.cpg_core.proofs.RowsCompiled.{compiled_rows}
use Rattle.cpg_core.proofs.compiling.compile_first.Goals as goal

-- nothing is late under the first order by its trees
pub rows_of_first-requires-clause-in_time : goal.rows_of_first-requires-clause-in_time
rows_of_first-requires-clause-in_time c =
    let g = c.args.admitted.now.graph in
    let urgency = c.args.admitted.now.order in
    -- the graph is admitted, and its first order is topological
    let admitted = c.first_order-order.ensures.admitted in
    let top : IsTopological g (first_order g urgency) =
    rw c.first_order-order.ensures.order at c.first_order-order.ensures.topological in
    grown_in_time g admitted.well_formed urgency admitted.topological top c.in_ok-first.first
    c.in_ok-first.ensures.grown 0
    c.requires.in_time.0 c.requires.in_time.1 refl

-- the rows of the first order are those of its compilations, as it is the compile's order
pub returns-clause-rows : goal.returns-clause-rows
returns-clause-rows c =
    let g = c.args.admitted.now.graph in
    let urgency = c.args.admitted.now.order in
    -- the graph is admitted, and its first order is topological
    let admitted = c.first_order-order.ensures.admitted in
    let top : IsTopological g (first_order g urgency) =
    rw c.first_order-order.ensures.order at c.first_order-order.ensures.topological in
    let zero = grown_in_time g admitted.well_formed urgency admitted.topological top c.in_ok-first.first
    c.in_ok-first.ensures.grown 0
    c.requires.in_time.0 c.requires.in_time.1 refl in
    compiled_rows g urgency c.args.admitted.now.guards admitted top c.in_ok-first.ensures.narrow c.in_ok-first.first
    c.in_ok-rows.rows c.in_ok-rows.ensures.rows c.in_ok-rows.ensures.excess zero
    (subst (IsCompileOrder g urgency) (sym c.in_ok-first.ensures.grown.same) c.requires.taken)
