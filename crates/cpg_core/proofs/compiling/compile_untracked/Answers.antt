-- Proof of `compile_untracked`: returns the rows of the first order of a graph that has too many tracks for a track
-- order, or the fault that shows why there are none.
use Rattle.std.proofs.Common.{◌≡◌, sym, subst, inl, inr, arith}
use Rattle.cpg_order.specs.Urgency.{IsTopological, first_order}
use Rattle.cpg_core.specs.Compiled.{IsCompileOrder}
use Rattle.cpg_core.proofs.Figures.{grown_many}
use Rattle.cpg_core.proofs.RowsCompiled.{compiled_rows}
use Rattle.cpg_core.proofs.compiling.compile_untracked.Goals as goal

-- without a track order nothing else helps
pub late-requires-clause-helpless : goal.late-requires-clause-helpless
late-requires-clause-helpless c = inr (inl c.requires)

-- the graph has no track order, so the first order is the compile's, and its rows are those of its compilations
pub returns-clause-rows : goal.returns-clause-rows
returns-clause-rows c =
    let g = c.args.admitted.now.graph in
    let urgency = c.args.admitted.now.order in
    -- the graph is admitted, and its first order is topological
    let admitted = c.first_order-order.ensures.admitted in
    let top : IsTopological g (first_order g urgency) =
    rw c.first_order-order.ensures.order at c.first_order-order.ensures.topological in
    let zero : c.in_ok-first.first.excess.time ≡ 0 = omega (arith, c.if-first-gt0.false) in
    let is = grown_many g admitted.well_formed urgency admitted.topological top c.in_ok-first.first
    c.in_ok-first.ensures.grown
    c.in_ok-first.ensures.narrow c.requires in
    compiled_rows g urgency c.args.admitted.now.guards admitted top c.in_ok-first.ensures.narrow c.in_ok-first.first
    c.in_ok-rows.rows c.in_ok-rows.ensures.rows c.in_ok-rows.ensures.excess zero
    (subst (IsCompileOrder g urgency) (sym c.in_ok-first.ensures.grown.same) is.taken)
