-- Proof of `expand`, which returns the tables of a graph under an order, with the frozen times and, in time units, the
-- greatest finish and the greatest excess of all runs, each with its least scenario by the urgency order. `TooWide` has
-- the least item that is too wide by its views; it comes before any tree is made.
use Rattle.std.proofs.Common.{◌≡◌, ◌∙◌, subst, sym}
use Rattle.cpg_order.specs.Urgency.{IsTopological}
use Rattle.cpg_run.specs.Built.{IsBuiltFor}
use Rattle.cpg_core.proofs.RowsBuilt.{assembled, built_writable}
use Rattle.cpg_core.proofs.expanding.expand.Goals as goal

-- the grown order is the one that was asked for, so the graph is narrow under it too
pub build-requires-clause-narrow : goal.build-requires-clause-narrow
build-requires-clause-narrow c = rw (sym c.in_ok-grown.ensures.grown.same) at c.in_ok-grown.ensures.narrow

-- rows that are built under a topological order can be written
pub assemble-requires : goal.assemble-requires
assemble-requires c =
    let g = c.args.admitted.now.graph in
    let grown = c.in_ok-grown.grown in
    let same : grown.order ≡ c.args.order.now = c.in_ok-grown.ensures.grown.same ∙ c.in_ok-copy.ensures in
    built_writable g c.args.admitted.now.order c.args.admitted.now.guards c.problem-problem.ensures.admitted grown.order
    (subst (IsTopological g) (sym same) c.requires.topological)
    c.in_ok-rows.rows c.in_ok-rows.ensures.rows

-- the order that was grown is a copy of the one given, so the tables assembled of its rows are that one's
pub returns-clause-built : goal.returns-clause-built
returns-clause-built c =
    let g = c.args.admitted.now.graph in
    let urgency = c.args.admitted.now.order in
    let grown = c.in_ok-grown.grown in
    let same : grown.order ≡ c.args.order.now = c.in_ok-grown.ensures.grown.same ∙ c.in_ok-copy.ensures in
    subst (λ o. IsBuiltFor g urgency o c.in_ok-built.built) same
    (assembled g urgency c.args.admitted.now.guards c.problem-problem.ensures.admitted grown.order
    (subst (IsTopological g) (sym same) c.requires.topological)
    c.in_ok-rows.rows c.in_ok-rows.ensures.rows c.in_ok-built.built c.in_ok-built.ensures)

-- the copied order is the order given, so the graph is narrow under that one
pub returns-clause-narrow : goal.returns-clause-narrow
returns-clause-narrow c = rw c.in_ok-copy.ensures at c.in_ok-grown.ensures.narrow
