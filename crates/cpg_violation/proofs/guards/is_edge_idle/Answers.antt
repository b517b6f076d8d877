-- Proof of `is_edge_idle`: whether an edge is live in no scenario of a space: its source never has the asked value, or
-- is never active.
use Rattle.std.proofs.lemmas.Bool.{OnTrue_at}
use Rattle.cpg_base.specs.Activity.{active, takes, value_of}
use Rattle.cpg_base.specs.Graph.{edge_at, source}
use Rattle.cpg_tree.proofs.Passes.{of_true}
use Rattle.cpg_violation.proofs.GuardLaws.{idle_source, other_value}
use Rattle.cpg_violation.proofs.guards.is_edge_idle.Goals as goal

-- the source's condition has the other value in the whole space, so the edge isn't live
pub returns-then-is_refused : goal.returns-then-is_refused
returns-then-is_refused c s lawful lies =
    let graph = c.args.admitted.now.graph in
    let edge = c.args.edge in
    other_value (active graph s.values (source graph edge))
    (takes (edge_at graph edge).when (value_of graph s.values (source graph edge)))
    (rw c.problem-problem.ensures.problem at (OnTrue_at c.if-is_refused.true c.is_refused.ensures s lies))

-- the source is never active in the space, so the edge is never live
pub returns : goal.returns
returns c =
    let graph = c.args.admitted.now.graph in
    let edge = c.args.edge in
    of_true c.is_idle.result c.is_idle.ensures (λ idle s lawful lies.
    idle_source (active graph s.values (source graph edge))
    (takes (edge_at graph edge).when (value_of graph s.values (source graph edge)))
    (rw (c.source.ensures.source, c.problem-problem.ensures.problem) at (idle s lawful lies)))
