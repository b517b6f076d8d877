-- Proof of `is_edge_running`: whether an edge is live in each scenario of a space: its source always has the asked
-- value, and is always active.
use Rattle.std.proofs.lemmas.Bool.{OnTrue_at}
use Rattle.cpg_base.specs.Activity.{active, takes, value_of}
use Rattle.cpg_base.specs.Graph.{edge_at, source}
use Rattle.cpg_tree.proofs.Passes.{of_true}
use Rattle.cpg_violation.proofs.GuardLaws.{both_there}
use Rattle.cpg_violation.proofs.guards.is_edge_running.Goals as goal

-- the source is active and has the value in the whole space, so the edge is live
pub returns : goal.returns
returns c =
    let graph = c.args.admitted.now.graph in
    let edge = c.args.edge in
    of_true c.is_running.result c.is_running.ensures (λ on s lawful lies.
    both_there (active graph s.values (source graph edge))
    (takes (edge_at graph edge).when (value_of graph s.values (source graph edge)))
    (rw (c.source.ensures.source, c.problem-problem.ensures.problem) at (on s lawful lies))
    (rw c.problem-problem.ensures.problem at (OnTrue_at c.if-not-is_taken.false c.is_taken.ensures s lies)))
