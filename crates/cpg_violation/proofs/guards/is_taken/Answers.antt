-- Proof of `is_taken`: whether in each scenario of a space the source of an edge has the value that the edge asks for.
use Rattle.std.proofs.Common.{◌≡◌, ◌∙◌, Some, sym}
use Rattle.cpg_base.specs.Graph.{condition_of, edge_at, source}
use Rattle.cpg_tree.proofs.Passes.{of_true}
use Rattle.cpg_violation.proofs.GuardLaws.{taken_of}
use Rattle.cpg_violation.proofs.guards.is_taken.Goals as goal

-- the space implies the literal of the value that the edge asks for, so it is there
pub returns : goal.returns
returns c =
    let graph = c.args.problem.now in
    let is : condition_of graph (source graph c.args.edge) ≡ Some c.in-Some-condition_of.condition =
    rw c.edge_of-edge.ensures.edge at (sym c.condition_of.ensures ∙ c.in-Some-condition_of.is) in
    let asks : (edge_at graph c.args.edge).when ≡ Some c.in-Some.value =
    rw c.edge_of-edge.ensures.edge at c.in-Some.is in
    of_true c.implies.result c.implies.ensures
    (λ told s lies. taken_of graph s (source graph c.args.edge) c.in-Some-condition_of.condition
    (edge_at graph c.args.edge).when c.in-Some.value is asks (rw c.value_literal.ensures at (told s lies)))
