-- Proof of `edge_guards`: returns the guards of all edges, by number.
use Rattle.cpg_rules.proofs.EdgeGuards.{one_more_edge}
use Rattle.cpg_rules.proofs.edges.edge_guards.Goals as goal

-- the guard of one more edge is found
pub loop-edge-preserved : goal.loop-edge-preserved
loop-edge-preserved c = one_more_edge c.args.problem.now c.edges-edges.result.now c.edges-edges.ensures.edges
    c.loop-edge.edge-index c.loop-edge.guards.items c.loop-edge.invariant
    c.condition_of.result c.test_of.result c.push.new.self.items c.condition_of.ensures c.test_of.ensures
    c.in_ok-push.ensures.items
