-- Proof of `is_live`: whether an edge is live in the outcome of a scenario, as the guards of the graph tell it.
use Rattle.std.proofs.Common.{arith}
use Rattle.cpg_rules.proofs.EdgeGuards.{length-edges}
use Rattle.cpg_latest.proofs.asking.is_live.Goals as goal

-- the guards have as many edges as the graph
pub live-live-requires-clause-edge : goal.live-live-requires-clause-edge
live-live-requires-clause-edge c = let admitted = c.requires.admitted in let within = c.requires.edge in
    omega (arith, length-edges c.args.problem.now admitted.0 c.args.guards.now admitted.1.guards)

-- the guards, which are those of the graph, tell whether the edge is live
pub returns : goal.returns
returns c = let admitted = c.requires.admitted in
    c.live-live.ensures.live c.args.problem.now admitted.0 admitted.1.topological admitted.1.guards
