-- Proof of `is_live`: whether an edge is live.
use Rattle.std.proofs.Common.{arith}
use Rattle.cpg_rules.proofs.EdgeGuards.{length-edges}
use Rattle.cpg_run.proofs.activity.is_live.Goals as goal

-- the guards have a place for each edge
pub live-live-requires-clause-edge : goal.live-live-requires-clause-edge
live-live-requires-clause-edge c =
    let admitted = c.requires.admitted in
    let within = c.requires.edge in
    omega (arith, length-edges c.args.problem.now admitted.0 c.args.guards.now admitted.1.guards)

-- the guards, which are those of the graph, tell whether the edge is live
pub returns : goal.returns
returns c =
    let admitted = c.requires.admitted in
    c.live-live.ensures.live c.args.problem.now admitted.0 admitted.1.topological admitted.1.guards
