-- Proof of `live_edges`: returns for each edge, by number, whether it is live in the scenario.
use Rattle.std.proofs.Common.{ap, length, arith}
use Rattle.cpg_base.specs.Activity.{live}
use Rattle.cpg_base.proofs.Lists.{map_below_push}
use Rattle.cpg_rules.proofs.EdgeGuards.{length-edges}
use Rattle.cpg_tracks.proofs.timing.live_edges.Goals as goal

-- the loop goes over the edges of the graph, and there is a guard for each
pub live-requires-clause-edge : goal.live-requires-clause-edge
live-requires-clause-edge c = let admitted = c.requires.admitted in let within = c.loop-edge-test.true in
    omega (
      arith,
      length-edges c.args.problem.now admitted.0 c.args.guards.now admitted.1.guards,
      ap length
          c.edges-count.ensures.edges,
    )

-- one more edge is marked as live or not
pub loop-edge-preserved : goal.loop-edge-preserved
loop-edge-preserved c = let admitted = c.requires.admitted in
    map_below_push (live c.args.problem.now c.args.scenario.now.values) c.loop-edge.marks.items c.push.new.self.items
    c.live.result c.loop-edge.edge c.loop-edge.invariant
    (c.live.ensures.live c.args.problem.now admitted.0 admitted.1.topological admitted.1.guards)
    c.in_ok-push.ensures.items
