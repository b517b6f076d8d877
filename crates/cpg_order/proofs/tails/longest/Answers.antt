-- Proof of `longest`: returns the longest way over one of these edges and on, and 0 if there are none.
use Rattle.std.proofs.Common.{get_or}
use Rattle.std.proofs.lemmas.List.Elements.{Contains-get_or}
use Rattle.cpg_order.proofs.tails.longest.Goals as goal

-- each of these edges is one of the graph
pub delay-requires : goal.delay-requires
delay-requires c = c.requires.outputs (get_or c.args.outputs.now c.loop-edge.edge-index 0)
    (Contains-get_or c.args.outputs.now c.loop-edge.edge-index 0 c.loop-edge-test.true)

-- each of these edges is one of the graph
pub target-requires : goal.target-requires
target-requires c = c.requires.outputs (get_or c.args.outputs.now c.loop-edge.edge-index 0)
    (Contains-get_or c.args.outputs.now c.loop-edge.edge-index 0 c.loop-edge-test.true)
