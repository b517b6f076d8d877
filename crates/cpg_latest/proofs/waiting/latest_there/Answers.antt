-- Proof of `latest_there`: when all of these inputs are there in a course, or 0 if there are none.
use Rattle.std.proofs.Common.{get_or}
use Rattle.std.proofs.lemmas.List.Elements.{Contains-get_or}
use Rattle.cpg_latest.proofs.waiting.latest_there.Goals as goal

-- each number in the list is that of an edge
pub input_there-requires-clause-edge : goal.input_there-requires-clause-edge
input_there-requires-clause-edge c = c.requires.edges (get_or c.args.edges.now c.loop-edge.edge-index 0)
    (Contains-get_or c.args.edges.now c.loop-edge.edge-index 0 c.loop-edge-test.true)
