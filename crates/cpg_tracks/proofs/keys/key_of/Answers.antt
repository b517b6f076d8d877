-- Proof of `key_of`: returns the key of a process: the greatest of its latest start and one more than the key of each
-- predecessor.
use Rattle.std.proofs.Common.{Contains, get_or, subst}
use Rattle.std.proofs.lemmas.List.Elements.{Contains-get_or}
use Rattle.cpg_base.proofs.Inputs.{inputs_parts}
use Rattle.cpg_tracks.proofs.keys.key_of.Goals as goal

-- an input of the process is an edge of the graph
pub source-requires : goal.source-requires
source-requires c =
    let graph = c.args.problem.now in
    let edges = c.inputs-edge-items.result.now in
    let edge = get_or edges c.loop-edge.edge-index 0 in
    (inputs_parts graph c.args.process edge
    (subst (λ ys. Contains ys edge) (c.inputs-edge-items.ensures.of_graph graph c.requires.links)
    (Contains-get_or edges c.loop-edge.edge-index 0 c.loop-edge-test.true))).0
