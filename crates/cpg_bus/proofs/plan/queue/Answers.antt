-- Proof of `queue`: returns the items that a process sends: its broadcast first, then its messages by number.
use Rattle.std.proofs.Common.{get_or, Contains, subst}
use Rattle.std.proofs.lemmas.List.Elements.{Contains-get_or}
use Rattle.cpg_base.proofs.Inputs.{outputs_parts}
use Rattle.cpg_bus.proofs.plan.queue.Goals as goal

-- an output of a process is an edge of the graph
pub is_message-requires : goal.is_message-requires
is_message-requires c =
    let edge = get_or c.outputs-edge-items.result.now c.loop-edge.edge-index 0 in
    (outputs_parts c.args.problem.now c.args.process edge
    (subst (λ es. Contains es edge) (c.outputs-edge-items.ensures.of_graph c.args.problem.now c.requires.links)
    (Contains-get_or c.outputs-edge-items.result.now c.loop-edge.edge-index 0 c.loop-edge-test.true))).0
