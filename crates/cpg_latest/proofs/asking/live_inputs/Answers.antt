-- Proof of `live_inputs`: the edges to a process that are live in the outcome of a scenario.
use Rattle.std.proofs.Common.{get_or, Contains, subst}
use Rattle.std.proofs.lemmas.List.Elements.{Contains-get_or}
use Rattle.cpg_base.proofs.Inputs.{inputs_parts}
use Rattle.cpg_latest.proofs.asking.live_inputs.Goals as goal

-- an input of the process is an edge of the graph
pub is_live-requires-clause-edge : goal.is_live-requires-clause-edge
is_live-requires-clause-edge c =
    let edge = get_or c.inputs-edge-items.result.now c.loop-edge.edge-index 0 in
    (inputs_parts c.args.setting.now.problem.now c.args.process edge
    (subst (λ es. Contains es edge) c.inputs-edge-items.ensures
    (Contains-get_or c.inputs-edge-items.result.now c.loop-edge.edge-index 0 c.loop-edge-test.true))).0
