-- Proof of `unfrozen_start`: when an active process could start if it were not frozen, given when its node is ready
-- for it.
use Rattle.std.proofs.Common.{◌∙◌, Contains, subst}
use Rattle.cpg_base.specs.Activity.{live}
use Rattle.cpg_base.specs.Graph.{inputs}
use Rattle.cpg_base.proofs.Inputs.{inputs_parts}
use Rattle.cpg_base.proofs.Lists.{Contains-filter_parts}
use Rattle.cpg_latest.proofs.waiting.unfrozen_start.Goals as goal

-- each live input of the process is an edge of the graph
pub latest_there-inputs-requires-clause-edges : goal.latest_there-inputs-requires-clause-edges
latest_there-inputs-requires-clause-edges c e k =
    let graph = c.args.setting.now.problem.now in
    let is = c.as_slice.ensures ∙ c.requires.asked.inputs in
    (inputs_parts graph c.args.process e (Contains-filter_parts (live graph c.args.asked.now.scenario.now.values)
    (inputs graph c.args.process) e (subst (λ es. Contains es e) is k)).0).0
