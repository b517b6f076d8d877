-- Proof of `inputs_there`: when the live inputs of a process are there.
use Rattle.std.proofs.Common.{◌∙◌, if◌then◌else◌, ap, map, Contains, subst}
use Rattle.cpg_base.specs.Numbers.{greatest}
use Rattle.cpg_base.specs.Graph.{inputs}
use Rattle.cpg_base.specs.Activity.{live}
use Rattle.cpg_base.proofs.Inputs.{inputs_parts}
use Rattle.cpg_run.specs.Run.{input_there}
use Rattle.cpg_run.proofs.Senders.{greatest_passing}
use Rattle.cpg_run.proofs.waiting.inputs_there.Goals as goal

-- the inputs of a process are edges of the graph
pub latest_there-requires-clause-edges : goal.latest_there-requires-clause-edges
latest_there-requires-clause-edges c e k =
    (inputs_parts c.args.problem.now c.args.process e (subst (λ es. Contains es e) c.inputs.ensures k)).0

-- an input that isn't live counts 0, so the greatest over all inputs is that of the live ones
pub returns : goal.returns
returns c = c.latest_there.ensures
    ∙ ap (λ es. greatest (map (λ e. if live c.args.problem.now c.args.scenario.now.values e
    then input_there c.args.problem.now c.args.known.now e else 0) es)) c.inputs.ensures
    ∙ greatest_passing (input_there c.args.problem.now c.args.known.now)
    (live c.args.problem.now c.args.scenario.now.values) (inputs c.args.problem.now c.args.process)
