-- Proof of `condition_name`: what the process of a condition is called.
use Rattle.std.proofs.Common.{ap, sym, ◌∙◌}
use Rattle.cpg_base.specs.Graph.{process_at}
use Rattle.cpg_label.proofs.Called.{condition_called}
use Rattle.cpg_label.proofs.items.condition_name.Goals as goal

-- the name of the condition's process is what the labels of the graph call the condition
pub returns : goal.returns
returns c =
    let problem = c.args.problem.now in
    c.name_of.ensures.name ∙ ap (λ p. (process_at problem p).name) c.process_of.ensures.process
    ∙ sym (condition_called problem c.args.condition c.requires)
