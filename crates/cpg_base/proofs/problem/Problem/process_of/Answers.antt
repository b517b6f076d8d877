-- Proof of `Problem::process_of`: the process of a condition.
use Rattle.std.proofs.Common.{◌≡◌, ◌∙◌, ◌<◌, ap, sym, subst, get_or}
use Rattle.cpg_base.specs.Graph.{condition_of, disjunctions, process_count}
use Rattle.cpg_base.proofs.Items.{process_of_below}
use Rattle.cpg_base.proofs.Found.{condition_back}
use Rattle.cpg_base.proofs.problem.Problem.process_of.Goals as goal

-- conditions are numbered by their places in a list without repeats, so the process's condition is this one
pub returns-clause-back : goal.returns-clause-back
returns-clause-back c =
    let same : c.processes.result.now ≡ disjunctions c.args.self.now =
    c.processes.ensures.processes ∙ c.self.invariant.1 ∙ ap disjunctions c.self.view_is in
    ap (λ ps. condition_of c.args.self.now (get_or ps c.args.condition 0)) same
    ∙ condition_back c.args.self.now c.args.condition c.requires

-- the list of those with a condition has only processes of the graph
pub returns-clause-within : goal.returns-clause-within
returns-clause-within c =
    let same : c.processes.result.now ≡ disjunctions c.args.self.now =
    c.processes.ensures.processes ∙ c.self.invariant.1 ∙ ap disjunctions c.self.view_is in
    subst (λ ps. get_or ps c.args.condition 0 < process_count c.args.self.now) (sym same)
    (process_of_below c.args.self.now c.args.condition c.requires)
