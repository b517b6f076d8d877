-- Proof of `is_value_free`, which says whether a condition may be true: its value is among the variables, and its
-- process is active.
use Rattle.std.proofs.Common.{◌∙◌, ◌&&◌, sym, ap, subst, length, arith}
use Rattle.cpg_base.proofs.Items.{process_of_below}
use Rattle.cpg_base.specs.Graph.{process_of}
use Rattle.cpg_base.specs.Activity.{active}
use Rattle.cpg_rules.specs.Guards.{AreGuardsOf}
use Rattle.cpg_reach.proofs.counting.is_value_free.Goals as goal

-- the process of the condition has a guard
pub active-requires-clause-process : goal.active-requires-clause-process
active-requires-clause-process c =
    let trees = c.guards-guards.ensures.admitted.guards.count in
    let is = ap (λ g. length g.trees) c.guards-guards.ensures.guards in
    let process =
    c.process_of-process.ensures.process ∙ ap (λ g. process_of g c.args.condition) c.problem.ensures.problem in
    omega (arith, process_of_below c.args.admitted.now.graph c.args.condition c.requires.condition)

-- the value is among the variables, so the condition may be true where its process is active, as the guard says
pub returns : goal.returns
returns c =
    c.active.ensures.active c.args.admitted.now.graph c.args.admitted.now.order
    (subst (AreGuardsOf c.args.admitted.now.graph c.args.admitted.now.order)
    (sym c.guards-guards.ensures.guards) c.guards-guards.ensures.admitted.guards)
    ∙ ap (λ p. active c.args.admitted.now.graph c.args.scenario.now.values p)
    (c.process_of-process.ensures.process ∙ ap (λ g. process_of g c.args.condition) c.problem.ensures.problem)
    ∙ ap (λ b. b && active c.args.admitted.now.graph c.args.scenario.now.values
    (process_of c.args.admitted.now.graph c.args.condition)) c.if-not-has.ensures
