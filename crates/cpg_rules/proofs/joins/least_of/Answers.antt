-- Proof of `least_of`: returns the least scenario in which two inputs of a process are live, and `None` exactly if the
-- process isn't a join or there is no such scenario.
use Rattle.std.proofs.Common.{◌≡◌, ◌∙◌, sym, ap, subst, None, true, replicate}
use Rattle.cpg_base.specs.Scenario.{IsLeast}
use Rattle.cpg_rules.specs.declared.steps.Aim.TheVariants.{Process}
use Rattle.cpg_rules.specs.Alternatives.{found_from, has_two_live}
use Rattle.cpg_rules.specs.Rested.{rested}
use Rattle.cpg_rules.specs.Steps.{IsStepBelow}
use Rattle.cpg_rules.proofs.Below.{steps_below}
use Rattle.cpg_rules.proofs.Rested.{all_rested, rested_none, rested_some}
use Rattle.cpg_rules.proofs.joins.least_of.Goals as goal

-- the steps are on processes below 128
pub found_from-requires : goal.found_from-requires
found_from-requires c = rw (c.as_slice.ensures.value, c.in_ok-steps.ensures, c.requires.steps)
    (all_rested (IsStepBelow 128) (Process c.args.process) _ (steps_below c.args.problem.now c.args.order.now
    c.requires.topological 128 c.processes.ensures.within.few_processes))

-- the search along the steps that the process rests on finds nothing, so there is nothing
pub returns-in-None-clause-none : goal.returns-in-None-clause-none
returns-in-None-clause-none c = λ values join long. rested_none c.args.problem.now c.args.order.now
    c.requires.topological c.processes.ensures.within.few_processes c.args.process c.requires.process
    (ap (λ s. found_from c.args.process (rested (Process c.args.process) s) (replicate 128 None)) (sym c.requires.steps)
    ∙ ap (λ s. found_from c.args.process s (replicate 128 None))
    (sym (c.as_slice.ensures.value ∙ c.in_ok-steps.ensures)) ∙ sym c.in-None.ensures) values

-- the search along the steps that the process rests on finds the least scenario of all
pub returns-clause-some : goal.returns-clause-some
returns-clause-some c = subst (IsLeast c.args.problem.now c.args.order.now
    (λ s. has_two_live c.args.problem.now s.values c.args.process ≡ true)) (sym c.in_ok-least-in-Some.ensures)
    (rested_some c.args.problem.now c.args.order.now c.requires.topological c.processes.ensures.within.few_processes
    c.args.process c.requires.process c.in-Some.standings
    (ap (λ s. found_from c.args.process (rested (Process c.args.process) s) (replicate 128 None)) (sym c.requires.steps)
    ∙ ap (λ s. found_from c.args.process s (replicate 128 None))
    (sym (c.as_slice.ensures.value ∙ c.in_ok-steps.ensures)) ∙ sym c.in-Some.ensures))
