-- Proof of `faulty`: the scenarios in which every value is false, with faults in all processes.
use Rattle.std.proofs.Common.{◌∙◌, ◌++◌, ◌∷◌, [], ap, sym, subst, length, All, arith}
use Rattle.cpg_base.specs.Scenario.{IsScenario}
use Rattle.cpg_all_runs.proofs.Listed.{faults_first, faults_more, all_lawful_faults}
use Rattle.cpg_all_runs.proofs.enumeration.faulty.Goals as goal

-- the first list has the scenario without faults alone
pub loop-process-init : goal.loop-process-init
loop-process-init c = c.in_ok-push.ensures.items ∙ ap (λ xs. xs ++ c.in_ok-zero.field-0 ∷ []) c.new-list.ensures.items
    ∙ faults_first c.args.problem.now c.in_ok-zero.field-0 c.in_ok-zero.ensures

-- faults below the loop's process don't exceed those of the graph, so all of the list are scenarios of the graph
pub spread_faults-requires-clause-scenarios : goal.spread_faults-requires-clause-scenarios
spread_faults-requires-clause-scenarios c =
    subst (All (IsScenario c.args.problem.now)) (sym (c.as_slice.ensures.value ∙ c.loop-process.invariant))
    (all_lawful_faults c.args.problem.now c.loop-process.process
    (omega (arith, c.loop-process-test.true, ap length c.processes.ensures.processes)))

-- each scenario with each count of one more process gives the next list
pub loop-process-preserved : goal.loop-process-preserved
loop-process-preserved c =
    faults_more c.args.problem.now c.loop-process.process c.as_slice.result.now c.in_ok-list.list.items
    (c.as_slice.ensures.value ∙ c.loop-process.invariant) c.in_ok-list.ensures
