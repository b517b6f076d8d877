-- Proof of `condition_names`: the name of the process of each condition.
use Rattle.std.proofs.Common.{◌∙◌, ap, ap₂, arith, length, get_or}
use Rattle.std.proofs.lemmas.List.{get_or_default}
use Rattle.cpg_base.specs.Graph.{disjunctions, process_at, process_of}
use Rattle.cpg_base.specs.declared.process.Process.{Process}
use Rattle.cpg_base.proofs.Items.{process_of_below}
use Rattle.cpg_label.proofs.Steps.{next_mapped}
use Rattle.cpg_label.proofs.labels.condition_names.Goals as goal

-- the process of a condition is one of the graph's, so it has a place among them
pub bounds-processes-process : goal.bounds-processes-process
bounds-processes-process c =
    omega (
      arith,
      process_of_below c.args.problem.now c.loop-condition.condition
          (omega (arith, c.conditions-condition-end.ensures.count)),
      c.process_of-process.ensures.process,
      ap length c.processes.ensures.processes,
    )

-- the names of the conditions so far get that of this one: its process is the next one with a condition
pub loop-condition-preserved : goal.loop-condition-preserved
loop-condition-preserved c =
    let problem = c.args.problem.now in
    next_mapped (λ n. n.now) (λ p. (process_at problem p).name) c.loop-condition.names.items c.push.new.self.items _
    (disjunctions problem) c.loop-condition.condition 0
    (omega (arith, c.conditions-condition-end.ensures.count)) c.loop-condition.invariant c.in_ok-push.ensures.items
    (ap (λ (p : Process). p.name) (ap₂ (λ ps i. get_or ps i c.index-processes-process.result)
    c.processes.ensures.processes c.process_of-process.ensures.process
    ∙ get_or_default problem.processes (process_of problem c.loop-condition.condition) c.index-processes-process.result
    _ (process_of_below problem c.loop-condition.condition (omega (arith, c.conditions-condition-end.ensures.count)))))
