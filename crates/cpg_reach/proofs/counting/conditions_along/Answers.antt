-- Proof of `conditions_along`, which returns the conditions, in the order of their processes.
use Rattle.std.proofs.Common.{◌∙◌, sym, ap, length, get_or, arith}
use Rattle.cpg_base.specs.Graph.{condition_of}
use Rattle.cpg_base.proofs.Standing.{process_within}
use Rattle.cpg_reach.proofs.Counted.{along_takes, along_skips, none_if}
use Rattle.cpg_reach.proofs.counting.conditions_along.Goals as goal
use Rattle.cpg_reach.proofs.counting.conditions_along.Goals.{in-Some+in_ok-push, in_default}

-- what stands at a place of the order is a process
pub condition_of-requires : goal.condition_of-requires
condition_of-requires c =
    let same = c.processes-process-items.ensures.processes in
    let within = process_within c.args.order.now c.processes-process-items.ensures.order c.loop-process.process-index
    (omega (arith, ap length same)) in
    rw same (omega arith)

-- by whether this process has a condition, which is then the next along the order
pub loop-process-preserved : goal.loop-process-preserved
loop-process-preserved c =
    let same = c.processes-process-items.ensures.processes in
    let at = ap (λ xs. condition_of c.args.problem.now (get_or xs c.loop-process.process-index 0)) same in
    elim c.match-condition_of.branch [
      | in-Some+in_ok-push w ↦ along_takes c.args.problem.now c.args.order.now c.loop-process.process-index
          w.in-Some.condition c.loop-process.conditions.items c.match-condition_of.conditions.items
          (omega (arith, ap length same)) c.loop-process.invariant (sym at ∙ sym w.in-Some.ensures)
          (ap (λ v. v.items) w.conditions-is ∙ w.in_ok-push.ensures.items)
      | in_default w ↦ ap (λ v. v.items) w.conditions-is
          ∙ along_skips c.args.problem.now c.args.order.now c.loop-process.process-index c.loop-process.conditions.items
          (omega (arith, ap length same)) c.loop-process.invariant
          (sym at ∙ sym c.condition_of.ensures ∙ none_if c.condition_of.result w.in_default.not-Some)
    ]
