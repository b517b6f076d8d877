-- Proof of `steps_of`: returns the steps of all processes, in this order.
use Rattle.std.proofs.Common.{arith, ap, length}
use Rattle.cpg_base.proofs.Standing.{process_within}
use Rattle.cpg_rules.proofs.steps.steps_of.Goals as goal

-- what stands in the order is a process of the graph
pub step_of-requires : goal.step_of-requires
step_of-requires c =
    let same = c.processes-process-items.ensures.processes in
    let process_below = process_within c.args.order.now c.processes-process-items.ensures.order
    c.loop-process.process-index
    (omega (arith, ap length same)) in
    rw same (omega arith)
