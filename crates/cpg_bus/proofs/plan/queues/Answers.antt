-- Proof of `queues`: returns the items that each process sends, by process.
use Rattle.cpg_base.proofs.Lists.{map_below_push}
use Rattle.cpg_bus.specs.Plan.{queue_of}
use Rattle.cpg_bus.proofs.plan.queues.Goals as goal

-- the queue of one more process is added
pub loop-process-preserved : goal.loop-process-preserved
loop-process-preserved c = map_below_push (queue_of c.args.problem.now) c.loop-process.queues.items
    c.push.new.self.items c.in_ok-queue.field-0 c.loop-process.process c.loop-process.invariant
    c.in_ok-queue.ensures c.in_ok-push.ensures.items
