-- Proof of `head_processes`, which returns what the head for a graph says of each process, by number.
use Rattle.cpg_base.proofs.Lists.{map_below_push}
use Rattle.cpg_head.specs.GraphHead.{head_process}
use Rattle.cpg_head.proofs.graph_head.head_processes.Goals as goal

-- what the head says of the next process is added behind what it says of those before
pub loop-process-preserved : goal.loop-process-preserved
loop-process-preserved c =
    map_below_push (head_process c.args.problem.now) c.loop-process.processes.items c.push.new.self.items
    c.in_ok-head_process.field-0 c.loop-process.process
    c.loop-process.invariant c.in_ok-head_process.ensures c.in_ok-push.ensures.items
