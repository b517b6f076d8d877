-- Proof of `durations_of`, which returns how long an execution of a process lasts at most with 0, 1, .. faults, up
-- to the most that the graph allows.
use Rattle.cpg_base.specs.Duration.{duration}
use Rattle.cpg_base.proofs.Lists.{map_below_push}
use Rattle.cpg_head.proofs.graph_head.durations_of.Goals as goal

-- the duration with the next number of faults is added behind those with less
pub loop-faults-preserved : goal.loop-faults-preserved
loop-faults-preserved c =
    map_below_push (duration c.args.problem.now c.args.process) c.loop-faults.times.items c.push.new.self.items
    c.duration.result c.loop-faults.faults
    c.loop-faults.invariant c.duration.ensures.duration c.in_ok-push.ensures.items
