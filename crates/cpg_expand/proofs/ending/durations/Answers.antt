-- Proof of `durations`, which returns how long an execution of a process lasts with 0, 1, .. k faults, by their number;
-- k is the most faults that a scenario of the graph has.
use Rattle.cpg_base.proofs.Lists.{map_below_push}
use Rattle.cpg_base.specs.Duration.{duration}
use Rattle.cpg_expand.proofs.ending.durations.Goals as goal

-- the duration with the next count of faults is pushed
pub loop-faults-preserved : goal.loop-faults-preserved
loop-faults-preserved c = map_below_push (duration c.args.problem.now c.args.process) c.loop-faults.durations.items
    c.push.new.self.items c.duration.result c.loop-faults.faults
    c.loop-faults.invariant c.duration.ensures.duration c.in_ok-push.ensures.items
