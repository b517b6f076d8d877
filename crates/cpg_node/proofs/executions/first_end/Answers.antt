-- Proof of `first_end`: the first possible end of an execution after the last turn.
use Rattle.std.proofs.Common.{◌+◌, Some}
use Rattle.cpg_node.specs.Dispatcher.{is_after}
use Rattle.cpg_node.proofs.Least.{least_map}
use Rattle.cpg_node.proofs.executions.first_end.Goals as goal

-- `earliest` gets the end with this duration if that is earlier, so it stands for one duration more
pub loop-duration-preserved : goal.loop-duration-preserved
loop-duration-preserved c = least_map (is_after (Some c.args.last)) (λ d. c.args.start + d)
    c.loop-duration.duration-index c.args.times.now _ c.loop-duration.earliest c.earlier-earliest.result
    c.end_after.result _
    c.loop-duration-test.true c.end_after.ensures c.earlier-earliest.ensures c.loop-duration.invariant
