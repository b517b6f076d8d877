-- Proof of `running_in`: the execution of a process, or `None` if it doesn't run on this node.
use Rattle.std.proofs.Common.{◌∙◌}
use Rattle.cpg_node.proofs.Places.{running_in-next}
use Rattle.cpg_node.proofs.executions.running_in.Goals as goal

-- this place is another process's, so what runs for the process is found among those after it
pub loop-place-preserved : goal.loop-place-preserved
loop-place-preserved c = c.loop-place.invariant
    ∙ running_in-next c.loop-place.place c.args.own.now c.args.running.now c.args.process c.index-own-place.result
    c.loop-place-test.true c.requires c.index-own-place.is c.if-own-process.false
