-- Proof of `earliest_end`: the first possible end on the node after the last turn.
use Rattle.std.proofs.Common.{ap, ◌∙◌, Some}
use Rattle.cpg_node.specs.Dispatcher.{is_after, possible_ends}
use Rattle.cpg_node.specs.State.{earlier}
use Rattle.cpg_node.proofs.Least.{least_zip}
use Rattle.cpg_node.proofs.executions.earliest_end.Goals as goal

-- `earliest` gets the first end of this process if that is earlier, so it stands for one place more
pub loop-place-preserved : goal.loop-place-preserved
loop-place-preserved c = least_zip (is_after (Some c.args.last)) possible_ends c.loop-place.place c.args.own.now
    c.args.running.now c.index-own-place.result _ c.loop-place.earliest
    c.earlier-earliest.result _
    c.loop-place-test.true c.requires.same c.index-own-place.is
    (c.earlier-earliest.ensures ∙ ap (earlier c.loop-place.earliest) c.first_end_of.ensures) c.loop-place.invariant
