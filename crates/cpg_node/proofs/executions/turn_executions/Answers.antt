-- Proof of `turn_executions`: what runs after a turn.
use Rattle.std.proofs.Common.{arith, refl, ◌++◌}
use Rattle.cpg_node.specs.Dispatcher.{running_after}
use Rattle.cpg_node.proofs.Places.{zip_front-done, zip_front-next}
use Rattle.cpg_node.proofs.executions.turn_executions.Goals as goal

-- before the first place nothing has changed
pub loop-place-init : goal.loop-place-init
loop-place-init c = refl

-- this process now runs what it runs after the turn, so one place more does
pub loop-place-preserved : goal.loop-place-preserved
loop-place-preserved c = zip_front-next (running_after (c.args.ended.now ++ c.args.due.now) c.args.acts.now c.args.time)
    c.loop-place.place c.args.own.now c.args.running.now c.loop-place.running
    c.index-own-place.result _ c.running_after.result
    c.loop-place-test.true c.requires c.loop-place.invariant c.index-own-place.is c.running_after.ensures

-- no place is left, so all run what they run after the turn
pub returns : goal.returns
returns c = zip_front-done (running_after (c.args.ended.now ++ c.args.due.now) c.args.acts.now c.args.time)
    c.loop-place.place c.args.own.now c.args.running.now c.loop-place.running
    (omega arith) c.requires c.loop-place.invariant
