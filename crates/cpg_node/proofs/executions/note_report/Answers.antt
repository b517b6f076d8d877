-- Proof of `note_report`: notes a report: the execution that it belongs to keeps it.
use Rattle.std.proofs.Common.{arith, refl}
use Rattle.cpg_node.specs.Dispatcher.{with_report}
use Rattle.cpg_node.proofs.Places.{zip_front-done, zip_front-next}
use Rattle.cpg_node.proofs.executions.note_report.Goals as goal

-- before the first place nothing has changed
pub loop-place-init : goal.loop-place-init
loop-place-init c = refl

-- this execution keeps the report if it is its own, so one place more has taken it
pub loop-place-preserved : goal.loop-place-preserved
loop-place-preserved c = zip_front-next (with_report c.args.ended) c.loop-place.place c.args.own.now c.args.running.now
    c.loop-place.running c.index-own-place.result _ c.with_report.result
    c.loop-place-test.true c.requires c.loop-place.invariant c.index-own-place.is c.with_report.ensures

-- no place is left, so all have taken the report
pub returns : goal.returns
returns c = zip_front-done (with_report c.args.ended) c.loop-place.place c.args.own.now c.args.running.now
    c.loop-place.running (omega arith) c.requires c.loop-place.invariant
