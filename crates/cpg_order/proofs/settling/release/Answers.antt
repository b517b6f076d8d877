-- Proof of `release`: counts one input of a process as settled.
use Rattle.std.proofs.Common.{◌-◌}
use Rattle.cpg_order.proofs.Readiness.{ready_more, ready_kept, within_waiting}
use Rattle.cpg_order.proofs.settling.release.Goals as goal

-- the last input is settled, so the process is ready
pub returns-in_ok-push-clause-ready : goal.returns-in_ok-push-clause-ready
returns-in_ok-push-clause-ready c = rw c.in_ok-push.ensures.items
    (ready_more c.args.waiting.now.items c.args.ready.now.items c.requires.ready c.args.process
    (c.index.result.now - 1) c.requires.waits
    (within_waiting c.args.waiting.now.items c.args.process c.requires.waits) c.if-waits_for-eq0.true)

-- the process still waits for inputs, so the same processes are ready
pub returns-else-waits_for-eq0-clause-ready : goal.returns-else-waits_for-eq0-clause-ready
returns-else-waits_for-eq0-clause-ready c =
    ready_kept c.args.waiting.now.items c.args.ready.now.items c.requires.ready c.args.process
    (c.index.result.now - 1) c.requires.waits
    (within_waiting c.args.waiting.now.items c.args.process c.requires.waits) c.if-waits_for-eq0.false
