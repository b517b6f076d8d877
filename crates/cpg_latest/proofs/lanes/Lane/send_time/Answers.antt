-- Proof of `Lane::send_time`: when an item of a process could be sent at the latest, with all the faults, if it were
-- not frozen, and `None` exactly if it is inactive.
use Rattle.cpg_run.proofs.Senders.{queued_slot}
use Rattle.cpg_latest.proofs.lanes.Lane.send_time.Goals as goal

-- the item is in the queue of the process, so its node sends something and has a slot
pub unfrozen_send-requires-clause-slot : goal.unfrozen_send-requires-clause-slot
unfrozen_send-requires-clause-slot c = queued_slot c.args.setting.now.problem.now c.requires.setting.admitted.1.slots
    c.args.process c.args.item c.requires.item
