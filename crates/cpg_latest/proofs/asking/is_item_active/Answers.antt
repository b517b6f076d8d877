-- Proof of `is_item_active`: whether an item in the queue of an active process is active: each broadcast is, and a
-- message is if its edge is live.
use Rattle.std.proofs.Common.{◌∙◌, ◌-◌, sym, ap, length, arith}
use Rattle.cpg_base.specs.Activity.{live}
use Rattle.cpg_run.proofs.Senders.{broadcast_active, message_active, queued_above}
use Rattle.cpg_latest.proofs.asking.is_item_active.Goals as goal

-- an item numbered after the messages is a broadcast, and that of an active process is active
pub returns-then-item-processes : goal.returns-then-item-processes
returns-then-item-processes c = sym (broadcast_active c.args.problem.now c.args.scenario.now.values c.args.process
    c.args.item c.requires.item c.requires.active
    (omega (arith, ap length c.processes.ensures.processes, ap length c.edges.ensures.edges, c.if-item-processes.true)))

-- the item is a message or a broadcast, so its number is not below the number of processes
pub overflow_sub-item : goal.overflow_sub-item
overflow_sub-item c = omega (
  arith,
  ap length c.processes.ensures.processes,
  queued_above c.args.problem.now c.args.scenario.now.values c.args.process c.args.item c.requires.item,
)

-- the item is a message, which is active if and only if its edge is live
pub returns : goal.returns
returns c = c.is_live.ensures ∙ ap (λ n. live c.args.problem.now c.args.scenario.now.values (c.args.item - n))
    (ap length c.processes.ensures.processes)
    ∙ sym (message_active c.args.problem.now c.args.scenario.now.values c.args.process c.args.item c.requires.item
    (omega
    (arith, ap length c.processes.ensures.processes, ap length c.edges.ensures.edges, c.if-item-processes.false)))
