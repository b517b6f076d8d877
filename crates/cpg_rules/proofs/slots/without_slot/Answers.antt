-- Proof of `without_slot`: returns the least node that sends and has no slot, and `None` exactly if each node that
-- sends has one.
use Rattle.std.proofs.Common.{ap, length, arith}
use Rattle.cpg_rules.proofs.Senders.{senders_have_slots}
use Rattle.cpg_rules.proofs.slots.without_slot.Goals as goal

-- all nodes have been visited, and none that sends lacks a slot
pub returns-clause-none : goal.returns-clause-none
returns-clause-none c =
    let done = c.loop-node-test.false in
    senders_have_slots c.args.problem.now c.nodes.ensures.within
    (λ n l. c.loop-node.invariant n (omega (arith, ap length c.nodes.ensures.nodes)))
