-- Proof of `slots`, which returns the slots of the four nodes, one each in the order of the nodes.
use Rattle.cpg_base.proofs.Lists.{map_below_push}
use Rattle.cpg_gen.specs.Generated.{slot_of}
use Rattle.cpg_gen.proofs.generation.slots.Goals as goal

-- with one slot more, the slots are those of one node more
pub loop-node-preserved : goal.loop-node-preserved
loop-node-preserved c = map_below_push slot_of c.loop-node.slots.items c.push.new.self.items c.slot.result
    c.loop-node.node c.loop-node.invariant c.slot.ensures c.in_ok-push.ensures.items
