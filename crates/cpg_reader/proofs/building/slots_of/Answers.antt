-- Proof of `slots_of`, which returns the slots that a document says.
use Rattle.std.proofs.Common.{◌≤◌}
use Rattle.cpg_reader.specs.Shape.{raw_view}
use Rattle.cpg_base.specs.Natural.{natural}
use Rattle.cpg_reader.specs.declared.shape.RawSlot.{RawSlot}
use Rattle.cpg_reader.proofs.Limits.{few_nodes, small_slots, all_at}
use Rattle.cpg_reader.proofs.building.slots_of.Goals as goal

-- a document within the limits has few enough nodes for their numbers
pub slot_of-requires-clause-few : goal.slot_of-requires-clause-few
slot_of-requires-clause-few c = few_nodes (raw_view c.args.raw.now) c.args.nodes.now c.requires.limits c.requires.nodes

-- the bytes of each slot of the document fit 16 bits
pub slot_of-requires-clause-bytes : goal.slot_of-requires-clause-bytes
slot_of-requires-clause-bytes c =
    all_at (λ (x : RawSlot). natural x.bytes ≤ 65535) c.args.raw.now.slots.items c.deref-slot-items.result.now
    c.loop-index.index c.slot-item.result
    (small_slots (raw_view c.args.raw.now) c.requires.limits) c.deref-slot-items.ensures.value
    c.loop-index-test.true c.slot-item.is
