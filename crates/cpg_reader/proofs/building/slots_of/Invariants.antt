-- Loops of `slots_of`, which returns the slots that a document says.
use Rattle.std.proofs.Common.{◌≡◌, drop}
use Rattle.cpg_reader.specs.Reading.{each}
use Rattle.cpg_reader.specs.Names.{slot_of}
use Rattle.cpg_reader.proofs.Each.{after}
use Rattle.cpg_reader.proofs.building.slots_of.Given as goal

-- reading all slots gives what reading those that are left gives, after the slots built so far
abbrev pub invariant-loop-index : goal.invariant-loop-index
invariant-loop-index l = after l.slots.items (each (slot_of l.fn.nodes) l.index (drop l.index l.fn.raw.slots.items))
    ≡ each (slot_of l.fn.nodes) 0 l.fn.raw.slots.items
