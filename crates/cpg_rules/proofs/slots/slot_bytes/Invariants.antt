-- Loops of `slot_bytes`: returns how many bytes a frame in the first of these slots that is the node's holds, and 0 if
-- the node has none.
use Rattle.std.proofs.Common.{◌≡◌, drop}
use Rattle.cpg_rules.specs.Rules.{bytes_in}
use Rattle.cpg_rules.proofs.slots.slot_bytes.Given as goal

-- no slot so far is one of the node, so its bytes are those that the slots left give it
abbrev pub invariant-loop-slot : goal.invariant-loop-slot
invariant-loop-slot l = bytes_in l.slots l.node ≡ bytes_in (drop l.slot-index l.slots) l.node
