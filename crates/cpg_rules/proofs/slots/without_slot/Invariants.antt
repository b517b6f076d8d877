-- Loops of `without_slot`: returns the least node that sends and has no slot, and `None` exactly if each node that
-- sends has one.
use Rattle.std.proofs.Common.{ℕ, ◌≡◌, ◌<◌, false}
use Rattle.cpg_rules.specs.Rules.{lacks_slot}
use Rattle.cpg_rules.proofs.slots.without_slot.Given as goal

-- no node so far lacks a slot
abbrev pub invariant-loop-node : goal.invariant-loop-node
invariant-loop-node l = (n : ℕ) → n < l.node → lacks_slot l.problem n ≡ false
