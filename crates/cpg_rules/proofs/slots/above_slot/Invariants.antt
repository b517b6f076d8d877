-- Loops of `above_slot`: returns the least message that is larger than its sender's slot holds, and `None` exactly if
-- there is none.
use Rattle.std.proofs.Common.{ℕ, ◌≡◌, ◌<◌, false}
use Rattle.cpg_rules.specs.Rules.{is_too_big}
use Rattle.cpg_rules.proofs.slots.above_slot.Given as goal

-- no edge so far has a message that is too big for a slot
abbrev pub invariant-loop-edge : goal.invariant-loop-edge
invariant-loop-edge l = (e : ℕ) → e < l.edge → is_too_big l.problem e ≡ false
