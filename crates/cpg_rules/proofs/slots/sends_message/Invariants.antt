-- Loops of `sends_message`: whether a node sends a message.
use Rattle.std.proofs.Common.{ℕ, ◌≡◌, ◌<◌, false}
use Rattle.cpg_rules.specs.Rules.{is_message_of}
use Rattle.cpg_rules.proofs.slots.sends_message.Given as goal

-- no edge so far is a message of the node
abbrev pub invariant-loop-edge : goal.invariant-loop-edge
invariant-loop-edge l = (e : ℕ) → e < l.edge → is_message_of l.problem e l.node ≡ false
