-- Loops of `slots_differ`: whether no two of these slots belong to the same node.
use Rattle.std.proofs.Common.{length}
use Rattle.cpg_base.proofs.limits.+slots_differ.Given as goal

-- each call goes on with one slot less
abbrev pub decreases-slots_differ : goal.decreases-slots_differ
decreases-slots_differ l = length l.slots.now
