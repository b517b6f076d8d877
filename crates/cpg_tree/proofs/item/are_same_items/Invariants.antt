-- Loops of `are_same_items`: whether two lists of items are equal.
use Rattle.std.proofs.Common.{◌≡◌, take, length}
use Rattle.cpg_tree.proofs.item.are_same_items.Given as goal

-- the lists are equally long, and their first i items are the same
abbrev pub invariant-loop-i : goal.invariant-loop-i
invariant-loop-i g l = record { long : length l.one ≡ length l.other; same : take l.i l.one ≡ take l.i l.other }
