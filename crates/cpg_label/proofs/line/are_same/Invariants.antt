-- Loops of `are_same`: whether the literals of two blocks are the same.
use Rattle.std.proofs.Common.{◌≡◌, true, take}
use Rattle.cpg_label.proofs.line.are_same.Given as goal

-- if `are` is still true, the two blocks are the same so far
abbrev pub invariant-loop-at : goal.invariant-loop-at
invariant-loop-at g l = l.are ≡ true → take l.at l.first ≡ take l.at l.second
