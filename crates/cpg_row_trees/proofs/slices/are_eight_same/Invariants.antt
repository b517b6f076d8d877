-- Loops of `are_eight_same`: whether eight literals are equal to eight others.
use Rattle.std.proofs.Common.{◌≡◌, true, take}
use Rattle.cpg_row_trees.proofs.slices.are_eight_same.Given as goal

-- as long as `are` stays true, the literals so far are the same in both lists
abbrev pub invariant-loop-at : goal.invariant-loop-at
invariant-loop-at l = l.are ≡ true → take l.at l.literals ≡ take l.at l.others
