-- Loops of `are_each_same`: whether two lists of literals are equal, compared one after another.
use Rattle.std.proofs.Common.{◌≡◌, take}
use Rattle.cpg_row_trees.proofs.slices.are_each_same.Given as goal

-- the literals so far are the same in both lists
abbrev pub invariant-loop-at : goal.invariant-loop-at
invariant-loop-at l = take l.at l.literals ≡ take l.at l.others
