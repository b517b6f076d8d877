-- Loops of `most_of`, which returns the greatest number of the leaves; `None` if no leaf has one.
use Rattle.std.proofs.Common.{◌≡◌, drop}
use Rattle.cpg_tree_columns.specs.Greatest.{greater}
use Rattle.cpg_tree_columns.proofs.GreatestTimes.{most_in}
use Rattle.cpg_tree_columns.proofs.peaks.most_of.Given as goal

-- the greater of what was found so far and the greatest of the other items is the greatest of all
abbrev pub invariant-loop-item : goal.invariant-loop-item
invariant-loop-item l = greater l.most (most_in (drop l.item-index l.items)) ≡ most_in l.items
