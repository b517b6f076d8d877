-- Loops of `most_from`, which returns the greatest of `number` and of the numbers of a tree's leaves.
use Rattle.std.proofs.Common.{◌≡◌, drop}
use Rattle.cpg_tree_times.specs.Greater.{most_from}
use Rattle.cpg_tree_times.proofs.bounds.most_from.Given as goal

-- the greatest number of all items is that of the items still to come, taken from the greatest so far on
abbrev pub invariant-loop-item : goal.invariant-loop-item
invariant-loop-item g l = most_from (g.R.Reading.number l.read) l.number l.items
    ≡ most_from (g.R.Reading.number l.read) l.most (drop l.item-index l.items)
