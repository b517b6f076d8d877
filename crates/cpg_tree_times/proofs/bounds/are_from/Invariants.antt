-- Loops of `are_from`: whether the number of each leaf of a tree is at least `least`.
use Rattle.std.proofs.Common.{◌≡◌, drop}
use Rattle.cpg_tree_times.specs.Greater.{are_from}
use Rattle.cpg_tree_times.proofs.bounds.are_from.Given as goal

-- no item so far decides the answer, so it is the answer for the items still to come
abbrev pub invariant-loop-item : goal.invariant-loop-item
invariant-loop-item g l = are_from (g.R.Reading.number l.read) l.least l.items
    ≡ are_from (g.R.Reading.number l.read) l.least (drop l.item-index l.items)
