-- Loops of `are_all_there`: whether no item is a leaf without a place.
use Rattle.std.proofs.Common.{All, take}
use Rattle.cpg_row_trees.specs.Places.{IsThere}
use Rattle.cpg_row_trees.proofs.walk.are_all_there.Given as goal

-- each item so far is there
abbrev pub invariant-loop-item : goal.invariant-loop-item
invariant-loop-item l = All IsThere (take l.item-index l.items)
