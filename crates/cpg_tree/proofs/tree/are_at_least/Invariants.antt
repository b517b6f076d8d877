-- Loops of `are_at_least`: whether each leaf of a tree has a time that is at least `least`.
use Rattle.std.proofs.Common.{All, take}
use Rattle.cpg_tree.specs.Later.{IsItemFrom}
use Rattle.cpg_tree.proofs.tree.are_at_least.Given as goal

-- each item so far is a cut or a time that is not below the least
abbrev pub invariant-loop-item : goal.invariant-loop-item
invariant-loop-item l = All (IsItemFrom l.least) (take l.item-index l.items)
