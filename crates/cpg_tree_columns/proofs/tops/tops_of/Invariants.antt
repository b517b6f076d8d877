-- Loops of `tops_of`: the greatest number of each tree, if it has one.
use Rattle.cpg_tree_columns.specs.Tops.{AreTops}
use Rattle.cpg_tree_columns.proofs.tops.tops_of.Given as goal

-- after each tree, the list has the greatest number of each tree so far
abbrev pub invariant-loop-tree : goal.invariant-loop-tree
invariant-loop-tree l = AreTops l.trees l.tree-index l.tops.items
