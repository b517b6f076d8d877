-- Loops of `row_trees`, which returns for each item the tree of its row, or `None` if none is found.
use Rattle.cpg_row_trees.specs.Trees.{AreFirstTrees}
use Rattle.cpg_row_trees.proofs.trees.row_trees.Given as goal

-- after each item, `trees` has the trees of the rows so far
abbrev pub invariant-loop-item : goal.invariant-loop-item
invariant-loop-item l = AreFirstTrees l.problem l.tables.nodes l.item l.trees.items
