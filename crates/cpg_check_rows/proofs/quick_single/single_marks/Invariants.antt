-- Loops of `single_marks`: a mark for each item, by number: whether its row has a tree.
use Rattle.std.proofs.Common.{List}
use Rattle.cpg_base.specs.Graph.{Graph}
use Rattle.cpg_table.specs.Table.{NodeTable}
use Rattle.cpg_table.specs.declared.rule.Rule.{Rule}
use Rattle.cpg_row_trees.specs.Trees.{AreRowTrees}
use Rattle.cpg_violation.proofs.SureLaws.{AreSoFar}
use Rattle.cpg_check_rows.proofs.quick_single.single_marks.Given as goal

-- if the trees are those of the tables' rows, there is a mark for each item so far, and V2 is sure at each that is
-- marked
abbrev pub invariant-loop-tree : goal.invariant-loop-tree
invariant-loop-tree l = (g : Graph) (tables : List NodeTable) → AreRowTrees g tables l.trees →
    AreSoFar g tables Rule.Single l.tree-index l.marks.items
