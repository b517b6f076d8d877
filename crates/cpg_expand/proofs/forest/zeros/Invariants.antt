-- The loop of `zeros`, which adds one tree after another that is 0 in every scenario.
use Rattle.std.proofs.Common.{◌≡◌, All, length}
use Rattle.cpg_tree.specs.GraphTrees.{IsTree}
use Rattle.cpg_tree.specs.Tree.{IsConstant}
use Rattle.cpg_expand.proofs.forest.zeros.Given as goal

-- after each turn, the list has as many trees as are counted, and each of them is 0 in each scenario
abbrev pub invariant-loop : goal.invariant-loop
invariant-loop l = (length l.trees.items ≡ l.counter) × All (IsTree l.problem) l.trees.items ×
    All (IsConstant 0 l.problem.faults) l.trees.items
