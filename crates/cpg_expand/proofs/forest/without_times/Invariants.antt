-- The loop of `without_times`, which adds one tree after another that has no time in any scenario.
use Rattle.std.proofs.Common.{◌≡◌, None, All, length}
use Rattle.cpg_tree.specs.GraphTrees.{IsTree}
use Rattle.cpg_tree.specs.Tree.{IsConstant}
use Rattle.cpg_expand.proofs.forest.without_times.Given as goal

-- after each turn, the list has as many trees as are counted, and each of them has no time in any scenario
abbrev pub invariant-loop : goal.invariant-loop
invariant-loop l = (length l.trees.items ≡ l.counter) × All (IsTree l.problem) l.trees.items ×
    All (IsConstant None l.problem.faults) l.trees.items
