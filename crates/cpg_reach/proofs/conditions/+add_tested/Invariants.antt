-- Recursion of `add_tested`, which adds the values of all conditions that a guard tests.
use Rattle.cpg_rules.specs.Trees.{size_of}
use Rattle.cpg_reach.proofs.conditions.+add_tested.Given as goal

-- each call goes on with a part of the tree
abbrev pub decreases-add_tested : goal.decreases-add_tested
decreases-add_tested l = size_of l.tree.now
