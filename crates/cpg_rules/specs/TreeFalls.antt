-- Each side of a test is smaller than the test, by which the prover sees that walks down a tree end.
use Rattle.std.specs.Prelude.{◌≤◌, max}
use Rattle.std.proofs.Common.{arith}
use Rattle.cpg_rules.specs.declared.tree.GuardNode.{GuardNode}
use Rattle.cpg_rules.specs.declared.tree.GuardNode.TheVariants.{Leaf, Test}
use Rattle.cpg_rules.specs.declared.tree.GuardTree.TheDeep.{deep-GuardNode}
use Rattle.cpg_rules.specs.Trees.{size_of}
use Rattle.cpg_rules.specs.TreeView.{tree_of}

-- The depth of a node, as the prover measures it, is at most the size of its tree. By cases: a leaf or a test.
pub deep_le-size : (n : GuardNode) → max (deep-GuardNode n) 0 ≤ size_of (tree_of n)
deep_le-size (Leaf a) = omega arith
deep_le-size (Test c off on) = omega arith
