-- Which guard tree a node of the code is.
use Rattle.cpg_rules.specs.declared.tree.GuardNode.{GuardNode}
use Rattle.cpg_rules.specs.declared.tree.GuardNode.TheVariants.{Leaf as LeafNode, Test as TestNode}
use Rattle.cpg_order.specs.Guard.{Guard, Leaf, Test}

-- the tree that a node of the code is the top of
abbrev pub tree_of : GuardNode → Guard
tree_of (LeafNode a) = Leaf a
tree_of (TestNode c off on) = Test c off on
