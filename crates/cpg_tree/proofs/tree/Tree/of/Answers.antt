-- Proof of `Tree::of`, which makes a tree of its list.
use Rattle.cpg_tree.proofs.GoodLists.{state_is, one_each, all_tidy}
use Rattle.cpg_tree.proofs.tree.Tree.of.Goals as goal

-- callers see the paths of the tree that the list stands for
pub returns-clause-is : goal.returns-clause-is
returns-clause-is g c n are = state_is c.args.faults c.args.items.items n are

-- each scenario is on one path
pub returns-clause-each : goal.returns-clause-each
returns-clause-each g c = one_each c.args.faults c.args.items.items c.requires

-- the cube of each path is tidy
pub returns-clause-tidy : goal.returns-clause-tidy
returns-clause-tidy g c = all_tidy c.args.faults c.args.items.items c.requires
