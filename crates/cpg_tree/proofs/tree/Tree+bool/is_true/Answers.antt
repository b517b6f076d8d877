-- Proof of `Tree<bool>::is_true`: whether the tree is the one value true.
use Rattle.cpg_tree.proofs.GoodLists.{true_value}
use Rattle.cpg_tree.proofs.tree.Tree+bool.is_true.Goals as goal

-- the tree is one leaf, whose value each scenario has
pub returns-in-Value : goal.returns-in-Value
returns-in-Value c =
    true_value c.in-Value.value c.args.self.now c.items.result.now c.in-Value.ensures.shows c.items.ensures.paths
