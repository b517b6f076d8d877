-- Proof of `Tree::constant`, which returns the tree that has one value in all scenarios of at most `k` faults.
use Rattle.std.proofs.Common.{rules, sym, subst}
use Rattle.cpg_tree.specs.TreeNode.{Leaf}
use Rattle.cpg_tree.specs.Tree.{TreeState, DoPathsPass}
use Rattle.cpg_tree.proofs.Passing.{paths_of_forks}
use Rattle.cpg_tree.proofs.Numbers.{some_whole}
use Rattle.cpg_tree.proofs.tree.Tree.constant.Goals as goal

-- one leaf is a good tree
pub of-requires : goal.of-requires
of-requires g c = let w = some_whole c.args.k in (Leaf c.args.value, search rules, (w.0, w.1, tt))

-- the paths are those of the leaf
pub returns-clause-is : goal.returns-clause-is
returns-clause-is g c = c.of.ensures.is (Leaf c.args.value) (search rules)

-- one value has no forks, so every test passes
pub returns-clause-pass : goal.returns-clause-pass
returns-clause-pass g c test =
    subst (λ (t : TreeState g.row.T.Denot). DoPathsPass test t.paths)
    (sym (c.of.ensures.is (Leaf c.args.value) (search rules))) (paths_of_forks test c.args.k (Leaf c.args.value) tt)
