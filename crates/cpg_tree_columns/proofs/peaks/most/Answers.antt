-- Proof of `most`, which returns the greatest number of the paths; `None` exactly if no path has one. `root` is the
-- tree that the items are of, as `are` says; `good`: it is in the form that trees are kept in; `seen_paths`: callers
-- see its paths.
use Rattle.std.proofs.Common.{ℕ, List, Option, None, All, ◌≡◌, sym, subst}
use Rattle.std.specs.Option.{IfNone, IfSome}
use Rattle.cpg_tree_columns.specs.Greatest.{IsGreatestNumber}
use Rattle.cpg_tree.specs.Tree.{Path, TreeState}
use Rattle.cpg_tree.proofs.Publics.{state_seen}
use Rattle.cpg_tree.specs.TreeNode.{TreeNode}
use Rattle.cpg_tree_columns.proofs.MostLaws.{most_none, most_some}
use Rattle.cpg_tree_columns.proofs.peaks.most.Goals as goal

-- no greatest number is found, so no path has a number
pub returns-clause-none : goal.returns-clause-none
returns-clause-none c =
    let root : TreeNode (Option ℕ) = c.items.ensures.flat.0 in
    let are = c.items.ensures.flat.1 in
    let seen_paths = c.items.ensures.paths root are in
    let most = c.most_of.ensures root are in
    subst (λ (paths : List (Path (Option ℕ))).
    IfNone c.most_of.result (All (λ (p : Path (Option ℕ)). p.1 ≡ None) paths)) (sym seen_paths)
    (most_none c.args.tree.now.faults root c.most_of.result most)

-- the number that is found is the greatest of the leaves, and so of the paths that callers see
pub returns-clause-some : goal.returns-clause-some
returns-clause-some c =
    let root : TreeNode (Option ℕ) = c.items.ensures.flat.0 in
    let are = c.items.ensures.flat.1 in
    -- the tree's list is that of a good root
    let good = c.items.ensures.good root are in
    let seen_paths = c.items.ensures.paths root are in
    let most = c.most_of.ensures root are in
    subst (λ (t : TreeState (Option ℕ)). IfSome c.most_of.result (IsGreatestNumber t))
    (state_seen c.args.tree.now root seen_paths)
    (most_some c.args.tree.now.faults root good c.most_of.result most)
