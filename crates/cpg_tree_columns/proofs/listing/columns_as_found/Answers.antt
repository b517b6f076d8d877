-- Proof of `columns_as_found`, which returns the columns of a tree from left to right. `root` is the tree that the
-- items are of, as `are` says; `good`: it is in the form that trees are kept in; `seen_paths`: callers see its paths.
use Rattle.std.proofs.Common.{ℕ, ◌∙◌, ◌++◌, List, Option, sym, ap, ap₂, subst}
use Rattle.cpg_cube.specs.declared.literal.Literal.{Literal}
use Rattle.cpg_tree.specs.TreeNode.{TreeNode}
use Rattle.cpg_tree.specs.Decision.{HasCuts}
use Rattle.cpg_tree.proofs.PathLaws.{good_cuts}
use Rattle.cpg_tree_columns.specs.Columns.{columns_from, columns_of_paths}
use Rattle.cpg_tree_columns.proofs.ColumnsFound.{all_columns}
use Rattle.cpg_tree_columns.proofs.listing.columns_as_found.Goals as goal

-- each cut of a good tree leaves numbers above it
pub push_columns-requires-clause-cuts : goal.push_columns-requires-clause-cuts
push_columns-requires-clause-cuts c n are = subst (λ (k : ℕ). HasCuts k n) (sym c.faults.ensures)
    (good_cuts c.args.tree.now.faults n (c.items.ensures.good n are))

-- `push_columns` adds the columns of the tree that is entered with the whole cube, which are those of all paths with a
-- number
pub returns : goal.returns
returns c =
    let root : TreeNode (Option ℕ) = c.items.ensures.flat.0 in
    let are = c.items.ensures.flat.1 in
    -- the tree's list is that of a good root
    let good = c.items.ensures.good root are in
    let seen_paths = c.items.ensures.paths root are in
    let k : ℕ = c.args.tree.now.faults in
    c.in_ok-push_columns.ensures.columns root are
    ∙ ap₂ ◌++◌ (c.in_ok-reserve.ensures.items ∙ c.new-columns.ensures.items)
    (ap₂ (λ (m : ℕ) (cube : List Literal). columns_from m cube root) c.faults.ensures c.whole-whole.ensures)
    ∙ all_columns k root good ∙ ap columns_of_paths (sym seen_paths)
