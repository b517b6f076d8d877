-- Proof of `stand_along`, which says whether the columns of a tree are known to stand by their least scenarios along
-- the order, as they are found from left to right. `root` is the tree that the items are of, as `are` says; `good`: it
-- is in the form that trees are kept in.
use Rattle.std.proofs.Common.{ℕ, Option, sym, ap, subst}
use Rattle.cpg_cube.specs.declared.column.Column.{Column}
use Rattle.cpg_cube.specs.Keys.{AreByLows}
use Rattle.cpg_tree.specs.TreeNode.{TreeNode}
use Rattle.cpg_tree.proofs.Passes.{of_true}
use Rattle.cpg_tree_columns.specs.Columns.{columns_of_paths}
use Rattle.cpg_tree_columns.proofs.AlongPaths.{sorted_columns}
use Rattle.cpg_tree_columns.proofs.along.stand_along.Goals as goal

-- the forks stand along the order, so the columns of the paths stand by their least scenarios
pub returns : goal.returns
returns c =
    let root : TreeNode (Option ℕ) = c.items.ensures.flat.0 in
    let are = c.items.ensures.flat.1 in
    -- the tree's list is that of a good root
    let good = c.items.ensures.good root are in
    let g = c.args.problem.now in
    let order = c.args.order.now in
    let k : ℕ = c.args.tree.now.faults in
    of_true c.are_along.result c.are_along.ensures
    (λ along. subst (AreByLows (λ (d : Column). d.cube) g order)
    (ap columns_of_paths (sym (c.items.ensures.paths root are)))
    (sorted_columns g order c.in_ok-places.places c.in_ok-places.ensures k root good (along root are)))
