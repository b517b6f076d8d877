-- Proof of `column_count`, which returns how many columns the tree has: one for each leaf with a time. `root` is the
-- tree that the items are of, as `are` says.
use Rattle.std.proofs.Common.{ℕ, ◌∙◌, [], Option, length, sym, ap}
use Rattle.cpg_tree.specs.TreeNode.{TreeNode}
use Rattle.cpg_tree_columns.specs.Columns.{columns_of_paths}
use Rattle.cpg_tree_columns.proofs.CountedTimes.{times_in, times_are}
use Rattle.cpg_tree_columns.proofs.demanding.column_count.Goals as goal

-- the list of the tree has a column for each path with a number
pub returns : goal.returns
returns c =
    let root : TreeNode (Option ℕ) = c.items.ensures.flat.0 in
    let are = c.items.ensures.flat.1 in
    c.time_count.ensures ∙ ap times_in are ∙ times_are root c.args.tree.now.faults []
    ∙ ap (λ paths. length (columns_of_paths paths)) (sym (c.items.ensures.paths root are))
