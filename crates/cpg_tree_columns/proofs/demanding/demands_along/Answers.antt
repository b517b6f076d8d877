-- Proof of `demands_along`, which returns the demands of the columns from right to left, if the columns are known to
-- stand by their least scenarios along the order. `root` is the tree that the items are of, as `are` says; `good`: it
-- is in the form that trees are kept in.
use Rattle.std.proofs.Common.{ℕ, ◌∙◌, ◌++◌, [], Option, arith, reverse, map, sym, ap, subst}
use Rattle.cpg_cube.specs.declared.column.Column.{Column}
use Rattle.cpg_cube.specs.Cube.{IsRising}
use Rattle.cpg_cube.specs.Keys.{AreByLows, variables_along}
use Rattle.cpg_merging.specs.Demands.{demand_of}
use Rattle.cpg_tree.specs.TreeNode.{TreeNode}
use Rattle.cpg_tree.proofs.Forks.{from_true}
use Rattle.cpg_tree_columns.specs.Columns.{columns_of_paths}
use Rattle.cpg_tree_columns.specs.Demanded.{demands_by, first_side}
use Rattle.cpg_tree_columns.proofs.AlongPaths.{sorted_columns}
use Rattle.cpg_tree_columns.proofs.DemandedLows.{demands_known, known_first}
use Rattle.cpg_tree_columns.proofs.demanding.demands_along.Goals as goal

-- the forks stand along the order, so the columns of the paths stand by their least scenarios
pub returns-then-branch-clause-along : goal.returns-then-branch-clause-along
returns-then-branch-clause-along c =
    let root : TreeNode (Option ℕ) = c.items.ensures.flat.0 in
    let are = c.items.ensures.flat.1 in
    -- the tree's list is that of a good root
    let good = c.items.ensures.good root are in
    let g = c.args.problem.now in
    let order = c.args.order.now in
    let k : ℕ = c.args.tree.now.faults in
    let along = from_true c.in_ok-push_along.field-0 c.if-branch.true c.in_ok-push_along.ensures.along root are in
    subst (AreByLows (λ (d : Column). d.cube) g order) (ap columns_of_paths (sym (c.items.ensures.paths root are)))
    (sorted_columns g order c.in_ok-places.places c.in_ok-places.ensures k root good along)

-- the demands by the way down are those of the columns
pub returns-then-branch-clause-demands : goal.returns-then-branch-clause-demands
returns-then-branch-clause-demands c =
    let root : TreeNode (Option ℕ) = c.items.ensures.flat.0 in
    let are = c.items.ensures.flat.1 in
    let k : ℕ = c.args.tree.now.faults in
    let places = c.in_ok-places.places in
    let variables = variables_along c.args.problem.now c.args.order.now in
    let rising : IsRising [] = λ i j d l m. absurd (omega (arith, m)) in
    let along = from_true c.in_ok-push_along.field-0 c.if-branch.true c.in_ok-push_along.ensures.along root are in
    from_true c.in_ok-push_along.field-0 c.if-branch.true c.in_ok-push_along.ensures.demands root are
    ∙ ap (λ found. found ++ demands_by places first_side root)
    (c.in_ok-reserve.ensures.items ∙ c.new-demands.ensures.items)
    ∙ demands_known variables places c.in_ok-places.ensures k root first_side [] rising (known_first places) along
    ∙ ap (λ paths. reverse (map demand_of (columns_of_paths paths))) (sym (c.items.ensures.paths root are))
