-- Proof of `least_found`, which returns the least scenario of the first column from the left that has the time; `None`
-- exactly if no column has it. `root` is the tree that the items are of, as `are` says; `good`: it is in the form that
-- trees are kept in; `seen_paths`: callers see its paths.
use Rattle.std.proofs.Common.{ℕ, ◌≡◌, ◌∙◌, Option, Some, List, option_map, sym, ap, subst}
use Rattle.std.specs.Option.{IfSome}
use Rattle.std.proofs.lemmas.Bool.{cond-true}
use Rattle.cpg_base.specs.Scenario.{Scenario}
use Rattle.cpg_cube.specs.declared.literal.Literal.{Literal}
use Rattle.cpg_cube.specs.Fit.{lows}
use Rattle.cpg_tree.specs.Decision.{HasCuts}
use Rattle.cpg_tree.specs.Tree.{Path}
use Rattle.cpg_tree.proofs.Forks.{from_false, from_true}
use Rattle.cpg_tree.proofs.PathLaws.{good_cuts}
use Rattle.cpg_tree_columns.specs.Columns.{columns_of_paths, first_with}
use Rattle.cpg_tree_columns.specs.Greatest.{IsLeastWhereSorted}
use Rattle.cpg_tree.specs.TreeNode.{TreeNode}
use Rattle.cpg_tree_columns.proofs.ColumnsFound.{columns_seen}
use Rattle.cpg_tree_columns.proofs.FirstColumns.{first_known, first_met, first_least}
use Rattle.cpg_tree_columns.proofs.peaks.least_found.Goals as goal

-- the tree is good, so its cuts leave numbers above them
pub narrow_to_first-requires : goal.narrow_to_first-requires
narrow_to_first-requires c =
    record {
      flat = c.items.ensures.flat;
      cuts = λ n are. subst (λ (k : ℕ). HasCuts k n) (sym c.faults.ensures)
          (good_cuts c.args.tree.now.faults n (c.items.ensures.good n are));
    }

-- no column has the number, so there is no first one
pub returns-then-not-branch-clause-is : goal.returns-then-not-branch-clause-is
returns-then-not-branch-clause-is c =
    let root : TreeNode (Option ℕ) = c.items.ensures.flat.0 in
    let are = c.items.ensures.flat.1 in
    -- the tree's list is that of a good root
    let good = c.items.ensures.good root are in
    let seen_paths = c.items.ensures.paths root are in
    -- the columns listed from the root are those of the tree's paths
    let seen = columns_seen c.args.tree.now.faults root good c.args.tree.now.paths seen_paths c.faults.result
    c.faults.ensures c.whole-cube.result
    c.whole-cube.ensures in
    ap (option_map (lows c.args.problem.now))
    (sym (from_false c.in_ok-narrow_to_first.field-0 c.if-not-branch.true c.in_ok-narrow_to_first.ensures.none root are)
    ∙ ap (first_with c.args.wanted) seen)

-- the first column with the number is that of a path, whose literals are on variables of the graph
pub least-requires : goal.least-requires
least-requires c =
    let root : TreeNode (Option ℕ) = c.items.ensures.flat.0 in
    let are = c.items.ensures.flat.1 in
    -- the tree's list is that of a good root
    let good = c.items.ensures.good root are in
    let seen_paths = c.items.ensures.paths root are in
    -- the columns listed from the root are those of the tree's paths
    let seen = columns_seen c.args.tree.now.faults root good c.args.tree.now.paths seen_paths c.faults.result
    c.faults.ensures c.whole-cube.result
    c.whole-cube.ensures in
    -- the cube is that of the first column with the number
    let cube : List Literal = c.narrow_to_first.new.cube in
    let first : first_with c.args.wanted (columns_of_paths c.args.tree.now.paths) ≡ Some cube =
    sym (ap (first_with c.args.wanted) seen) ∙
    from_true c.in_ok-narrow_to_first.field-0 c.if-not-branch.false c.in_ok-narrow_to_first.ensures.some root are in
    record {
      known = first_known c.args.problem.now c.processes-processes.ensures.within.few_processes c.args.tree.now.faults
          root good c.args.tree.now.paths
          seen_paths c.requires.faults c.requires.known c.args.wanted cube first;
    }

-- the lows of the first column with the number are what is returned
pub returns-clause-is : goal.returns-clause-is
returns-clause-is c =
    let root : TreeNode (Option ℕ) = c.items.ensures.flat.0 in
    let are = c.items.ensures.flat.1 in
    -- the tree's list is that of a good root
    let good = c.items.ensures.good root are in
    let seen_paths = c.items.ensures.paths root are in
    let g = c.args.problem.now in
    -- the columns listed from the root are those of the tree's paths
    let seen = columns_seen c.args.tree.now.faults root good c.args.tree.now.paths seen_paths c.faults.result
    c.faults.ensures c.whole-cube.result
    c.whole-cube.ensures in
    -- the cube is that of the first column with the number
    let cube : List Literal = c.narrow_to_first.new.cube in
    let first : first_with c.args.wanted (columns_of_paths c.args.tree.now.paths) ≡ Some cube =
    sym (ap (first_with c.args.wanted) seen) ∙
    from_true c.in_ok-narrow_to_first.field-0 c.if-not-branch.false c.in_ok-narrow_to_first.ensures.some root are in
    c.in_ok-least.ensures.exact
    ∙ cond-true _ _ _ (first_met g c.processes-processes.ensures.within.few_processes c.args.tree.now.faults root good
    c.args.tree.now.paths seen_paths
    c.requires.faults c.requires.known c.args.wanted cube first)
    ∙ sym (ap (option_map (lows g)) first)

-- if the columns stand along an order, none with the number comes before the first one, so its lows are the least
-- scenario that has it
pub returns-clause-least : goal.returns-clause-least
returns-clause-least c =
    let root : TreeNode (Option ℕ) = c.items.ensures.flat.0 in
    let are = c.items.ensures.flat.1 in
    -- the tree's list is that of a good root
    let good = c.items.ensures.good root are in
    let seen_paths = c.items.ensures.paths root are in
    let g = c.args.problem.now in
    let paths : List (Path (Option ℕ)) = c.args.tree.now.paths in
    -- the columns listed from the root are those of the tree's paths
    let seen = columns_seen c.args.tree.now.faults root good c.args.tree.now.paths seen_paths c.faults.result
    c.faults.ensures c.whole-cube.result
    c.whole-cube.ensures in
    -- the cube is that of the first column with the number
    let cube : List Literal = c.narrow_to_first.new.cube in
    let first : first_with c.args.wanted (columns_of_paths paths) ≡ Some cube =
    sym (ap (first_with c.args.wanted) seen) ∙
    from_true c.in_ok-narrow_to_first.field-0 c.if-not-branch.false c.in_ok-narrow_to_first.ensures.some root are in
    let few = c.processes-processes.ensures.within.few_processes in
    subst (λ (o : Option Scenario). IfSome o (IsLeastWhereSorted g paths c.args.wanted))
    (sym (c.in_ok-least.ensures.exact
    ∙ cond-true _ _ _ (first_met g few c.args.tree.now.faults root good c.args.tree.now.paths seen_paths
    c.requires.faults c.requires.known c.args.wanted cube
    first)))
    (first_least g few c.args.tree.now.faults root good c.args.tree.now.paths seen_paths c.requires.faults
    c.requires.known c.args.wanted cube first)
