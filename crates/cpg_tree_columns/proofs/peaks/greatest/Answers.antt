-- Proof of `greatest`, which returns the greatest number with the least scenario along the order that has it; `None`
-- exactly if no path has a number. `root` is the tree that the items are of, as `are` says; `seen_paths`: callers see
-- its paths.
use Rattle.std.proofs.Common.{ℕ, ◌≢◌, ◌∙◌, Option, List, Some, All, Contains, get_or, sym, subst}
use Rattle.std.proofs.lemmas.List.Elements.{Contains-get_or}
use Rattle.cpg_base.specs.Scenario.{IsLeast}
use Rattle.cpg_tree.specs.Tree.{Path}
use Rattle.cpg_tree_columns.specs.Greatest.{HasValueAt, IsGreatestOf}
use Rattle.cpg_tree.specs.TreeNode.{TreeNode}
use Rattle.cpg_tree_columns.proofs.MostLaws.{no_most, not_without, greatest_of}
use Rattle.cpg_tree_columns.proofs.peaks.greatest.Goals as goal

-- the tree has no greatest number, so no path has a number
pub returns-in_default-clause-none : goal.returns-in_default-clause-none
returns-in_default-clause-none c k d l =
    let root : TreeNode (Option ℕ) = c.items.ensures.flat.0 in
    let are = c.items.ensures.flat.1 in
    let seen_paths = c.items.ensures.paths root are in
    let most = c.most_of.ensures root are in
    let path : Path (Option ℕ) = get_or c.args.tree.now.paths k d in
    no_most c.args.tree.now.faults root (sym most ∙ c.in_default.is) path
    (subst (λ (paths : List (Path (Option ℕ))). Contains paths path) seen_paths
    (Contains-get_or c.args.tree.now.paths k d l))

-- the greatest number is that of a path, so some scenario has it
pub unreachable-requires : goal.unreachable-requires
unreachable-requires c =
    let root : TreeNode (Option ℕ) = c.items.ensures.flat.0 in
    let are = c.items.ensures.flat.1 in
    let seen_paths = c.items.ensures.paths root are in
    let most = c.most_of.ensures root are in
    not_without c.args.tree.now.faults root c.in-Some.most (sym most ∙ c.in-Some.is)
    (subst (All (λ (p : Path (Option ℕ)). p.1 ≢ Some c.in-Some.most)) seen_paths
    (rw c.in-None.is at c.in_ok-least.ensures.none))

-- the number is the greatest of the tree, and the scenario the least that has it, by what the two calls answer
pub returns-clause-some : goal.returns-clause-some
returns-clause-some c =
    let root : TreeNode (Option ℕ) = c.items.ensures.flat.0 in
    let are = c.items.ensures.flat.1 in
    let seen_paths = c.items.ensures.paths root are in
    let most = c.most_of.ensures root are in
    let g = c.args.problem.now in
    let order = c.args.order.now in
    subst (λ (paths : List (Path (Option ℕ))). IsGreatestOf g order paths c.in-Some.most c.in-Some-2.least)
    (sym seen_paths)
    (greatest_of g order c.args.tree.now.faults root c.in-Some.most (sym most ∙ c.in-Some.is) c.in-Some-2.least
    (subst
    (λ (paths : List (Path (Option ℕ))). IsLeast g order (HasValueAt paths (Some c.in-Some.most)) c.in-Some-2.least)
    seen_paths (rw c.in-Some-2.is at c.in_ok-least.ensures.some)))
