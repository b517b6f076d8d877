-- Proof of `columns_are_tidy`, which does nothing: its contract says that the columns of a tree over a graph's
-- scenarios are tidy. `root` is the tree that the items are of, as `are` says; `good`: it is in the form that trees
-- are kept in; `seen_paths`: callers see its paths.
use Rattle.std.proofs.Common.{ℕ, ◌≡◌, ◌∙◌, ◌++◌, List, Option, All, IsPermutation, sym, ap, ap₂, subst}
use Rattle.std.proofs.lemmas.List.Sorted.{IsPermutation-refl}
use Rattle.cpg_cube.specs.declared.literal.Literal.{Literal}
use Rattle.cpg_cube.specs.Fit.{IsKnown}
use Rattle.cpg_tree.specs.TreeNode.{TreeNode}
use Rattle.cpg_tree.specs.Decision.{HasCuts, IsGood}
use Rattle.cpg_tree.specs.Paths.{paths_of}
use Rattle.cpg_tree.specs.Tree.{Path}
use Rattle.cpg_tree.proofs.PathLaws.{good_cuts}
use Rattle.cpg_tree_columns.specs.Columns.{columns_of_paths, IsTidyColumn}
use Rattle.cpg_tree_columns.proofs.ColumnsFound.{all_columns}
use Rattle.cpg_tree_columns.proofs.TidyColumns.{tidy_columns}
use Rattle.cpg_tree_columns.proofs.listing.columns_are_tidy.Goals as goal

-- the columns of the paths of a good tree over known variables are tidy (`tidy_columns`), and the tree's paths are
-- such
pub returns : goal.returns
returns c =
    let root : TreeNode (Option ℕ) = c.items-items.ensures.flat.0 in
    let are = c.items-items.ensures.flat.1 in
    -- the tree's list is that of a good root
    let good = c.items-items.ensures.good root are in
    let seen_paths = c.items-items.ensures.paths root are in
    let g = c.args.problem.now in
    let k : ℕ = c.args.tree.now.faults in
    let same : k ≡ g.faults = c.requires.faults in
    let paths : c.args.tree.now.paths ≡ paths_of g.faults root = seen_paths ∙ ap (λ (m : ℕ). paths_of m root) same in
    let columns = columns_of_paths (paths_of g.faults root) in
    subst (λ paths. All (IsTidyColumn g) (columns_of_paths paths)) (sym paths)
    (tidy_columns g c.processes-processes.ensures.within.few_processes root (subst (λ (m : ℕ). IsGood m root) same good)
    (subst (All (λ (p : Path (Option ℕ)). IsKnown g p.0)) paths c.requires.known) columns (IsPermutation-refl columns))
