-- Proof of `least_listed`, which returns the least scenario along the order that has the number, by a list of the
-- columns that have it; `None` exactly if no path has it. `root` is the tree that the items are of, as `are` says;
-- `good`: it is in the form that trees are kept in; `seen_paths`: callers see its paths.
use Rattle.std.proofs.Common.{ℕ, ◌≡◌, ◌≢◌, ◌∙◌, Option, Some, None, All, sym, subst}
use Rattle.std.specs.Option.{IfNone, IfSome}
use Rattle.cpg_base.specs.Scenario.{Scenario, IsLeast}
use Rattle.cpg_cube.specs.Fit.{IsKnown}
use Rattle.cpg_tree.specs.Decision.{IsGood}
use Rattle.cpg_tree.specs.TreeNode.{TreeNode}
use Rattle.cpg_tree.specs.Paths.{paths_of}
use Rattle.cpg_tree.specs.Tree.{Path, TreeState, HasOnePathEach}
use Rattle.cpg_tree.specs.Variables.{is_variable}
use Rattle.cpg_tree.proofs.Forks.{of_answer}
use Rattle.cpg_tree.proofs.Passing.{known_from, known_passes}
use Rattle.cpg_tree.proofs.Publics.{state_seen}
use Rattle.cpg_tree_columns.specs.Greatest.{HasNumberAt, HasValueAt}
use Rattle.cpg_tree_columns.proofs.MostLaws.{listed_none, listed_some}
use Rattle.cpg_tree_columns.proofs.peaks.least_listed.Goals as goal

-- the tree of the number alone has forks of the tree only, so its variables are known
pub first_with_number-requires-clause-known : goal.first_with_number-requires-clause-known
first_with_number-requires-clause-known c =
    let g = c.args.problem.now in
    known_from g c.in_ok-alone.alone.paths
    (c.in_ok-alone.ensures.pass (is_variable g) (known_passes g c.args.tree.now.paths c.requires.known))

-- the tree of the number alone has none, so no path has the number
pub returns-clause-none : goal.returns-clause-none
returns-clause-none c =
    let root : TreeNode (Option ℕ) = c.items-items.ensures.flat.0 in
    let are = c.items-items.ensures.flat.1 in
    -- the tree's list is that of a good root
    let good = c.items-items.ensures.good root are in
    let seen_paths = c.items-items.ensures.paths root are in
    let g = c.args.problem.now in
    let all : TreeState (Option ℕ) = c.args.tree.now in
    -- the tree of the number alone
    let only : TreeState (Option ℕ) = c.in_ok-alone.alone in
    let same : c.args.tree.now.faults ≡ g.faults = c.requires.faults in
    -- the given tree is the one with this root
    let is : record { faults = g.faults; paths = paths_of g.faults root } ≡ all =
    subst (λ (n : ℕ). record { faults = n; paths = paths_of n root } ≡ all) same
    (state_seen c.args.tree.now root seen_paths) in
    of_answer c.first_with_number.result
    (λ (r : Option Scenario). IfNone r (All (λ (p : Path (Option ℕ)). p.1 ≡ None) only.paths))
    (λ (r : Option Scenario). IfNone r (All (λ (p : Path (Option ℕ)). p.1 ≢ Some c.args.wanted) all.paths))
    c.first_with_number.ensures.none
    (listed_none g root (subst (λ (n : ℕ). IsGood n root) same good) c.args.wanted all only is
    (subst (λ (n : ℕ). HasOnePathEach n only.paths)
    (c.in_ok-alone.ensures.is.faults ∙ c.requires.faults) c.in_ok-alone.ensures.each) c.in_ok-alone.ensures.is
    c.processes-processes.ensures.within.few_processes
    (subst (λ (t : TreeState (Option ℕ)). All (λ (p : Path (Option ℕ)). IsKnown g p.0) t.paths)
    (sym is) c.requires.known))

-- the tree of the number alone has it just where the given tree does, so the least scenario of a number there is the
-- one wanted
pub returns-clause-some : goal.returns-clause-some
returns-clause-some c =
    let root : TreeNode (Option ℕ) = c.items-items.ensures.flat.0 in
    let are = c.items-items.ensures.flat.1 in
    -- the tree's list is that of a good root
    let good = c.items-items.ensures.good root are in
    let seen_paths = c.items-items.ensures.paths root are in
    let g = c.args.problem.now in
    let order = c.args.order.now in
    let all : TreeState (Option ℕ) = c.args.tree.now in
    -- the tree of the number alone
    let only : TreeState (Option ℕ) = c.in_ok-alone.alone in
    let same : c.args.tree.now.faults ≡ g.faults = c.requires.faults in
    -- the given tree is the one with this root
    let is : record { faults = g.faults; paths = paths_of g.faults root } ≡ all =
    subst (λ (n : ℕ). record { faults = n; paths = paths_of n root } ≡ all) same
    (state_seen c.args.tree.now root seen_paths) in
    of_answer c.first_with_number.result (λ (r : Option Scenario). IfSome r (IsLeast g order (HasNumberAt only.paths)))
    (λ (r : Option Scenario). IfSome r (IsLeast g order (HasValueAt all.paths (Some c.args.wanted))))
    c.first_with_number.ensures.some
    (listed_some g root (subst (λ (n : ℕ). IsGood n root) same good) c.args.wanted all only is
    (subst (λ (n : ℕ). HasOnePathEach n only.paths) (c.in_ok-alone.ensures.is.faults ∙ c.requires.faults)
    c.in_ok-alone.ensures.each) c.in_ok-alone.ensures.is order)
