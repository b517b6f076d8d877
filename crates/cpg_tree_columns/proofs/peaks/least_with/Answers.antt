-- Proof of `least_with`, which returns the least scenario along the order that has the number; `None` exactly if no
-- path has it.
use Rattle.std.proofs.Common.{ℕ, ◌≡◌, ◌≢◌, Option, Some, List, All, option_map}
use Rattle.std.specs.Option.{IfNone, IfSome}
use Rattle.cpg_base.specs.Scenario.{Scenario, IsLeast}
use Rattle.cpg_cube.specs.Fit.{lows}
use Rattle.cpg_tree.specs.Tree.{Path}
use Rattle.cpg_tree.proofs.Forks.{from_true, of_answer}
use Rattle.cpg_tree_columns.specs.Columns.{columns_of_paths, first_with}
use Rattle.cpg_tree_columns.specs.Greatest.{HasValueAt, IsLeastWhereSorted}
use Rattle.cpg_tree_columns.proofs.FirstColumns.{none_first, some_sorted}
use Rattle.cpg_tree_columns.proofs.peaks.least_with.Goals as goal

-- the columns stand along the order; if none has the number, no path has, since each path with a time has a column
pub returns-then-branch-clause-none : goal.returns-then-branch-clause-none
returns-then-branch-clause-none c =
    let g = c.args.problem.now in
    let paths : List (Path (Option ℕ)) = c.args.tree.now.paths in
    of_answer c.least_found.result
    (λ (r : Option Scenario). r ≡ option_map (lows g) (first_with c.args.wanted (columns_of_paths paths)))
    (λ (r : Option Scenario). IfNone r (All (λ (p : Path (Option ℕ)). p.1 ≢ Some c.args.wanted) paths))
    c.least_found.ensures.is (none_first g paths c.args.wanted)

-- the columns stand along the order, so the first with the number has the least scenario
pub returns-then-branch-clause-some : goal.returns-then-branch-clause-some
returns-then-branch-clause-some c =
    let g = c.args.problem.now in
    let order = c.args.order.now in
    let paths : List (Path (Option ℕ)) = c.args.tree.now.paths in
    of_answer c.least_found.result (λ (r : Option Scenario). IfSome r (IsLeastWhereSorted g paths c.args.wanted))
    (λ (r : Option Scenario). IfSome r (IsLeast g order (HasValueAt paths (Some c.args.wanted))))
    c.least_found.ensures.least (some_sorted g paths c.args.wanted order c.requires.order
    (from_true c.in_ok-stand_along.field-0 c.if-branch.true c.in_ok-stand_along.ensures))
