-- Proof of `first_with_number`, which returns the least scenario along the order that has some number; `None` exactly
-- if none has one.
use Rattle.std.proofs.Common.{ℕ, ◌≡◌, ◌∙◌, List, Option, Some, IsPermutation, All, get_or, unwrap_or, sym, ap, subst}
use Rattle.std.proofs.lemmas.Bool.{cond-true}
use Rattle.std.proofs.lemmas.List.{get_or_default}
use Rattle.std.proofs.lemmas.List.Elements.{Contains-get_or}
use Rattle.cpg_base.specs.Scenario.{Scenario, IsLeast}
use Rattle.cpg_cube.specs.Fit.{lows}
use Rattle.cpg_cube.specs.Keys.{IsFirstByLows}
use Rattle.cpg_cube.specs.declared.column.Column.{Column}
use Rattle.cpg_tree_columns.specs.Columns.{columns_of_paths, IsTidyColumn}
use Rattle.cpg_tree_columns.specs.Greatest.{HasNumberAt}
use Rattle.cpg_tree.specs.Tree.{Path}
use Rattle.cpg_cube.proofs.KeyOrder.{permutation_of_equal}
use Rattle.cpg_tree_columns.proofs.Leasts.{no_numbers, column_met, least_of_columns}
use Rattle.cpg_tree_columns.proofs.peaks.first_with_number.Goals as goal

-- there are no columns, so no path has a number
pub returns-in_default-clause-none : goal.returns-in_default-clause-none
returns-in_default-clause-none c k d l =
    no_numbers c.args.tree.now.paths c.in_ok-columns.columns.items (permutation_of_equal
    (columns_of_paths c.args.tree.now.paths) c.in_ok-columns.columns.items (sym c.in_ok-columns.ensures.all))
    (sym c.as_slice-columns.ensures.value ∙ rw c.in_default.is at c.in_ok-place.ensures.none)
    (get_or c.args.tree.now.paths k d) (Contains-get_or c.args.tree.now.paths k d l)

-- the lows of the column that comes first are its least scenario, and a scenario with a number is on the path of some
-- column, which comes no earlier
pub returns-clause-some : goal.returns-clause-some
returns-clause-some c =
    let g = c.args.problem.now in
    let order = c.args.order.now in
    let paths : List (Path (Option ℕ)) = c.args.tree.now.paths in
    let columns : List Column = c.as_slice-columns.result.now in
    let at : ℕ = c.in-Some.place in
    let first : IsFirstByLows (λ (c : Column). c.cube) g order columns at =
    rw c.in-Some.is at c.in_ok-place.ensures.first in
    let column : Column = get_or columns at c.index-columns-place.result in
    let same = sym c.as_slice-columns.ensures.value in
    let few = c.processes-processes.ensures.within.few_processes in
    -- the columns are those of the paths, in some order
    let all : IsPermutation (columns_of_paths paths) columns =
    permutation_of_equal (columns_of_paths paths) columns (sym c.in_ok-columns.ensures.all ∙ same) in
    let tidy : All (IsTidyColumn g) columns = subst (All (IsTidyColumn g)) same c.in_ok-columns.ensures.tidy in
    let is : get_or columns at column ≡ column =
    get_or_default columns at column c.index-columns-place.result first.there in
    let least : Some c.in-Some-2.least ≡ Some (lows g column.cube) = sym c.in-Some-2.is ∙ c.in_ok-least.ensures.exact
    ∙ cond-true _ _ _ (column_met paths columns all g few order c.requires.order tidy at first column is) in
    subst (IsLeast g order (HasNumberAt paths))
    (sym (ap (λ (o : Option Scenario). unwrap_or o c.in-Some-2.least) least))
    (least_of_columns paths columns all g few order c.requires.order tidy at first column is)
