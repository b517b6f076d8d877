-- Proof of `start_as_found`, which returns how many columns the tree of a start has if these are already its row: they
-- stand by their least scenarios, and merging would join none.
use Rattle.std.proofs.Common.{ℕ, ◌≡◌, false, All, ◌∙◌, length, map, reverse, refl, sym, ap, subst, rules}
use Rattle.std.proofs.lemmas.List.{length-map, length-reverse}
use Rattle.std.proofs.lemmas.List.Elements.{All-weaker}
use Rattle.std.proofs.lemmas.List.Sorted.{Contains-permutation, IsPermutation-reverse}
use Rattle.cpg_cube.specs.Cube.{is_whole}
use Rattle.cpg_cube.specs.declared.literal.Literal.{Literal}
use Rattle.cpg_cube.specs.declared.column.Column.{Column}
use Rattle.cpg_merging.specs.Demands.{AgreeByTime, demand_of}
use Rattle.cpg_merging.proofs.MergingListed.{merged_as_listed}
use Rattle.cpg_merging.proofs.MergingTotals.{from_off}
use Rattle.cpg_tree_columns.specs.Columns.{columns_of_paths, IsTidyColumn}
use Rattle.cpg_tree.proofs.Passing.{known_from}
use Rattle.cpg_tree_columns.proofs.TreeColumns.{listed_all, mergeable}
use Rattle.cpg_tree_columns.proofs.rows.start_as_found.Goals as goal

-- the paths of the tree have literals of the graph's variables alone
pub columns_are_tidy-requires-clause-known : goal.columns_are_tidy-requires-clause-known
columns_are_tidy-requires-clause-known c = known_from c.args.problem.now c.args.tree.now.paths c.requires.tree.known

-- there are as many demands as columns
pub returns-clause-count : goal.returns-clause-count
returns-clause-count c =
    let is : c.len-count.result ≡ length c.in-Some.demands.items = search rules in
    let columns = columns_of_paths c.args.tree.now.paths in
    is ∙ ap length (rw c.in-Some.is at c.in_ok-demands.ensures.demands)
    ∙ length-reverse (map demand_of columns) ∙ length-map columns demand_of

-- the columns stand by their least scenarios, and no two touch, so they are merged as they are
pub returns-clause-merged : goal.returns-clause-merged
returns-clause-merged c =
    let g = c.args.problem.now in
    let few = c.processes-processes.ensures.within.few_processes in
    -- the columns of the tree's paths, which are tidy
    let columns = columns_of_paths c.args.tree.now.paths in
    let tidy = c.columns_are_tidy.ensures in
    let are = listed_all g c.args.tree.now columns c.requires.tree.each refl tidy in
    let has_no_whole = λ (e : Column). All (λ (l : Literal). is_whole g.faults l ≡ false) e.cube in
    let demands = map demand_of columns in
    let turned : AgreeByTime (reverse demands) =
    subst AgreeByTime (rw c.in-Some.is at c.in_ok-demands.ensures.demands)
    (from_off c.do_demands_differ.result c.if-do_demands_differ.false c.do_demands_differ.ensures) in
    let there = λ (m : ℕ). Contains-permutation demands (reverse demands) m (IsPermutation-reverse demands) in
    let agree : AgreeByTime demands = λ m n a b same. turned m n (there m a) (there n b) same in
    -- they are their own merge
    record {
      columns = columns;
      are = are;
      merge = merged_as_listed g few c.processes-processes.ensures.within.faults columns
          (record { good = mergeable g few c.args.urgency.now c.requires.order c.args.tree.now columns are; not_whole = All-weaker (IsTidyColumn g) has_no_whole (λ e t. t.not_whole) columns tidy })
          agree c.args.urgency.now c.requires.order (rw c.in-Some.is at c.in_ok-demands.ensures.along);
    }
