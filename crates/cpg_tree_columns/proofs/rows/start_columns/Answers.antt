-- Proof of `start_columns`, which returns the columns that the tree of a start lists, merged.
use Rattle.std.proofs.Common.{◌≡◌, false, All}
use Rattle.std.proofs.lemmas.List.Elements.{All-weaker}
use Rattle.cpg_cube.specs.Cube.{is_whole}
use Rattle.cpg_cube.specs.declared.literal.Literal.{Literal}
use Rattle.cpg_cube.specs.declared.column.Column.{Column}
use Rattle.cpg_tree_columns.specs.Columns.{IsTidyColumn}
use Rattle.cpg_tree.proofs.Passing.{known_from}
use Rattle.cpg_tree_columns.proofs.TreeColumns.{listed_all, mergeable}
use Rattle.cpg_tree_columns.proofs.rows.start_columns.Goals as goal

-- a tree of the graph tests variables of the graph alone
pub listing_along-requires-clause-known : goal.listing_along-requires-clause-known
listing_along-requires-clause-known c = known_from c.args.problem.now c.args.tree.now.paths c.requires.tree.known

-- a tidy column has no literal of a whole range
pub merged_tidy-requires-clause-tidy : goal.merged_tidy-requires-clause-tidy
merged_tidy-requires-clause-tidy c =
    let k = c.args.problem.now.faults in
    let listed = c.in_ok-listing.listing.columns.items in
    let has_no_whole = λ (e : Column). All (λ (l : Literal). is_whole k l ≡ false) e.cube in
    All-weaker (IsTidyColumn c.args.problem.now) has_no_whole
    (λ e tidy. tidy.not_whole) listed c.in_ok-listing.ensures.tidy

-- the columns of a tree that each match a scenario, and no two of which match one, can be merged
pub merged_tidy-requires-clause-columns : goal.merged_tidy-requires-clause-columns
merged_tidy-requires-clause-columns c =
    let listed = c.in_ok-listing.listing.columns.items in
    mergeable c.args.problem.now c.processes-processes.ensures.within.few_processes c.args.urgency.now c.requires.order
    c.args.tree.now listed
    (listed_all c.args.problem.now c.args.tree.now listed c.requires.tree.each c.in_ok-listing.ensures.all
    c.in_ok-listing.ensures.tidy)

-- the columns listed are those of the tree, and merging gives those that are as few as can be
pub returns : goal.returns
returns c =
    let listed = c.in_ok-listing.listing.columns.items in
    record {
      columns = listed;
      are = listed_all c.args.problem.now c.args.tree.now listed c.requires.tree.each c.in_ok-listing.ensures.all
          c.in_ok-listing.ensures.tidy;
      merge = c.in_ok-columns.ensures;
    }
