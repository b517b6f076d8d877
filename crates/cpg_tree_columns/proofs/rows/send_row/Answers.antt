-- Proof of `send_row`, which returns the row of a message or broadcast, its columns by their least scenarios.
use Rattle.std.proofs.Common.{refl}
use Rattle.cpg_tree_columns.specs.Columns.{columns_of_paths}
use Rattle.cpg_tree_columns.specs.MadeRows.{AreEntriesOf}
use Rattle.cpg_tree.proofs.Forks.{from_true}
use Rattle.cpg_tree.proofs.Passing.{known_from}
use Rattle.cpg_tree_columns.proofs.TreeColumns.{listed_all}
use Rattle.cpg_tree_columns.proofs.rows.send_row.Goals as goal

-- the paths of the tree have literals of the graph's variables alone
pub columns_are_tidy-requires-clause-known : goal.columns_are_tidy-requires-clause-known
columns_are_tidy-requires-clause-known c = known_from c.args.problem.now c.args.tree.paths c.requires.tree.known

-- the columns stand by their least scenarios as they are, so they are the row as listed
pub returns-then-branch-clause-columns : goal.returns-then-branch-clause-columns
returns-then-branch-clause-columns c =
    let g = c.args.problem.now in
    let columns = columns_of_paths c.args.tree.paths in
    let made : AreEntriesOf g c.args.urgency.now c.args.tree columns = record {
      are = listed_all g c.args.tree columns c.requires.tree.each refl c.columns_are_tidy.ensures;
      by_lows = from_true c.in_ok-stand_along.field-0 c.if-branch.true c.in_ok-stand_along.ensures;
    } in
    rw c.kept.ensures made

-- the columns are listed of the tree and put in order by their least scenarios, so they are the item's entries and
-- make the row
pub returns-clause-columns : goal.returns-clause-columns
returns-clause-columns c =
    let made : AreEntriesOf c.args.problem.now c.args.urgency.now c.args.tree c.in_ok-columns.columns.items = record {
      are = record {
        each = c.requires.tree.each;
        all = c.in_ok-columns.ensures.all;
        tidy = c.in_ok-columns.ensures.tidy;
      };
      by_lows = c.in_ok-columns.ensures.by_lows;
    } in
    rw c.listed.ensures made
