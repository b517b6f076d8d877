-- Proof of `tables`: the tables of the rows of all items under an order, given all scenarios and their runs.
use Rattle.std.proofs.Common.{ℕ, List, Option, sym, subst}
use Rattle.cpg_base.specs.Graph.{Graph}
use Rattle.cpg_table.specs.Table.{Row}
use Rattle.cpg_table.specs.Writing.{AreWritable, AreTablesWith}
use Rattle.cpg_reach.proofs.Narrow.{none_too_wide}
use Rattle.cpg_run.specs.Found.{AreRowsFound}
use Rattle.cpg_run.specs.RowLaws.{IsTimed}
use Rattle.cpg_run.proofs.Written.{found_rows_are_writable, found_rows_fit}
use Rattle.cpg_list.proofs.CodeMade.{timed_of}
use Rattle.cpg_list.proofs.FoundRows.{found_rows}
use Rattle.cpg_list.proofs.listing.tables.Goals as goal

-- the rows are found, so they fit, as no item is too wide, and can be written
pub tables_of-requires-clause-rows : goal.tables_of-requires-clause-rows
tables_of-requires-clause-rows c =
    let graph = c.args.admitted.now.graph in
    let urgency = c.args.admitted.now.order in
    let order = c.args.order.now in
    let frozen : List (Option ℕ) = c.args.frozen.now in
    let rows : List Row = c.in_ok-rows.rows.items in
    let timed : IsTimed graph urgency order frozen = timed_of graph urgency order c.args.admitted.now.guards frozen
    c.problem-problem.ensures.admitted c.requires.topological c.requires.frozen in
    let found : AreRowsFound graph urgency order frozen rows = found_rows graph urgency order frozen
    rows timed c.requires.early
    c.in_ok-rows.ensures.items c.in_ok-rows.ensures.rows in
    subst (λ (h : Graph). AreWritable h rows) (sym c.problem-problem.ensures.problem)
    (found_rows_are_writable graph urgency order frozen rows
    c.problem-problem.ensures.admitted.limits timed.admitted found
    (found_rows_fit graph urgency order frozen rows c.problem-problem.ensures.admitted.limits timed.admitted found
    (none_too_wide graph order c.requires.narrow)))

-- the rows of merged entries are found rows, and the tables are written from them
pub returns : goal.returns
returns c =
    let graph = c.args.admitted.now.graph in
    let urgency = c.args.admitted.now.order in
    let order = c.args.order.now in
    let frozen : List (Option ℕ) = c.args.frozen.now in
    let rows : List Row = c.in_ok-rows.rows.items in
    let timed : IsTimed graph urgency order frozen = timed_of graph urgency order c.args.admitted.now.guards frozen
    c.problem-problem.ensures.admitted c.requires.topological c.requires.frozen in
    record {
      rows = rows;
      found = found_rows graph urgency order frozen rows timed c.requires.early c.in_ok-rows.ensures.items
          c.in_ok-rows.ensures.rows;
      written = subst (λ (h : Graph). AreTablesWith h rows c.in_ok-tables.tables) c.problem-problem.ensures.problem
          c.in_ok-tables.ensures;
    }
