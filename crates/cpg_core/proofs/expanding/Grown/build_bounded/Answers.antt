-- Proof of `Grown::build_bounded`, which returns the rows, with the frozen times and the measures. A row keeps the tree
-- that it is made from, or lists the columns, and the tree is dropped. If an item is too wide by its views, columns are
-- counted as rows are made: `TooWide` has the least such item if a row has more than 16,384, or all rows of all tables
-- more than 524,288.
use Rattle.std.proofs.Common.{ℕ, List, Option, refl, subst}
use Rattle.std.specs.Prelude.{IfSome}
use Rattle.cpg_base.specs.Graph.{Graph}
use Rattle.cpg_run.specs.Alike.{Admitted}
use Rattle.cpg_run.specs.Found.{AreRowsFound, DoRowsFit}
use Rattle.cpg_run.proofs.BuiltTables.{admitted_under}
use Rattle.cpg_table.specs.Table.{Row}
use Rattle.cpg_expand.specs.Forest.{ForestState}
use Rattle.cpg_tree_columns.specs.MadeRows.{AreRowsOf}
use Rattle.cpg_core.proofs.GrownRows.{grown_rows_found, said_of}
use Rattle.cpg_core.proofs.WideRowsMade.{named_least, rows_fit}
use Rattle.cpg_expand.specs.Large.{ShowsLarge}
use Rattle.cpg_core.specs.WideRows.{HaveWideRows}
use Rattle.cpg_expand.proofs.LargeShown.{handed_on}
use Rattle.cpg_core.proofs.expanding.Grown.build_bounded.Goals as goal

-- the rows of trees grown along the whole order are rows that a builder finds, with the measures of the order
pub returns-clause-rows : goal.returns-clause-rows
returns-clause-rows c =
    let g = c.args.admitted.now.graph in
    let urgency = c.args.admitted.now.order in
    let order = c.args.self.order in
    let guards = c.args.admitted.now.guards in
    let is_admitted = c.problem-problem.ensures.admitted in
    let admitted : Admitted g urgency order =
    admitted_under g urgency order guards is_admitted c.requires.topological in
    let frozen : List (Option ℕ) = c.args.self.trees.frozen in
    let forest : ForestState = c.args.self.trees.forest in
    let rows : List Row = c.in_ok-rows.rows.items in
    -- the rows are those of the forest that was grown
    let made : AreRowsOf g urgency forest.times rows = said_of (λ h us ts. AreRowsOf h us ts rows) g
    c.problem-problem.result.now urgency c.order-urgency.result.now forest.times
    c.into_times-times.result.items
    c.problem-problem.ensures.problem c.order-urgency.ensures.order c.into_times-times.ensures
    c.in_ok-rows.ensures.rows in
    -- these are rows that a builder finds for the order
    let found : AreRowsFound g urgency order frozen rows = grown_rows_found g urgency guards is_admitted order
    c.requires.topological frozen forest c.requires.grown.trees rows made in
    let few : IfSome c.args.self.wide (λ item. DoRowsFit g rows) =
    subst (λ (h : Graph). IfSome c.args.self.wide (λ item. DoRowsFit h rows)) c.problem-problem.ensures.problem
    c.in_ok-rows.ensures.few in
    record {
      same = refl;
      found = found;
      fit = rows_fit g urgency order frozen rows is_admitted.limits admitted found c.args.self.wide
          c.requires.grown.wide few;
      worst = c.requires.grown.worst;
      excess = c.requires.grown.excess;
    }

-- the fault names the least item that is too wide, as its rows have too many columns
pub returns-in_err-rows-clause-fault : goal.returns-in_err-rows-clause-fault
returns-in_err-rows-clause-fault c =
    let g = c.args.admitted.now.graph in
    let urgency = c.args.admitted.now.order in
    let forest : ForestState = c.args.self.trees.forest in
    let fault = c.in_err-rows.field-0.0 in
    handed_on _ c.from_residual.result fault c.from_residual.ensures.1
    (named_least (HaveWideRows g urgency forest.times) g c.args.self.order c.args.self.wide fault c.requires.grown.wide
    (said_of (λ h us ts. ShowsLarge c.args.self.wide (HaveWideRows h us ts) fault) g c.problem-problem.result.now
    urgency c.order-urgency.result.now forest.times c.into_times-times.result.items
    c.problem-problem.ensures.problem c.order-urgency.ensures.order c.into_times-times.ensures
    c.in_err-rows.ensures.fault))
