-- Proof of `Hearing::arrivals`: the columns of these items' rows that may match together with a cube, and whose frames
-- may have come by a time.
use Rattle.std.proofs.Common.{◌<◌, [], get_or, All, arith, false, subst, sym}
use Rattle.cpg_base.proofs.Lists.{Contains-filter_parts, numbers-Contains}
use Rattle.cpg_base.specs.Graph.{is_heard_by, item_at, item_count}
use Rattle.cpg_base.specs.Numbers.{numbers_below}
use Rattle.cpg_cube.specs.Fit.{IsKnown}
use Rattle.cpg_cube.specs.declared.column.Column.{Column}
use Rattle.cpg_violation.specs.SievedRows.{IsSievedRow}
use Rattle.cpg_violation.proofs.Violations.{columns_known}
use Rattle.cpg_check_heard.specs.declared.bound.LiteralBound.{LiteralBound}
use Rattle.cpg_check_heard.specs.Arrivals.{do_tell}
use Rattle.cpg_check_heard.specs.TellingRows.{CanTell}
use Rattle.cpg_check_heard.specs.Untold.{item_tells}
use Rattle.cpg_check_heard.proofs.Facts.{heard_can}
use Rattle.cpg_check_heard.proofs.Framed.{heard_below}
use Rattle.cpg_check_heard.proofs.PartLaws.{row_more}
use Rattle.cpg_check_heard.proofs.TellingRowLists.{row_at}
use Rattle.cpg_check_heard.proofs.hearing.Hearing.arrivals.Goals as goal

-- an item that is heard is one of the graph, so it has a row
pub index-row-requires : goal.index-row-requires
index-row-requires c =
    let graph = c.args.self.now.admitted.now.graph in
    let item = get_or c.args.items.now c.loop-item.item-index 0 in
    let below : item < item_count graph =
    heard_below graph c.args.node item (c.requires.items c.loop-item.item-index 0 c.loop-item-test.true) in
    omega (arith, below, c.requires.hearing.telling_rows.count)

-- the telling row at the item's number has the sieved row of the item
pub add_row-requires : goal.add_row-requires
add_row-requires c =
    let graph = c.args.self.now.admitted.now.graph in
    let item = get_or c.args.items.now c.loop-item.item-index 0 in
    let below : item < item_count graph =
    heard_below graph c.args.node item (c.requires.items c.loop-item.item-index 0 c.loop-item-test.true) in
    let row = c.index-row.result.now in
    -- the row that was looked up is the item's
    let is = row_at graph c.args.self.now.tables.now.nodes
    (item_count graph) c.args.self.now.telling_rows.items item row c.requires.hearing.telling_rows
    below c.index-row.ensures in
    subst (λ columns. IsSievedRow columns row.sieved.now) (sym is.sieved.all) is.sieved

-- with the next item's row, the columns tell what the rows of one item more tell
pub loop-item-preserved : goal.loop-item-preserved
loop-item-preserved c =
    let graph = c.args.self.now.admitted.now.graph in
    let item = get_or c.args.items.now c.loop-item.item-index 0 in
    -- the next item is one that the node hears, and has a row
    let parts = Contains-filter_parts (λ x. is_heard_by graph c.args.node (item_at graph x))
    (numbers_below (item_count graph)) item
    (c.requires.items c.loop-item.item-index 0 c.loop-item-test.true) in
    let below : item < item_count graph = numbers-Contains (item_count graph) item parts.0 in
    let tables = c.args.self.now.tables.now.nodes in
    let row = c.index-row.result.now in
    -- the row that was looked up is the item's
    let is = row_at graph tables
    (item_count graph) c.args.self.now.telling_rows.items item row c.requires.hearing.telling_rows
    below c.index-row.ensures in
    -- the row's columns have variables of the graph alone, and can tell each bound
    let known : All (λ (d : Column). IsKnown graph d.cube) row.sieved.now.columns.now =
    rw is.sieved.all (columns_known c.requires.hearing.admitted tables c.requires.hearing.tables item) in
    let can : (b : LiteralBound) → CanTell graph b row.means = λ b.
    rw is.means (heard_can graph tables c.args.time b (record { values = []; faults = [] }) item c.args.node parts.1) in
    -- with the row, the columns tell a bound where the rows of one item more do
    record {
      each = c.in_ok-add_row.ensures.each graph known can c.loop-item.invariant.each;
      told = λ b s m.
          row_more (item_tells graph tables c.args.time b s) c.args.items.now
          c.loop-item.item-index 0 c.loop-item-test.true
          false (do_tell graph c.args.time b c.loop-item.arrivals.items s)
          (do_tell graph c.args.time b c.add_row.new.arrivals.items s) (c.loop-item.invariant.told b s m)
          (rw (is.means, is.sieved.all) at c.in_ok-add_row.ensures.told graph b s m);
    }
