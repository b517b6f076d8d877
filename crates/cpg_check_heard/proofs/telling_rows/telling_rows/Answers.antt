-- Proof of `telling_rows`: for each item, by number, its row and by what means that tells.
use Rattle.std.proofs.Common.{◌≡◌, ◌<◌, arith, ap, sym, subst}
use Rattle.cpg_base.specs.Graph.{item_count}
use Rattle.cpg_table.specs.Table.{columns_of}
use Rattle.cpg_violation.specs.SievedRows.{IsSievedRow}
use Rattle.cpg_check_heard.specs.TellingRows.{AreTellingRows}
use Rattle.cpg_check_heard.proofs.TellingRowLists.{rows_more}
use Rattle.cpg_check_heard.proofs.telling_rows.telling_rows.Goals as goal

-- the row of the next item is added after those before
pub loop-item-preserved : goal.loop-item-preserved
loop-item-preserved c = λ tables are.
    let graph = c.args.admitted.now.graph in
    let item = c.loop-item.item in
    let below : item < item_count graph = omega (
      arith,
      c.loop-item-test.true,
      c.item_count-item-end.ensures,
      ap item_count c.problem-problem.ensures.problem,
    ) in
    let sieved : IsSievedRow (columns_of tables item) c.index-rows-item.result =
    subst (IsSievedRow (columns_of tables item)) (sym c.index-rows-item.is)
    (are.each item c.index-rows-item.result below) in
    rows_more graph tables item c.loop-item.telling_rows.items c.push.new.self.items _ c.in_ok-push.ensures.items
    (c.loop-item.invariant tables are)
    (record { sieved = sieved; means = rw (← c.problem-problem.ensures.problem) c.means_of-means.ensures })

-- the loop has seen all items
pub returns : goal.returns
returns c = λ tables are.
    let graph = c.args.admitted.now.graph in
    let last : c.loop-item.item ≡ item_count graph = omega (
      arith,
      c.loop-item-test.false,
      c.loop-item.auto.item-end,
      c.item_count-item-end.ensures,
      ap item_count c.problem-problem.ensures.problem,
    ) in
    subst (λ n. AreTellingRows graph tables n c.loop-item.telling_rows.items) last (c.loop-item.invariant tables are)
