-- Proof of `SpannedRows::are_over`: whether each of these items is over by a time in the scenarios of a space, by
-- whichever columns match there.
use Rattle.std.proofs.Common.{get_or}
use Rattle.std.proofs.lemmas.Bool.{OnTrue_at}
use Rattle.std.proofs.lemmas.List.Elements.{All-more}
use Rattle.cpg_check_quick.specs.Order.{IsOverBy}
use Rattle.cpg_check_quick.proofs.OrderLaws.{row_at}
use Rattle.cpg_violation.proofs.SureLaws.{each_all}
use Rattle.cpg_check_quick.proofs.spanned_rows.SpannedRows.are_over.Goals as goal

-- the next item is over by the time in the space, too: the row that was looked up is that item's
pub loop-item-preserved : goal.loop-item-preserved
loop-item-preserved c = λ g tables lasts s are law lies. All-more (λ y. IsOverBy tables (lasts y s) y c.args.time s)
    c.args.items.now c.loop-item.item-index 0 c.loop-item-test.true
    (c.loop-item.invariant g tables lasts s are law lies)
    (OnTrue_at c.if-not-is_over.false c.is_over.ensures g tables
    (lasts (get_or c.args.items.now c.loop-item.item-index 0)) (get_or c.args.items.now c.loop-item.item-index 0) s
    (row_at are (get_or c.args.items.now c.loop-item.item-index 0) c.in-Some.row.now c.deref.result.now
    c.deref.ensures.value c.in-Some.ensures.lookup.3.0 c.in-Some.ensures.lookup.1) law
    lies)

-- the loop has gone over all items, so what its invariant says of those so far holds of each
pub returns : goal.returns
returns c = λ g tables lasts s are law lies. each_all (λ y. IsOverBy tables (lasts y s) y c.args.time s)
    c.args.items.now c.loop-item.item-index c.loop-item-test.false
    (c.loop-item.invariant g tables lasts s are law lies)
