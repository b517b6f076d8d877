-- Proof of `SpannedRows::end_before`: whether each of these items is over by the time of another, which has a tree,
-- wherever a column of each matches.
use Rattle.std.proofs.Common.{get_or}
use Rattle.std.proofs.lemmas.Bool.{OnTrue_at}
use Rattle.std.proofs.lemmas.List.Elements.{All-more}
use Rattle.cpg_check_quick.specs.Order.{IsOver}
use Rattle.cpg_check_quick.proofs.OrderLaws.{row_at}
use Rattle.cpg_violation.proofs.SureLaws.{each_all}
use Rattle.cpg_check_quick.proofs.spanned_rows.SpannedRows.end_before.Goals as goal

-- the next item is over before the other, too: the row that was looked up is that item's
pub loop-item-preserved : goal.loop-item-preserved
loop-item-preserved c = λ g tables lasts long x are is there.
    let item = get_or c.args.items.now c.loop-item.item-index 0 in
    All-more (λ y. IsOver lasts g tables y x) c.args.items.now c.loop-item.item-index 0 c.loop-item-test.true
    (c.loop-item.invariant g tables lasts long x are is there)
    (OnTrue_at c.if-not-ends_before.false c.ends_before.ensures g tables lasts long item x are.everywhere
    (row_at are item c.in-Some.one.now c.deref.result.now c.deref.ensures.value c.in-Some.ensures.lookup.3.0
    c.in-Some.ensures.lookup.1) is there)

-- the loop has gone over all items, so what its invariant says of those so far holds of each
pub returns : goal.returns
returns c = λ g tables lasts long x are is there.
    each_all (λ y. IsOver lasts g tables y x) c.args.items.now c.loop-item.item-index c.loop-item-test.false
    (c.loop-item.invariant g tables lasts long x are is there)
