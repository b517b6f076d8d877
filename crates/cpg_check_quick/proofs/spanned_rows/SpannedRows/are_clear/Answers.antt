-- Proof of `SpannedRows::are_clear`: whether each of these items and another, which begins at `time`, are apart
-- whichever columns match.
use Rattle.std.proofs.Common.{get_or}
use Rattle.std.proofs.lemmas.Bool.{OnTrue_at}
use Rattle.std.proofs.lemmas.List.Elements.{All-more}
use Rattle.cpg_check_quick.specs.Order.{IsApartAt}
use Rattle.cpg_check_quick.proofs.OrderLaws.{row_at}
use Rattle.cpg_violation.proofs.SureLaws.{each_all}
use Rattle.cpg_check_quick.proofs.spanned_rows.SpannedRows.are_clear.Goals as goal

-- the next item is apart from the other, too: the row that was looked up is that item's
pub loop-item-preserved : goal.loop-item-preserved
loop-item-preserved c =
    λ g tables lasts x s are is law. All-more (λ y. IsApartAt tables (lasts y s) y (lasts x s) c.args.time s)
    c.args.items.now c.loop-item.item-index 0 c.loop-item-test.true
    (c.loop-item.invariant g tables lasts x s are is law)
    (OnTrue_at c.if-not-is_clear.false c.is_clear.ensures g tables lasts
    (get_or c.args.items.now c.loop-item.item-index 0) x s
    (row_at are (get_or c.args.items.now c.loop-item.item-index 0) c.in-Some.row.now c.deref.result.now
    c.deref.ensures.value c.in-Some.ensures.lookup.3.0 c.in-Some.ensures.lookup.1) is law)

-- the loop has gone over all items, so what its invariant says of those so far holds of each
pub returns : goal.returns
returns c = λ g tables lasts x s are is law. each_all (λ y. IsApartAt tables (lasts y s) y (lasts x s) c.args.time s)
    c.args.items.now c.loop-item.item-index c.loop-item-test.false
    (c.loop-item.invariant g tables lasts x s are is law)
