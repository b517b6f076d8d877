-- Proof of `Sequences::untold`: those of these items of a node that aren't known to be apart from another by the
-- sequence of the node's items.
use Rattle.std.proofs.Common.{get_or, inr}
use Rattle.std.proofs.lemmas.Bool.{OnTrue_at}
use Rattle.std.proofs.lemmas.List.Elements.{All-more}
use Rattle.cpg_check_quick.proofs.OrderLaws.{Known, apart_over, known_push, over_apart}
use Rattle.cpg_violation.proofs.SureLaws.{each_all}
use Rattle.cpg_check_quick.proofs.sequences.Sequences.untold.Goals as goal

-- the next item is always over before the other begins, so the two are apart
pub loop-item-preserved-then-is_before : goal.loop-item-preserved-then-is_before
loop-item-preserved-then-is_before c =
    λ g tables lasts are. All-more (Known lasts g tables c.args.other c.loop-item.left.items) c.args.items.now
    c.loop-item.item-index 0 c.loop-item-test.true
    (c.loop-item.invariant g tables lasts are)
    (inr (over_apart lasts g tables (get_or c.args.items.now c.loop-item.item-index 0) c.args.other
    (OnTrue_at c.if-is_before.true c.is_before.ensures g tables lasts are)))

-- the other is always over before the next item begins, so the two are apart
pub loop-item-preserved-then-is_before-2 : goal.loop-item-preserved-then-is_before-2
loop-item-preserved-then-is_before-2 c =
    λ g tables lasts are. All-more (Known lasts g tables c.args.other c.loop-item.left.items) c.args.items.now
    c.loop-item.item-index 0 c.loop-item-test.true
    (c.loop-item.invariant g tables lasts are)
    (inr (apart_over lasts g tables (get_or c.args.items.now c.loop-item.item-index 0) c.args.other
    (OnTrue_at c.if-is_before-2.true c.is_before-in-loop-item.ensures g tables lasts are)))

-- the next item is left
pub loop-item-preserved : goal.loop-item-preserved
loop-item-preserved c = λ g tables lasts are. rw c.in_ok-push.ensures.items
    (known_push lasts g tables c.args.other c.loop-item.left.items c.args.items.now c.loop-item.item-index
    c.loop-item-test.true (c.loop-item.invariant g tables lasts are))

-- the loop has gone over all items, so what its invariant says of those so far holds of each
pub returns : goal.returns
returns c = λ g tables lasts are. each_all (Known lasts g tables c.args.other c.loop-item.left.items) c.args.items.now
    c.loop-item.item-index c.loop-item-test.false
    (c.loop-item.invariant g tables lasts are)
