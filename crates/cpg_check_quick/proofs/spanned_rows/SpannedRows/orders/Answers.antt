-- Proof of `SpannedRows::orders`: for each of these groups of items an order in which each item is over before
-- each later one; empty if none is known.
use Rattle.cpg_check_quick.proofs.OrderLaws.{orders_more}
use Rattle.cpg_check_quick.proofs.spanned_rows.SpannedRows.orders.Goals as goal

-- the order that is added is in sequence, too
pub loop-group-preserved : goal.loop-group-preserved
loop-group-preserved c = λ g tables lasts are present. rw c.in_ok-push.ensures.items
    (orders_more lasts g tables c.loop-group.orders.items c.in_ok-order.order
    (c.loop-group.invariant g tables lasts are present) (c.in_ok-order.ensures g tables lasts are present))
