-- Proof of `Sequences::is_before`: whether the first of two items of a node is known to be over by the time of the
-- second, wherever a column of each matches.
use Rattle.std.proofs.Common.{subst}
use Rattle.cpg_tree.proofs.Passes.{of_true}
use Rattle.cpg_check_quick.proofs.OrderLaws.{before_in, order_at}
use Rattle.cpg_check_quick.specs.Order.{StandsBefore}
use Rattle.cpg_check_quick.proofs.sequences.Sequences.is_before.Goals as goal

-- each item of the node's order is over before each later one, and the first comes before the second
pub returns-in-Some : goal.returns-in-Some
returns-in-Some c = of_true c.stands_before.result c.stands_before.ensures (λ stands g tables lasts are.
    before_in lasts g tables c.in-Some.order.now.items c.args.first c.args.second
    (order_at lasts g tables c.args.self.now.orders.items c.deref.result.now c.args.node c.in-Some.order.now are.orders
    c.deref.ensures.value c.in-Some.ensures.lookup.3.0 c.in-Some.ensures.lookup.1)
    (subst (λ xs. StandsBefore xs c.args.first c.args.second) c.as_slice.ensures.value stands))
