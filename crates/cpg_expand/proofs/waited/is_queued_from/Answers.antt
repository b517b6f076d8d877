-- Proof of `is_queued_from`, which says whether the node sends some item that isn't frozen for a process at the place
-- `at` of the order or later.
use Rattle.std.proofs.Common.{rules}
use Rattle.cpg_expand.proofs.ReadyMade.{none_goes_by, one_goes_by}
use Rattle.cpg_expand.proofs.waited.is_queued_from.Goals as goal

-- this item doesn't wait for the slots either
pub loop-other-preserved : goal.loop-other-preserved
loop-other-preserved c = none_goes_by c.args.problem.now c.args.order.now c.args.node c.args.at c.loop-other.other
    c.is_sent_later.result c.loop-other.invariant c.is_sent_later.ensures
    c.if-is_sent_later.false

-- this item waits for the slots, so one does
pub returns-then-is_sent_later-clause-by : goal.returns-then-is_sent_later-clause-by
returns-then-is_sent_later-clause-by c on =
    one_goes_by c.args.problem.now c.args.order.now c.args.node c.args.at c.loop-other.other c.is_sent_later.result
    (search rules) c.is_sent_later.ensures c.if-is_sent_later.true
