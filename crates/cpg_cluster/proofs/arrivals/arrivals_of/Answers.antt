-- Proof of `arrivals_of`, which returns, for each of the `count` nodes, the arrival times in the hear rows of which it
-- is the sender, by time.
use Rattle.std.proofs.Common.{subst, sym, ◌+◌}
use Rattle.cpg_cluster.specs.Keeping.{AreIndexed}
use Rattle.cpg_cluster.proofs.Arriving.{index_more}
use Rattle.cpg_cluster.proofs.arrivals.arrivals_of.Goals as goal

-- the sorted times of the next sender are added at its place
pub loop-other-preserved : goal.loop-other-preserved
loop-other-preserved c =
    subst (AreIndexed c.args.rows.now c.args.senders.now (c.loop-other.other + 1)) (sym c.in_ok-push.ensures.items)
    (index_more c.args.rows.now c.args.senders.now c.loop-other.other c.loop-other.arrivals.items
    c.in_ok-arrivals_from.field-0 c.loop-other.invariant
    (record { same = c.in_ok-arrivals_from.ensures.same; rises = c.in_ok-arrivals_from.ensures.rises }))
