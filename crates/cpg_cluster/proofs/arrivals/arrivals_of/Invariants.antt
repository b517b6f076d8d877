-- Loops of `arrivals_of`, which returns, for each of the `count` nodes, the arrival times in the hear rows of which it
-- is the sender, by time.
use Rattle.cpg_cluster.specs.Keeping.{AreIndexed}
use Rattle.cpg_cluster.proofs.arrivals.arrivals_of.Given as goal

-- the arrival times of each sender below `other` are at its place, by time
abbrev pub invariant-loop-other : goal.invariant-loop-other
invariant-loop-other l = AreIndexed l.rows l.senders l.other l.arrivals.items
