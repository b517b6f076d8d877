-- Loops of `Cluster::choose`, which asks the nodes from node `first` on, round the circle, until one takes its turn or all
-- have been asked, and returns how many waited.
use Rattle.std.proofs.Common.{◌≡◌, ◌-◌}
use Rattle.cpg_cluster.proofs.Driven.{IsChoosing}
use Rattle.cpg_cluster.proofs.cluster.Cluster.choose.Given as goal

-- After `asked` nodes none took a turn, so the state is that of the start. What the rest of the circle chooses is
-- what the whole circle chooses, and each of the nodes asked waited once at most.
abbrev pub invariant-loop-asked : goal.invariant-loop-asked
invariant-loop-asked l = record {
  same : l.self ≡ l.fn.self;
  choosing : IsChoosing l.fn.self.graph l.fn.self.world l.fn.self.cluster l.nodes l.first l.asked l.waits;
}

-- each turn of the loop asks one more node
abbrev pub decreases-loop-asked : goal.decreases-loop-asked
decreases-loop-asked l = l.nodes - l.asked
