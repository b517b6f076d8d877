-- Loops of `Cluster::drive`, which asks nodes until every node is done, and returns how often a node waited.
use Rattle.std.proofs.Common.{◌≡◌, ◌≤◌, ◌+◌, ◌*◌}
use Rattle.cpg_cluster.specs.Driving.{remaining}
use Rattle.cpg_cluster.proofs.Drives.{IsDriving}
use Rattle.cpg_cluster.proofs.cluster.Cluster.drive.Given as goal

-- `same`: only the state of the nodes has changed. `driving`: the choices so far lead from the first state to this one,
-- and each was needed. `spent`: the waits so far are at most 16 for each instant that is used up, which bounds their
-- sum.
abbrev pub invariant-loop-self : goal.invariant-loop-self
invariant-loop-self l = record {
  same : l.self ≡ record l.fn.self { cluster = l.self.cluster };
  driving : IsDriving l.fn.self.graph l.fn.self.world l.fn.number l.fn.self.cluster l.self.cluster l.drawn l.waits;
  spent : l.waits + 16 * remaining l.self.cluster ≤ 16 * remaining l.fn.self.cluster;
}

-- each choice uses up an instant of a node
abbrev pub decreases-loop-self : goal.decreases-loop-self
decreases-loop-self l = remaining l.self.cluster
