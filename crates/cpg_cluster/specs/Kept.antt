-- The fields of a cluster, as callers see them and as its calls need them.
use Rattle.std.specs.Prelude.{◌≤◌, List, length, map, All}
use Rattle.std.specs.Vec.{vec_capacity}
use Rattle.cpg_cluster.specs.declared.cluster.Cluster.TheInside.{Inside}
use Rattle.cpg_cluster.specs.declared.member.Member.{Member}
use Rattle.cpg_cluster.specs.Cluster.{Cluster}
use Rattle.cpg_cluster.specs.Playing.{Playing, IsPlaying}
use Rattle.cpg_cluster.specs.Keeping.{AllFit}

-- the state of the nodes and what they have done, taken from their members, which are by number
abbrev pub cluster_of : List Member → Cluster
cluster_of ms = record {
  nodes = map (λ (m : Member). m.node.dispatcher) ms;
  acts = map (λ (m : Member). m.acts.items) ms;
  ends = map (λ (m : Member). m.ends.items) ms;
  reports = map (λ (m : Member). m.reports.items) ms;
}

-- the play that a cluster's fields say: its tables are those of the members' dispatchers
abbrev pub playing_of : Inside → Playing
playing_of n = record {
  graph = n.problem;
  tables = map (λ (m : Member). m.node.dispatcher.table) n.members.items;
  world = record { scenario = n.scenario; lengths = n.lengths };
  cluster = cluster_of n.members.items;
}

-- the fields are a play of valid tables, each node keeps what it should, and the frames of any turn have room
pub record IsKept (n : Inside) : Type 0 where
  -- what the play is of is lawful, and some turns lead to its state
  pub playing : IsPlaying (playing_of n)
  -- there are at most 16 members, as a graph has at most 16 nodes
  pub few : length n.members.items ≤ 16
  -- each member keeps what its node needs
  pub members : AllFit n.problem n.members.items
  -- there is room for as many frames as a node's table has hear rows
  pub frames : All (λ (m : Member). length m.node.dispatcher.table.hears ≤ vec_capacity n.frames) n.members.items
