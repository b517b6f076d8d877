-- What the nodes of a play have done when each of them is done: all that is due, in order.
use Rattle.std.specs.Prelude.{ℕ, ◌<◌, List, [], get_or, length}
use Rattle.std.specs.List.{flat_map}
use Rattle.cpg_base.specs.Graph.{Graph}
use Rattle.cpg_base.specs.Numbers.{numbers_below}
use Rattle.cpg_node.specs.Dispatcher.{Act}
use Rattle.cpg_table.specs.Table.{NodeTable}
use Rattle.cpg_cluster.specs.Cluster.{World, Cluster, IsPlayed}
use Rattle.cpg_cluster.specs.Correct.{IsDue, ArePlannedEnds, IsOrderly}

-- all that the nodes did, node by node
abbrev pub all_acts : Graph → Cluster → List Act
all_acts g c = flat_map (λ node. get_or c.acts node []) (numbers_below (length g.nodes))

-- The acts of each node are what is due on it, and its ends are the planned ones, each in order. So each active item
-- was done once, after its inputs, alone on its processor and in its slot, and ended by its due.
pub record IsWholePlay (g : Graph) (tables : List NodeTable) (w : World) (c : Cluster) : Type 0 where
  -- some turns lead to this state
  pub played : IsPlayed g tables w c
  -- each node did what is due on it, in order
  pub acts : (node : ℕ) → node < length g.nodes → IsDue g tables w.scenario node (get_or c.acts node [])
  -- each node reached its planned ends, in order, each with what the process reports
  pub ends : (node : ℕ) → node < length g.nodes → ArePlannedEnds g tables w.scenario node (get_or c.ends node [])
  -- what all nodes did, taken together, is orderly
  pub orderly : IsOrderly g w.scenario (all_acts g c)
