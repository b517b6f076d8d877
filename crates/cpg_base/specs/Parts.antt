-- The limits on the parts of a graph, without those on its conditions and its order.
use Rattle.std.specs.Prelude.{◌≢◌, ◌≤◌, length, All, AllPairs}
use Rattle.cpg_base.specs.declared.limits.TheConstants.{MOST_FAULTS, MOST_NODES, MOST_PROCESSES, MOST_EDGES, LONGEST}
use Rattle.cpg_base.specs.Graph.{Graph, process_count, edge_count}
use Rattle.cpg_base.specs.Limits.{IsProcessWithin, IsSlotWithin, IsEdgeWithin}

-- how many parts there are of each kind but conditions, what each number is, and that no two of a kind have one name, nor
-- two slots one node
pub record HasPartsWithin (g : Graph) : Type 0 where
  -- a cycle has few enough faults
  pub faults : g.faults ≤ MOST_FAULTS
  -- the deadline is no later than the longest time
  pub deadline : g.deadline ≤ LONGEST
  -- there are few enough nodes, slots, processes and edges
  pub few_nodes : length g.nodes ≤ MOST_NODES
  pub few_slots : length g.slots ≤ MOST_NODES
  pub few_processes : process_count g ≤ MOST_PROCESSES
  pub few_edges : edge_count g ≤ MOST_EDGES
  -- each slot is within its own limits
  pub slots : All (IsSlotWithin (length g.nodes)) g.slots
  -- each process is within its own limits
  pub processes : All (IsProcessWithin (length g.nodes)) g.processes
  -- each edge is within its own limits
  pub edges : All (IsEdgeWithin (process_count g)) g.edges
  -- no two nodes have the same name
  pub node_names : AllPairs (λ a b. a ≢ b) g.nodes
  -- no two processes have the same name
  pub process_names : AllPairs (λ p q. p.name ≢ q.name) g.processes
  -- no two slots belong to the same node
  pub own_slots : AllPairs (λ s t. s.node ≢ t.node) g.slots
