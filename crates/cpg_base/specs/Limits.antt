-- The limits of a graph file: how much of each there may be, and in which range each number lies.
use Rattle.std.specs.Prelude.{ℕ, ◌≢◌, ◌≤◌, ◌<◌, List, length, All, AllPairs, IfSome}
use Rattle.cpg_base.specs.declared.limits.TheConstants.{MOST_FAULTS, MOST_NODES, MOST_PROCESSES, MOST_EDGES}
use Rattle.cpg_base.specs.declared.limits.TheConstants.{MOST_CONDITIONS, MOST_PARTS, LONGEST, LARGEST}
use Rattle.cpg_base.specs.Graph.{Graph, Process, Edge, Slot, process_count, edge_count, condition_count}

-- a process is on one of `nodes` nodes, and each of its numbers is in range
pub record IsProcessWithin (nodes : ℕ) (p : Process) : Type 0 where
  -- its node is one of the graph
  pub node : p.node < nodes
  -- its work takes at least 1 unit of time
  pub works : 1 ≤ p.wcet
  -- its work isn't longer than the longest time
  pub wcet : p.wcet ≤ LONGEST
  -- it is cut into at least 1 part
  pub divided : 1 ≤ p.parts
  -- it isn't cut into too many parts
  pub parts : p.parts ≤ MOST_PARTS
  -- a detection costs at most the longest time
  pub alpha : p.alpha ≤ LONGEST
  -- a checkpoint costs at most the longest time
  pub chi : p.chi ≤ LONGEST
  -- a recovery costs at most the longest time
  pub mu : p.mu ≤ LONGEST
  -- its release, before which it doesn't start, is no later than the longest time
  pub release : p.release ≤ LONGEST
  -- its own deadline, if it has one, is no later than the longest time
  pub deadline : IfSome p.deadline (λ d. d ≤ LONGEST)

-- a slot belongs to one of `nodes` nodes, and its length and its bytes are in range
pub record IsSlotWithin (nodes : ℕ) (s : Slot) : Type 0 where
  -- the node that sends in it is one of the graph
  pub node : s.node < nodes
  -- it takes at least 1 unit of time
  pub lasts : 1 ≤ s.length
  -- it isn't longer than the longest time
  pub length : s.length ≤ LONGEST
  -- a frame in it holds at least 1 byte
  pub holds : 1 ≤ s.bytes
  -- a frame in it doesn't hold too many bytes
  pub bytes : s.bytes ≤ LARGEST

-- an edge leads from one of `processes` processes to one of them, and its size in bytes is in range
pub record IsEdgeWithin (processes : ℕ) (e : Edge) : Type 0 where
  -- the process that it leads away from is one of the graph
  pub from : e.from < processes
  -- the process that it leads to is one of the graph
  pub to : e.to < processes
  -- its message has at least 1 byte
  pub sized : 1 ≤ e.size
  -- its message doesn't have too many bytes
  pub size : e.size ≤ LARGEST

-- The numbers of an order that the file gives are those of processes, and none stands twice. It need not have all.
pub record IsOrderWithin (processes : ℕ) (order : List ℕ) : Type 0 where
  -- each number is that of a process
  pub there : All (λ p. p < processes) order
  -- no two are equal
  pub once : AllPairs (λ p q. p ≢ q) order

-- A graph is within the limits of a file: there are few enough of each kind, each number is in range, no two nodes or
-- processes have one name, and no two slots one node.
pub record IsWithinLimits (g : Graph) : Type 0 where
  -- a cycle has few enough faults
  pub faults : g.faults ≤ MOST_FAULTS
  -- the deadline is no later than the longest time
  pub deadline : g.deadline ≤ LONGEST
  -- there are few enough nodes, slots, processes, edges and conditions
  pub few_nodes : length g.nodes ≤ MOST_NODES
  pub few_slots : length g.slots ≤ MOST_NODES
  pub few_processes : process_count g ≤ MOST_PROCESSES
  pub few_edges : edge_count g ≤ MOST_EDGES
  pub few_conditions : condition_count g ≤ MOST_CONDITIONS
  -- each slot is within its own limits
  pub slots : All (IsSlotWithin (length g.nodes)) g.slots
  -- each process is within its own limits
  pub processes : All (IsProcessWithin (length g.nodes)) g.processes
  -- each edge is within its own limits
  pub edges : All (IsEdgeWithin (process_count g)) g.edges
  -- no two nodes have the same name
  pub node_names : AllPairs (λ a b. a ≢ b) g.nodes
  -- no two processes have the same name
  pub process_names : AllPairs (λ p q. p.name ≢ q.name) g.processes
  -- no two slots belong to the same node
  pub own_slots : AllPairs (λ s t. s.node ≢ t.node) g.slots
  -- the order, if the file gives one, is within its limits too
  pub order : IfSome g.order (IsOrderWithin (process_count g))
