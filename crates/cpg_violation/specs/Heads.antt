-- Whether the head of a pack is that of a graph, and if not, the first part in which it differs.
use Rattle.std.specs.Prelude.{◌≡◌, ◌≢◌, IfSome, map}
use Rattle.cpg_base.specs.Graph.{Graph}
use Rattle.cpg_head.specs.GraphHead.{extra_of, head_of}
use Rattle.cpg_head.specs.Head.{Head}
use Rattle.cpg_violation.specs.declared.heads.HeadPart.{HeadPart}
use Rattle.cpg_violation.specs.declared.heads.HeadPart.TheVariants.{Faults, Nodes, Processes, Edges}

-- the head says of the processes what the graph does
pub record AreProcessesOf (g : Graph) (h : Head) : Type 0 where
  -- what a head of either version says: names, nodes, whether they have conditions, durations
  pub processes : h.processes ≡ (head_of g).processes
  -- what only version 2 adds: releases and own deadlines
  pub extras : IfSome h.extras (λ extras. extras ≡ map extra_of g.processes)

-- the head is the graph's: each of its four parts says the same
pub record IsHeadFor (g : Graph) (h : Head) : Type 0 where
  -- the number of faults
  pub faults : h.faults ≡ g.faults
  -- the names of the nodes
  pub nodes : h.nodes ≡ g.nodes
  -- the processes, with what only version 2 adds
  pub processes : AreProcessesOf g h
  -- the ends of the edges
  pub edges : h.edges ≡ (head_of g).edges

-- the first difference is in the number of faults
abbrev pub HasOtherFaults : Graph → Head → Type 0
HasOtherFaults g h = h.faults ≢ g.faults

-- the first difference is in the names of the nodes: the number of faults is the same
pub record HasOtherNodes (g : Graph) (h : Head) : Type 0 where
  -- the number of faults is the graph's
  pub faults : h.faults ≡ g.faults
  -- the names of the nodes aren't the graph's
  pub nodes : h.nodes ≢ g.nodes

-- the first difference is in the processes: what comes before them is the same
pub record HasOtherProcesses (g : Graph) (h : Head) : Type 0 where
  -- the number of faults is the graph's
  pub faults : h.faults ≡ g.faults
  -- the names of the nodes are the graph's
  pub nodes : h.nodes ≡ g.nodes
  -- the processes aren't the graph's
  pub processes : AreProcessesOf g h → ⊥

-- the first difference is in the ends of the edges: what comes before them is the same
pub record HasOtherEdges (g : Graph) (h : Head) : Type 0 where
  -- the number of faults is the graph's
  pub faults : h.faults ≡ g.faults
  -- the names of the nodes are the graph's
  pub nodes : h.nodes ≡ g.nodes
  -- the processes are the graph's
  pub processes : AreProcessesOf g h
  -- the ends of the edges aren't the graph's
  pub edges : h.edges ≢ (head_of g).edges

-- the part is the first in which the head differs from the graph's, in the order of the four cases
abbrev pub IsFirstDifference : Graph → Head → HeadPart → Type 0
IsFirstDifference g h Faults = HasOtherFaults g h
IsFirstDifference g h Nodes = HasOtherNodes g h
IsFirstDifference g h Processes = HasOtherProcesses g h
IsFirstDifference g h Edges = HasOtherEdges g h
