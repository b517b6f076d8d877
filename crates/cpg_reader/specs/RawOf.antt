-- What a written document says: the numbers and flags of a graph, and names in place of numbers of nodes and processes.
use Rattle.std.specs.Prelude.{ℕ, pos, List, [], map, option_map, get_or}
use Rattle.cpg_base.specs.Graph.{Graph}
use Rattle.cpg_base.specs.declared.process.Process.{Process}
use Rattle.cpg_base.specs.declared.process.Edge.{Edge}
use Rattle.cpg_base.specs.declared.process.Slot.{Slot}
use Rattle.cpg_reader.specs.declared.shape.RawSlot.{RawSlot}
use Rattle.cpg_reader.specs.declared.shape.RawProcess.{RawProcess}
use Rattle.cpg_reader.specs.declared.shape.RawEdge.{RawEdge}
use Rattle.cpg_reader.specs.Shape.{RawGraph}

-- what a document says of a slot; `nodes` are the names of the nodes, by number
abbrev pub raw_slot : List (List ℕ) → Slot → RawSlot
raw_slot nodes s = record { node = get_or nodes s.node []; length = pos s.length; bytes = pos s.bytes }

-- what a document says of a process; `nodes` are the names of the nodes, by number
abbrev pub raw_process : List (List ℕ) → Process → RawProcess
raw_process nodes p = record {
  name = p.name;
  node = get_or nodes p.node [];
  wcet = pos p.wcet;
  parts = pos p.parts;
  alpha = pos p.alpha;
  chi = pos p.chi;
  mu = pos p.mu;
  join = p.join;
  frozen = p.frozen;
  release = pos p.release;
  deadline = option_map pos p.deadline;
}

-- what a document says of an edge; `names` are those of the processes, by number
abbrev pub raw_edge : List (List ℕ) → Edge → RawEdge
raw_edge names e = record {
  from = get_or names e.from [];
  to = get_or names e.to [];
  bytes = pos e.size;
  when = e.when;
  frozen = e.frozen;
}

-- the name with this number, or the empty text if there is none
abbrev pub name_in : List (List ℕ) → ℕ → List ℕ
name_in names p = get_or names p []

-- the names of processes, by number
abbrev pub names_of : List Process → List (List ℕ)
names_of processes = map (λ p. p.name) processes

-- what a document says of a graph
abbrev pub raw_of : Graph → RawGraph
raw_of g = record {
  faults = pos g.faults;
  deadline = pos g.deadline;
  nodes = g.nodes;
  slots = map (raw_slot g.nodes) g.slots;
  processes = map (raw_process g.nodes) g.processes;
  edges = map (raw_edge (names_of g.processes)) g.edges;
  order = option_map (map (name_in (names_of g.processes))) g.order;
}
