-- From names to numbers: the refusals of a double name and of an unknown one.
use Rattle.std.specs.Prelude.{ℕ, ◌+◌, List, [], ◌∷◌, ◌++◌, Option, Some, None, option_map, Err, map, position, bytes_eq}
use Rattle.std.specs.Prelude.{if◌then◌else◌}
use Rattle.std.specs.List.{list_any}
use Rattle.cpg_base.specs.Natural.{natural}
use Rattle.cpg_base.specs.Graph.{Graph}
use Rattle.cpg_base.specs.declared.process.Process.{Process}
use Rattle.cpg_base.specs.declared.process.Edge.{Edge}
use Rattle.cpg_base.specs.declared.process.Slot.{Slot}
use Rattle.cpg_reader.specs.declared.place.Table.{Table}
use Rattle.cpg_reader.specs.declared.place.Table.TheVariants as tables
use Rattle.cpg_reader.specs.declared.place.Key.{Key}
use Rattle.cpg_reader.specs.declared.place.Key.TheVariants.{Name, Node, From, To, Order}
use Rattle.cpg_reader.specs.declared.place.Place.{Place}
use Rattle.cpg_reader.specs.declared.place.ReadFault.TheVariants.{DoubleName, UnknownName}
use Rattle.cpg_reader.specs.declared.shape.RawSlot.{RawSlot}
use Rattle.cpg_reader.specs.declared.shape.RawProcess.{RawProcess}
use Rattle.cpg_reader.specs.declared.shape.RawEdge.{RawEdge}
use Rattle.cpg_reader.specs.Reading.{Reading, pure, done, ◌>>=◌, ◌>>◌, each}
use Rattle.cpg_reader.specs.Shape.{RawGraph}

-- a place in the document: a kind of table, the index of its element in the list, and a key
abbrev pub place : Table → ℕ → Key → Place
place table index key = record { table = table; index = index; key = key }

-- the place of a name in a list: a key of the element that has it or, for a name of the order, the key of the top
abbrev pub name_place : Table → ℕ → Key → Place
name_place tables.Top index key = place tables.Top 0 key
name_place table index key = place table index key

-- no name stands among the earlier ones or twice in the list; `i` is the index of the list's first name
abbrev pub apart_from : Table → Key → ℕ → List (List ℕ) → List (List ℕ) → Reading (Unit {0})
apart_from table key i earlier [] = done
apart_from table key i earlier (name ∷ names) = if list_any (bytes_eq name) earlier
    then Err (DoubleName (name_place table i key))
    else apart_from table key (i + 1) (earlier ++ name ∷ []) names

-- no name stands twice in a list; a refusal has the place of the first name that stands earlier too
unfoldable pub apart : Table → Key → List (List ℕ) → Reading (Unit {0})
apart table key names = apart_from table key 0 [] names

-- the number that was found for a name or, if there is none, the refusal of the name, with its place
abbrev pub known : Place → Option ℕ → Reading ℕ
known place (Some number) = pure number
known place None = Err (UnknownName place)

-- the number of a name, which is its index among the names, or the refusal of the name at this place
unfoldable pub number_of : List (List ℕ) → Place → List ℕ → Reading ℕ
number_of names place name = known place (position (bytes_eq name) names)

-- the slot that the document's slot i says: it has its node's number in place of the name
unfoldable pub slot_of : List (List ℕ) → ℕ → RawSlot → Reading Slot
slot_of nodes i s = do
  node ← number_of nodes (place tables.Slot i Node) s.node
  pure (record { node = node; length = natural s.length; bytes = natural s.bytes })

-- the process that the document's process i says: it has its node's number in place of the name
unfoldable pub process_of : List (List ℕ) → ℕ → RawProcess → Reading Process
process_of nodes i p = do
  node ← number_of nodes (place tables.Process i Node) p.node
  pure (record {
    name = p.name;
    node = node;
    wcet = natural p.wcet;
    parts = natural p.parts;
    alpha = natural p.alpha;
    chi = natural p.chi;
    mu = natural p.mu;
    join = p.join;
    frozen = p.frozen;
    release = natural p.release;
    deadline = option_map natural p.deadline;
  })

-- the edge that the document's edge i says: it has the numbers of its two processes in place of the names
unfoldable pub edge_of : List (List ℕ) → ℕ → RawEdge → Reading Edge
edge_of processes i e = do
  from ← number_of processes (place tables.Edge i From) e.from
  to ← number_of processes (place tables.Edge i To) e.to
  pure (record { from = from; to = to; size = natural e.bytes; when = e.when; frozen = e.frozen })

-- the number of a process of the order; an unknown name is shown at the key `order`, whatever its index i
abbrev pub ordered : List (List ℕ) → ℕ → List ℕ → Reading ℕ
ordered processes i name = number_of processes (name_place tables.Top i Order) name

-- the numbers of the processes of the order, if there is one
unfoldable pub order_of : List (List ℕ) → Option (List (List ℕ)) → Reading (Option (List ℕ))
order_of processes None = pure None
order_of processes (Some names) = do
  order ← each (ordered processes) 0 names
  pure (Some order)

-- no name stands twice in the order
unfoldable pub order_apart : Option (List (List ℕ)) → Reading (Unit {0})
order_apart None = done
order_apart (Some names) = apart tables.Top Order names

-- the names of the nodes that have slots, slot by slot
abbrev pub slot_names : List RawSlot → List (List ℕ)
slot_names slots = map (λ s. s.node) slots

-- the names of the processes
abbrev pub process_names : List RawProcess → List (List ℕ)
process_names processes = map (λ p. p.name) processes

-- the graph with the document's numbers and nodes, and with these parts
abbrev pub graph_with : RawGraph → List Slot → List Process → List Edge → Option (List ℕ) → Graph
graph_with g slots processes edges order = record {
  faults = natural g.faults;
  deadline = natural g.deadline;
  nodes = g.nodes;
  slots = slots;
  processes = processes;
  edges = edges;
  order = order;
}

-- the graph of a document, or the refusal of the first name that names nothing: slots first, then processes, edges, the
-- order
unfoldable pub resolved : RawGraph → Reading Graph
resolved g = do
  slots ← each (slot_of g.nodes) 0 g.slots
  processes ← each (process_of g.nodes) 0 g.processes
  edges ← each (edge_of (process_names g.processes)) 0 g.edges
  order ← order_of (process_names g.processes) g.order
  pure (graph_with g slots processes edges order)

-- the graph of a document, as `resolved` gives it, after double names of processes and in the order are refused
unfoldable pub named : RawGraph → Reading Graph
named g = do
  apart tables.Process Name (process_names g.processes)
  order_apart g.order
  resolved g

-- the graph of a document within the limits: first all double names are refused, kind by kind, then unknown ones
unfoldable pub graph_of : RawGraph → Reading Graph
graph_of g = do
  apart tables.Node Name g.nodes
  apart tables.Slot Node (slot_names g.slots)
  apart tables.Process Name (process_names g.processes)
  order_apart g.order
  resolved g
