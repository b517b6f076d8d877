-- What a document says by its keys and types: the refusals of a bad field.
use Rattle.std.specs.Prelude.{ℕ, ℤ, pos, false, List, [], ◌∷◌, Option, option_map, map}
use Rattle.toml.specs.Data.{Members, as_integer, as_bool}
use Rattle.toml.specs.View.{table_view}
use Rattle.cpg_reader.specs.declared.place.Table.{Table}
use Rattle.cpg_reader.specs.declared.place.Table.TheVariants as tables
use Rattle.cpg_reader.specs.declared.place.Key.TheVariants.{Faults, Deadline, Node, Slot, Process, Edge, Order, Name}
use Rattle.cpg_reader.specs.declared.place.Key.TheVariants.{Length, Bytes, Wcet, Parts, Alpha, Chi, Mu, Join, Frozen}
use Rattle.cpg_reader.specs.declared.place.Key.TheVariants.{Release, From, To, When}
use Rattle.cpg_reader.specs.declared.shape.RawSlot.{RawSlot}
use Rattle.cpg_reader.specs.declared.shape.RawProcess.{RawProcess}
use Rattle.cpg_reader.specs.declared.shape.RawEdge.{RawEdge}
use Rattle.cpg_reader.specs.declared.shape.RawProblem.{RawProblem}
use Rattle.cpg_reader.specs.declared.shape.RawWork.{RawWork}
use Rattle.cpg_reader.specs.declared.shape.RawLink.{RawLink}
use Rattle.cpg_reader.specs.declared.shape.Tops.{Tops as TopsOfCode}
use Rattle.cpg_reader.specs.Reading.{Reading, pure, ◌>>=◌, ◌>>◌, each}
use Rattle.cpg_reader.specs.Rows.{DocumentRow, read_name, read_integer, integer_or, flag_or, optional, as_names}
use Rattle.cpg_reader.specs.Rows.{read_array, only}

-- A node: its name. Here and below, unknown keys are refused after all known ones are read.
unfoldable pub read_node : DocumentRow → Reading (List ℕ)
read_node row = do
  name ← read_name row Name
  only (Name ∷ []) row
  pure name

-- a slot as the document has it; no key has a default
unfoldable pub read_slot : DocumentRow → Reading RawSlot
read_slot row = do
  node ← read_name row Node
  length ← read_integer row Length
  bytes ← read_integer row Bytes
  only (Node ∷ Length ∷ Bytes ∷ []) row
  pure (record { node = node; length = length; bytes = bytes })

-- A process as the document has it. By default it has one part, costs nothing beside its wcet, is released at 0, is
-- neither a join nor frozen, and has no own deadline.
unfoldable pub read_process : DocumentRow → Reading RawProcess
read_process row = do
  name ← read_name row Name
  node ← read_name row Node
  wcet ← read_integer row Wcet
  parts ← integer_or (pos 1) row Parts
  alpha ← integer_or (pos 0) row Alpha
  chi ← integer_or (pos 0) row Chi
  mu ← integer_or (pos 0) row Mu
  join ← flag_or false row Join
  frozen ← flag_or false row Frozen
  release ← integer_or (pos 0) row Release
  deadline ← optional as_integer row Deadline
  only (Name ∷ Node ∷ Wcet ∷ Parts ∷ Alpha ∷ Chi ∷ Mu ∷ Join ∷ Frozen ∷ Release ∷ Deadline ∷ []) row
  pure (record {
    name = name;
    node = node;
    wcet = wcet;
    parts = parts;
    alpha = alpha;
    chi = chi;
    mu = mu;
    join = join;
    frozen = frozen;
    release = release;
    deadline = deadline;
  })

-- the fields of a process besides its names; its table has no other key
unfoldable pub read_work : DocumentRow → Reading RawWork
read_work row = do
  wcet ← read_integer row Wcet
  parts ← integer_or (pos 1) row Parts
  alpha ← integer_or (pos 0) row Alpha
  chi ← integer_or (pos 0) row Chi
  mu ← integer_or (pos 0) row Mu
  join ← flag_or false row Join
  frozen ← flag_or false row Frozen
  release ← integer_or (pos 0) row Release
  deadline ← optional as_integer row Deadline
  only (Name ∷ Node ∷ Wcet ∷ Parts ∷ Alpha ∷ Chi ∷ Mu ∷ Join ∷ Frozen ∷ Release ∷ Deadline ∷ []) row
  pure (record { wcet = wcet; parts = parts; alpha = alpha; chi = chi; mu = mu; join = join; frozen = frozen; release = release; deadline = deadline })

-- a process named `name`, on the node named `node`
abbrev pub process_with : List ℕ → List ℕ → RawWork → RawProcess
process_with name node w = record {
  name = name;
  node = node;
  wcet = w.wcet;
  parts = w.parts;
  alpha = w.alpha;
  chi = w.chi;
  mu = w.mu;
  join = w.join;
  frozen = w.frozen;
  release = w.release;
  deadline = w.deadline;
}

-- An edge as the document has it. By default its message has one byte and isn't frozen, and it is live with either
-- value of its source's condition.
unfoldable pub read_edge : DocumentRow → Reading RawEdge
read_edge row = do
  from ← read_name row From
  to ← read_name row To
  bytes ← integer_or (pos 1) row Bytes
  when ← optional as_bool row When
  frozen ← flag_or false row Frozen
  only (From ∷ To ∷ Bytes ∷ When ∷ Frozen ∷ []) row
  pure (record { from = from; to = to; bytes = bytes; when = when; frozen = frozen })

-- the fields of an edge besides its ends; its table has no other key
unfoldable pub read_link : DocumentRow → Reading RawLink
read_link row = do
  bytes ← integer_or (pos 1) row Bytes
  when ← optional as_bool row When
  frozen ← flag_or false row Frozen
  only (From ∷ To ∷ Bytes ∷ When ∷ Frozen ∷ []) row
  pure (record { bytes = bytes; when = when; frozen = frozen })

-- an edge from the process named `from` to the one named `to`
abbrev pub edge_with : List ℕ → List ℕ → RawLink → RawEdge
edge_with from to l = record { from = from; to = to; bytes = l.bytes; when = l.when; frozen = l.frozen }

-- the elements of a list of the document, given their tables
abbrev pub read_rows : {T : Type 0} → Table → (DocumentRow → Reading T) → List Members → Reading (List T)
read_rows table element_at members =
    each (λ i ms. element_at (record { table = table; index = i; members = ms })) 0 members

-- what a document says by its keys and types: numbers may still be out of range, and names may name nothing
pub record RawGraph : Type 0 where
  -- the most faults in one cycle
  pub faults : ℤ
  -- the time by which all executions have to end
  pub deadline : ℤ
  -- the names of the nodes
  pub nodes : List (List ℕ)
  -- the slots, in the document's order
  pub slots : List RawSlot
  -- the processes, in the document's order
  pub processes : List RawProcess
  -- the edges, in the document's order
  pub edges : List RawEdge
  -- the names of the processes in the order that the graph gives, or `None` if it gives none
  pub order : Option (List (List ℕ))

-- what a document says, from the code's record of it
abbrev pub raw_view : RawProblem → RawGraph
raw_view p = record {
  faults = p.faults;
  deadline = p.deadline;
  nodes = p.nodes.items;
  slots = p.slots.items;
  processes = p.processes.items;
  edges = p.edges.items;
  order = option_map (λ names. names.items) p.order;
}

-- the whole document: first the keys of the top, then each element of each list
unfoldable pub read_raw : Members → Reading RawGraph
read_raw ms = do
  let top : DocumentRow = record { table = tables.Top; index = 0; members = ms }
  faults ← read_integer top Faults
  deadline ← read_integer top Deadline
  node_tables ← read_array top Node
  slot_tables ← read_array top Slot
  process_tables ← read_array top Process
  edge_tables ← read_array top Edge
  order ← optional as_names top Order
  only (Faults ∷ Deadline ∷ Node ∷ Slot ∷ Process ∷ Edge ∷ Order ∷ []) top
  nodes ← read_rows tables.Node read_node node_tables
  slots ← read_rows tables.Slot read_slot slot_tables
  processes ← read_rows tables.Process read_process process_tables
  edges ← read_rows tables.Edge read_edge edge_tables
  pure (record { faults = faults; deadline = deadline; nodes = nodes; slots = slots; processes = processes; edges = edges; order = order })

-- what the keys of the top have: two numbers, the tables of each list, and the names of the order, if it is there
pub record Tops : Type 0 where
  -- the most faults in one cycle
  pub faults : ℤ
  -- the time by which all executions have to end
  pub deadline : ℤ
  -- the members of each node's table, in the document's order
  pub nodes : List Members
  -- the members of each slot's table, in the document's order
  pub slots : List Members
  -- the members of each process's table, in the document's order
  pub processes : List Members
  -- the members of each edge's table, in the document's order
  pub edges : List Members
  -- the names in the order, or `None` if there is no such key
  pub order : Option (List (List ℕ))

-- the top of a document, from the code's record of it
abbrev pub tops_view : TopsOfCode → Tops
tops_view t = record {
  faults = t.faults;
  deadline = t.deadline;
  nodes = map (λ m. table_view m.now) t.nodes.items;
  slots = map (λ m. table_view m.now) t.slots.items;
  processes = map (λ m. table_view m.now) t.processes.items;
  edges = map (λ m. table_view m.now) t.edges.items;
  order = option_map (λ names. names.items) t.order;
}

-- the lists and the order of a top whose two numbers are read; it has no other key
unfoldable pub read_lists : DocumentRow → ℤ → ℤ → Reading Tops
read_lists top faults deadline = do
  node_tables ← read_array top Node
  slot_tables ← read_array top Slot
  process_tables ← read_array top Process
  edge_tables ← read_array top Edge
  order ← optional as_names top Order
  only (Faults ∷ Deadline ∷ Node ∷ Slot ∷ Process ∷ Edge ∷ Order ∷ []) top
  pure (record { faults = faults; deadline = deadline; nodes = node_tables; slots = slot_tables; processes = process_tables; edges = edge_tables; order = order })

-- what all keys of the top have
unfoldable pub read_tops : DocumentRow → Reading Tops
read_tops top = do
  faults ← read_integer top Faults
  deadline ← read_integer top Deadline
  read_lists top faults deadline

-- the elements of each list, read from their tables, one list after the other
unfoldable pub read_elements : Tops → Reading RawGraph
read_elements t = do
  nodes ← read_rows tables.Node read_node t.nodes
  slots ← read_rows tables.Slot read_slot t.slots
  processes ← read_rows tables.Process read_process t.processes
  edges ← read_rows tables.Edge read_edge t.edges
  pure (record { faults = t.faults; deadline = t.deadline; nodes = nodes; slots = slots; processes = processes; edges = edges; order = t.order })
