-- A written document is read, by its keys and types, as what it was written from.
use Rattle.std.proofs.Common.{◌≡◌, ℕ, ◌+◌, suc, Bool, List, [], ◌∷◌, get_or, map, Option, Some, None, Ok, refl, ap, ◌∙◌}
use Rattle.std.proofs.Common.{arith}
use Rattle.std.specs.Prelude.{All, IfSome}
use Rattle.std.specs.List.{AllByRecursion}
use Rattle.toml.specs.Data.{Members, string, table, as_table}
use Rattle.toml.specs.View.{items_of}
use Rattle.cpg_base.specs.Graph.{Graph}
use Rattle.cpg_base.specs.Name.{IsName}
use Rattle.cpg_base.specs.declared.process.Process.{Process}
use Rattle.cpg_base.specs.declared.process.Edge.{Edge}
use Rattle.cpg_base.specs.declared.process.Slot.{Slot}
use Rattle.cpg_reader.specs.declared.place.Table.TheVariants as places
use Rattle.cpg_reader.specs.Reading.{Reading, each}
use Rattle.cpg_reader.specs.Rows.{name_if, items_as, as_name, read_name, read_integer, integer_or, flag_or, optional}
use Rattle.cpg_reader.specs.Rows.{only, read_array}
use Rattle.cpg_reader.specs.Shape.{read_node, read_slot, read_process, read_edge, read_rows, read_raw}
use Rattle.cpg_reader.proofs.NameTexts.{is_name-from_IsName}
use Rattle.cpg_reader.specs.WrittenTree.{node_members, slot_members, process_members, edge_members, graph_members}
use Rattle.cpg_reader.specs.RawOf.{raw_slot, raw_process, raw_edge, raw_of, name_in, names_of}

-- what holds of all elements holds of them one by one
pub all_by_recursion : {X : Type 0} (P : X → Type 0) (xs : List X) → All P xs → AllByRecursion P xs
all_by_recursion P [] h = tt
all_by_recursion P (x ∷ xs) h = (h 0 x (omega arith), all_by_recursion P xs (λ k d l. h (suc k) d (omega (arith, l))))

-- a lawful name is taken as itself
pub name_read : (text : List ℕ) → IsName text → name_if text ≡ Some text
name_read text is_name = rw (is_name-from_IsName text is_name) refl

-- the written table of a node is read as its name
node_read : (i : ℕ) (name : List ℕ) → IsName name →
    read_node (record { table = places.Node; index = i; members = node_members name }) ≡ Ok name
unfolding read_node read_name optional only
node_read i name is_name = rw (name_read name is_name) refl

-- the written table of a slot is read as the slot
slot_read : (nodes : List (List ℕ)) (i : ℕ) (s : Slot) → IsName (get_or nodes s.node []) →
    read_slot (record { table = places.Slot; index = i; members = slot_members nodes s }) ≡ Ok (raw_slot nodes s)
unfolding read_slot read_name read_integer optional only
slot_read nodes i s is_name = rw (name_read (get_or nodes s.node []) is_name) refl

-- a process and its node have lawful names
pub record IsCalled (nodes : List (List ℕ)) (p : Process) : Type 0 where
  -- the name of the process is lawful
  pub name : IsName p.name
  -- the name of its node is lawful
  pub node : IsName (get_or nodes p.node [])

-- the written table of a process is read as the process; by whether it has its own deadline
process_by : (nodes : List (List ℕ)) (i : ℕ) (p : Process) (own : Option ℕ) → p.deadline ≡ own → IsCalled nodes p
    → read_process (record { table = places.Process; index = i; members = process_members nodes p })
    ≡ Ok (raw_process nodes p)
unfolding read_process read_name read_integer integer_or flag_or optional only
process_by nodes i p None is h = rw (is, name_read p.name h.name, name_read (get_or nodes p.node []) h.node) refl
process_by nodes i p (Some d) is h = rw (is, name_read p.name h.name, name_read (get_or nodes p.node []) h.node) refl

-- both ends of an edge have lawful names
pub record IsJoined (names : List (List ℕ)) (e : Edge) : Type 0 where
  -- the name of its source is lawful
  pub from : IsName (get_or names e.from [])
  -- the name of its target is lawful
  pub to : IsName (get_or names e.to [])

-- the written table of an edge is read as the edge; by whether it has a `when`
edge_by : (processes : List Process) (i : ℕ) (e : Edge) (when : Option Bool) → e.when ≡ when →
    IsJoined (names_of processes) e
    → read_edge (record { table = places.Edge; index = i; members = edge_members processes e })
    ≡ Ok (raw_edge (names_of processes) e)
unfolding read_edge read_name integer_or flag_or optional only
edge_by processes i e None is h = rw (
  is,
  name_read (get_or (names_of processes) e.from []) h.from,
  name_read (get_or (names_of processes) e.to []) h.to,
) refl
edge_by processes i e (Some value) is h = rw (
  is,
  name_read (get_or (names_of processes) e.from []) h.from,
  name_read (get_or (names_of processes) e.to []) h.to,
) refl

-- if each element is read as its value, the list is read as the values
each_read : {S T U : Type 0} (step : ℕ → T → Reading U) (f : S → T) (r : S → U) (P : S → Type 0) →
    ((i : ℕ) (x : S) → P x → step i (f x) ≡ Ok (r x)) → (i : ℕ) (xs : List S) →
    AllByRecursion P xs
    → each step i (map f xs) ≡ Ok (map r xs)
each_read step f r P h i [] a = refl
each_read step f r P h i (x ∷ xs) a = rw (h i x a.0, each_read step f r P h (i + 1) xs a.1) refl

-- the written tables of a list are read as tables
tables_read : {T : Type 0} (f : T → Members) (xs : List T) →
    items_as as_table (items_of (map (λ x. table (f x)) xs)) ≡ Some (map f xs)
tables_read f [] = refl
tables_read f (x ∷ xs) = rw (tables_read f xs) refl

-- the written names of an order are read as names
names_read : (names : List (List ℕ)) (order : List ℕ) → AllByRecursion (λ p. IsName (name_in names p)) order →
    items_as as_name (items_of (map (λ p. string (name_in names p)) order)) ≡ Some (map (name_in names) order)
names_read names [] h = refl
names_read names (p ∷ ps) h = rw (name_read (name_in names p) h.0, names_read names ps h.1) refl

-- mapping each element to itself changes nothing
map_same : {X : Type 0} (xs : List X) → map (λ x. x) xs ≡ xs
map_same [] = refl
map_same (x ∷ xs) = ap (λ l. x ∷ l) (map_same xs)

-- all names that the document of a graph has are lawful
pub record AreNames (g : Graph) : Type 0 where
  -- the names of the nodes are lawful
  pub nodes : AllByRecursion IsName g.nodes
  -- the names of the slots' nodes are lawful
  pub slots : AllByRecursion (λ s. IsName (get_or g.nodes s.node [])) g.slots
  -- the names of the processes and of their nodes are lawful
  pub processes : AllByRecursion (IsCalled g.nodes) g.processes
  -- the names of the edges' ends are lawful
  pub edges : AllByRecursion (IsJoined (names_of g.processes)) g.edges
  -- the names in the order are lawful, if the graph gives one
  pub order : IfSome g.order (AllByRecursion (λ p. IsName (name_in (names_of g.processes) p)))

-- the tables of the nodes are read as their names
nodes_read : (g : Graph) → AreNames g → read_rows places.Node read_node (map node_members g.nodes) ≡ Ok g.nodes
nodes_read g h = each_read (λ i ms. read_node (record { table = places.Node; index = i; members = ms })) node_members
    (λ n. n) IsName node_read 0 g.nodes h.nodes ∙ ap (λ l. Ok l) (map_same g.nodes)

-- the written slots are read as the slots
slots_read : (g : Graph) → AreNames g →
    read_rows places.Slot read_slot (map (slot_members g.nodes) g.slots) ≡ Ok (map (raw_slot g.nodes) g.slots)
slots_read g h = each_read (λ i ms. read_slot (record { table = places.Slot; index = i; members = ms }))
    (slot_members g.nodes) (raw_slot g.nodes) _ (slot_read g.nodes) 0 g.slots h.slots

-- the written processes are read as the processes
processes_read : (g : Graph) → AreNames g →
    read_rows places.Process read_process (map (process_members g.nodes) g.processes)
    ≡ Ok (map (raw_process g.nodes) g.processes)
processes_read g h = each_read (λ i ms. read_process (record { table = places.Process; index = i; members = ms }))
    (process_members g.nodes) (raw_process g.nodes) (IsCalled g.nodes)
    (λ i p c. process_by g.nodes i p p.deadline refl c) 0 g.processes h.processes

-- the written edges are read as the edges
edges_read : (g : Graph) → AreNames g →
    read_rows places.Edge read_edge (map (edge_members g.processes) g.edges)
    ≡ Ok (map (raw_edge (names_of g.processes)) g.edges)
edges_read g h = each_read (λ i ms. read_edge (record { table = places.Edge; index = i; members = ms }))
    (edge_members g.processes) (raw_edge (names_of g.processes)) (IsJoined (names_of g.processes))
    (λ i e c. edge_by g.processes i e e.when refl c) 0 g.edges h.edges

-- The written members of a graph are read as its document. By whether it gives an order; each key is found, and each
-- list is read as it was written.
raw_by : (g : Graph) (order : Option (List ℕ)) → g.order ≡ order → AreNames g →
    IfSome order (AllByRecursion (λ p. IsName (name_in (names_of g.processes) p))) →
    read_raw (graph_members g) ≡ Ok (raw_of g)
unfolding read_raw read_integer read_array optional only
raw_by g None is h named =
    rw (
      is,
      tables_read node_members g.nodes,
      tables_read (slot_members g.nodes) g.slots,
      tables_read (process_members g.nodes) g.processes,
      tables_read (edge_members g.processes) g.edges,
      nodes_read g h,
      slots_read g h,
      processes_read g h,
      edges_read g h,
    ) refl
raw_by g (Some order) is h named =
    rw (
      is,
      tables_read node_members g.nodes,
      tables_read (slot_members g.nodes) g.slots,
      tables_read (process_members g.nodes) g.processes,
      tables_read (edge_members g.processes) g.edges,
      names_read (names_of g.processes) order named,
      nodes_read g h,
      slots_read g h,
      processes_read g h,
      edges_read g h,
    ) refl

-- the written members of a graph are read as its document
pub raw_read : (g : Graph) → AreNames g → read_raw (graph_members g) ≡ Ok (raw_of g)
raw_read g h = raw_by g g.order refl h h.order
