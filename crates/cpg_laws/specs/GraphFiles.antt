-- All faults of a graph file, kind after kind, each kind in the order of tables, indexes and keys.
use Rattle.std.specs.Prelude.{ℕ, ◌+◌, ◌≡◌, ◌&&◌, Bool, true, false, not, List, [], ◌∷◌, ◌++◌, Option, Some, None}
use Rattle.std.specs.Prelude.{is_some, unwrap_or, option_and_then, Ok, Err, length, map, position, nat_le, bytes_eq}
use Rattle.std.specs.Prelude.{if◌then◌else◌}
use Rattle.std.specs.List.{list_any, list_all}
use Rattle.toml.specs.Data.{Data, Members, as_integer, as_bool}
use Rattle.cpg_base.specs.declared.limits.TheConstants.{MOST_NODES, MOST_PROCESSES, MOST_EDGES, MOST_CONDITIONS}
use Rattle.cpg_reader.specs.declared.place.Table.{Table}
use Rattle.cpg_reader.specs.declared.place.Table.TheVariants as tables
use Rattle.cpg_reader.specs.declared.place.Key.{Key}
use Rattle.cpg_reader.specs.declared.place.Key.TheVariants.{Faults, Deadline, Node, Slot, Process, Edge, Order, Name}
use Rattle.cpg_reader.specs.declared.place.Key.TheVariants.{Length, Bytes, Wcet, Parts, Alpha, Chi, Mu, Join, Frozen}
use Rattle.cpg_reader.specs.declared.place.Key.TheVariants.{Release, From, To, When, Unknown}
use Rattle.cpg_reader.specs.declared.place.Place.{Place}
use Rattle.cpg_reader.specs.declared.place.What.{What}
use Rattle.cpg_reader.specs.declared.place.What.TheVariants.{Nodes, Slots, Processes, Edges, Number, Conditions}
use Rattle.cpg_reader.specs.declared.place.ReadFault.{ReadFault}
use Rattle.cpg_reader.specs.declared.place.ReadFault.TheVariants.{BadField, DoubleName, UnknownName, OverLimit}
use Rattle.cpg_reader.specs.declared.ranges.BoundedField.{BoundedField}
use Rattle.cpg_reader.specs.declared.shape.RawEdge.{RawEdge}
use Rattle.cpg_reader.specs.Reading.{Reading}
use Rattle.cpg_reader.specs.Rows.{DocumentRow, place_in, value_at, as_name, as_names, as_tables, are_listed}
use Rattle.cpg_reader.specs.Shape.{RawGraph, read_raw}
use Rattle.cpg_reader.specs.Ranges.{top_numbers, slot_numbers, process_numbers, edge_numbers, is_within, sources}
use Rattle.cpg_reader.specs.Ranges.{different}
use Rattle.cpg_reader.specs.Names.{place, slot_names, process_names}
use Rattle.cpg_reader.specs.Document.{document_of, problem_of}

-- the one fault if the test fails, and none if it passes
abbrev pub unless : Bool → ReadFault → List ReadFault
unless b fault = if b then [] else fault ∷ []

-- the faults of all elements of a list, in order; the first has index i
abbrev pub of_each : {T : Type 0} → (ℕ → T → List ReadFault) → ℕ → List T → List ReadFault
of_each faults i [] = []
of_each faults i (x ∷ xs) = faults i x ++ of_each faults (i + 1) xs

-- ---- bad fields

-- what a table of the document may have at one key
pub record Field : Type 0 where
  -- the key
  pub key : Key
  -- whether it has to be there
  pub needed : Bool
  -- whether a value may stand at the key
  pub fits : Data → Bool

-- whether what stands at a field's key is good: a value fits, and a missing one isn't needed
abbrev pub is_good_value : Field → Option Data → Bool
is_good_value f None = not f.needed
is_good_value f (Some d) = f.fits d

-- whether a value is a name
abbrev pub is_name : Data → Bool
is_name d = is_some (as_name d)

-- whether a value is an integer
abbrev pub is_integer : Data → Bool
is_integer d = is_some (as_integer d)

-- whether a value is true or false
abbrev pub is_flag : Data → Bool
is_flag d = is_some (as_bool d)

-- whether a value is a list of tables
abbrev pub are_tables : Data → Bool
are_tables d = is_some (as_tables d)

-- whether a value is a list of names
abbrev pub are_names : Data → Bool
are_names d = is_some (as_names d)

-- a field that has to be there and has a name
abbrev pub needed_name : Key → Field
needed_name key = record { key = key; needed = true; fits = is_name }

-- a field that has to be there and has an integer
abbrev pub needed_integer : Key → Field
needed_integer key = record { key = key; needed = true; fits = is_integer }

-- a field that may be missing, and otherwise has an integer
abbrev pub integer : Key → Field
integer key = record { key = key; needed = false; fits = is_integer }

-- a field that may be missing, and otherwise is true or false
abbrev pub flag : Key → Field
flag key = record { key = key; needed = false; fits = is_flag }

-- a field that may be missing, and otherwise has a list of tables
abbrev pub list : Key → Field
list key = record { key = key; needed = false; fits = are_tables }

-- a field that may be missing, and otherwise has a list of names
abbrev pub name_list : Key → Field
name_list key = record { key = key; needed = false; fits = are_names }

-- the fields of the document's top
abbrev pub top_fields : List Field
top_fields = needed_integer Faults ∷ needed_integer Deadline ∷ list Node ∷ list Slot ∷ list Process ∷ list Edge
    ∷ name_list Order ∷ []

-- the fields of a node
abbrev pub node_fields : List Field
node_fields = needed_name Name ∷ []

-- the fields of a slot
abbrev pub slot_fields : List Field
slot_fields = needed_name Node ∷ needed_integer Length ∷ needed_integer Bytes ∷ []

-- the fields of a process
abbrev pub process_fields : List Field
process_fields =
    needed_name Name ∷ needed_name Node ∷ needed_integer Wcet ∷ integer Parts ∷ integer Alpha ∷ integer Chi ∷ integer Mu
    ∷ flag Join ∷ flag Frozen ∷ integer Release ∷ integer Deadline ∷ []

-- the fields of an edge
abbrev pub edge_fields : List Field
edge_fields = needed_name From ∷ needed_name To ∷ integer Bytes ∷ flag When ∷ flag Frozen ∷ []

-- the faults of these fields in order, and last one fault if the row has a key that isn't listed in `keys`
abbrev pub bad_fields : DocumentRow → List Key → List Field → List ReadFault
bad_fields row keys [] = unless (are_listed keys row.members) (BadField (place_in row Unknown))
bad_fields row keys (f ∷ fs) =
    unless (is_good_value f (value_at row f.key)) (BadField (place_in row f.key)) ++ bad_fields row keys fs

-- the bad fields of one table of the document, which may have the keys of these fields and no others
abbrev pub bad_in : List Field → DocumentRow → List ReadFault
bad_in fields row = bad_fields row (map (λ f. f.key) fields) fields

-- the top of a document, as a table
abbrev pub top_of : Members → DocumentRow
top_of ms = record { table = tables.Top; index = 0; members = ms }

-- the elements of the list at a key of the document; none if there is no list of tables there
abbrev pub elements : Members → Key → List Members
elements ms key = unwrap_or (option_and_then as_tables (value_at (top_of ms) key)) []

-- the bad fields of these elements of a list, element by element
abbrev pub bad_elements : Table → List Field → List Members → List ReadFault
bad_elements table fields members =
    of_each (λ i ms. bad_in fields (record { table = table; index = i; members = ms })) 0 members

-- the bad fields of the whole document: first those of the top, then those of each element of each list
abbrev pub field_faults : Members → List ReadFault
field_faults ms = bad_in top_fields (top_of ms)
    ++ (bad_elements tables.Node node_fields (elements ms Node)
    ++ (bad_elements tables.Slot slot_fields (elements ms Slot)
    ++ (bad_elements tables.Process process_fields (elements ms Process)
    ++ bad_elements tables.Edge edge_fields (elements ms Edge))))

-- ---- what is beyond its limit

-- the fault that a list has more elements than the limit; none if it hasn't
abbrev pub too_many : {T : Type 0} → ℕ → What → List T → List ReadFault
too_many limit what xs = unless (nat_le (length xs) limit) (OverLimit what)

-- the faults of those of an element's numbers that are out of their ranges
abbrev pub out_of_range : Table → ℕ → List BoundedField → List ReadFault
out_of_range table i [] = []
out_of_range table i (n ∷ ns) = unless (is_within n.low n.high n.value)
    (OverLimit (Number (record { table = table; index = i; key = n.key }))) ++ out_of_range table i ns

-- the faults of the numbers of all elements of a list
abbrev pub all_out_of_range : {T : Type 0} → Table → (T → List BoundedField) → List T → List ReadFault
all_out_of_range table numbers_of xs = of_each (λ i x. out_of_range table i (numbers_of x)) 0 xs

-- all limits that a graph breaks: first the counts, then the numbers, and last the number of conditions
abbrev pub limit_faults : RawGraph → List ReadFault
limit_faults g = too_many MOST_NODES Nodes g.nodes
    ++ (too_many MOST_NODES Slots g.slots
    ++ (too_many MOST_PROCESSES Processes g.processes
    ++ (too_many MOST_EDGES Edges g.edges
    ++ (out_of_range tables.Top 0 (top_numbers g)
    ++ (all_out_of_range tables.Slot slot_numbers g.slots
    ++ (all_out_of_range tables.Process process_numbers g.processes
    ++ (all_out_of_range tables.Edge edge_numbers g.edges
    ++ too_many MOST_CONDITIONS Conditions (different [] (sources g.edges)))))))))

-- ---- names that stand twice

-- the faults of those names that stand among the ones before them: `earlier`, and in this list; the first has index i
abbrev pub doubles_from : Table → Key → ℕ → List (List ℕ) → List (List ℕ) → List ReadFault
doubles_from table key i earlier [] = []
doubles_from table key i earlier (name ∷ names) =
    unless (not (list_any (bytes_eq name) earlier)) (DoubleName (place table i key))
    ++ doubles_from table key (i + 1) (earlier ++ name ∷ []) names

-- whether no name stands among the ones before it: `earlier`, and in this list
abbrev pub differ_from : List (List ℕ) → List (List ℕ) → Bool
differ_from earlier [] = true
differ_from earlier (name ∷ names) = not (list_any (bytes_eq name) earlier) && differ_from (earlier ++ name ∷ []) names

-- the place that a fault of the order names, whichever of its names it is
abbrev pub order_place : Place
order_place = place tables.Top 0 Order

-- the fault of an order that has a name twice
abbrev pub order_doubles : List (List ℕ) → List ReadFault
order_doubles order = unless (differ_from [] order) (DoubleName order_place)

-- the names that stand twice: those of nodes, slots and processes, and then that of the order
abbrev pub double_faults : RawGraph → List ReadFault
double_faults g = doubles_from tables.Node Name 0 [] g.nodes
    ++ (doubles_from tables.Slot Node 0 [] (slot_names g.slots)
    ++ (doubles_from tables.Process Name 0 [] (process_names g.processes)
    ++ order_doubles (unwrap_or g.order [])))

-- ---- names that name nothing

-- the fault of a name that isn't among these names
abbrev pub unknown : List (List ℕ) → List ℕ → Table → ℕ → Key → List ReadFault
unknown names name table i key = unless (is_some (position (bytes_eq name) names)) (UnknownName (place table i key))

-- the unknown names at the ends of an edge
abbrev pub unknown_ends : List (List ℕ) → ℕ → RawEdge → List ReadFault
unknown_ends names i e = unknown names e.from tables.Edge i From ++ unknown names e.to tables.Edge i To

-- whether a name is among some names
abbrev pub is_known : List (List ℕ) → List ℕ → Bool
is_known names name = is_some (position (bytes_eq name) names)

-- the fault of an order that has a name that no process has; `names` are those of the processes
abbrev pub order_unknowns : List (List ℕ) → List (List ℕ) → List ReadFault
order_unknowns names order = unless (list_all (is_known names) order) (UnknownName order_place)

-- the names that name nothing: at slots, processes and edges, and then in the order
abbrev pub unknown_faults : RawGraph → List ReadFault
unknown_faults g = of_each (λ i s. unknown g.nodes s.node tables.Slot i Node) 0 g.slots
    ++ (of_each (λ i p. unknown g.nodes p.node tables.Process i Node) 0 g.processes
    ++ (of_each (unknown_ends (process_names g.processes)) 0 g.edges
    ++ order_unknowns (process_names g.processes) (unwrap_or g.order [])))

-- ---- all

-- the faults of limits and names; a document whose fields aren't good isn't read that far
abbrev pub graph_faults : Reading RawGraph → List ReadFault
graph_faults (Err fault) = []
graph_faults (Ok g) = limit_faults g ++ (double_faults g ++ unknown_faults g)

-- the faults of a document: first those of its fields; bytes that are no document have one fault
abbrev pub document_faults : Reading Members → List ReadFault
document_faults (Err fault) = fault ∷ []
document_faults (Ok ms) = field_faults ms ++ graph_faults (read_raw ms)

-- all faults of the bytes of a graph file, in order
abbrev pub faults_of : List ℕ → List ReadFault
faults_of bytes = document_faults (document_of bytes)

-- a reading is refused with the first of these faults, and succeeds if there are none
abbrev pub IsFirst : {T : Type 0} → List ReadFault → Reading T → Type 0
IsFirst {T} [] reading = (x : T) × (reading ≡ Ok x)
IsFirst (fault ∷ faults) reading = reading ≡ Err fault

-- the bytes of a graph file are refused by the first of their faults
abbrev pub GraphFilesShowFirstFaults : Type 0
GraphFilesShowFirstFaults = (bytes : List ℕ) → IsFirst (faults_of bytes) (problem_of bytes)
