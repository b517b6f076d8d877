-- The faults of a graph file, kind by kind, stated over the document alone, by what stands at its places.
use Rattle.std.specs.Prelude.{ℕ, zero, suc, ◌≡◌, ◌≢◌, ◌<◌, ◌⊎◌, ◌↔◌, ℤ, Bool, true, false, List, [], ◌∷◌, Option, Some}
use Rattle.std.specs.Prelude.{None, is_some, unwrap_or, option_and_then, Ok, Err, Contains, length, map, filter}
use Rattle.std.specs.Prelude.{slice_get, if◌then◌else◌}
use Rattle.std.specs.Str.{is_utf8}
use Rattle.toml.specs.Data.{Data, string, integer, Members, get_member}
use Rattle.toml.specs.Parse.{parse_document}
use Rattle.cpg_base.specs.Graph.{Graph}
use Rattle.cpg_base.specs.declared.limits.TheConstants.{MOST_FAULTS, MOST_NODES, MOST_PROCESSES, MOST_EDGES}
use Rattle.cpg_base.specs.declared.limits.TheConstants.{MOST_CONDITIONS, MOST_PARTS, LONGEST, LARGEST}
use Rattle.cpg_reader.specs.declared.place.Table.{Table}
use Rattle.cpg_reader.specs.declared.place.Table.TheVariants as tables
use Rattle.cpg_reader.specs.declared.place.Key.{Key}
use Rattle.cpg_reader.specs.declared.place.Key.TheVariants.{Faults, Deadline, Node, Slot, Process, Edge, Order, Name}
use Rattle.cpg_reader.specs.declared.place.Key.TheVariants.{Length, Bytes, Wcet, Parts, Alpha, Chi, Mu, Release, From}
use Rattle.cpg_reader.specs.declared.place.Key.TheVariants.{To, When, Unknown}
use Rattle.cpg_reader.specs.declared.place.Place.{Place}
use Rattle.cpg_reader.specs.declared.place.What.{What}
use Rattle.cpg_reader.specs.declared.place.What.TheVariants.{Nodes, Slots, Processes, Edges, Number, Conditions}
use Rattle.cpg_reader.specs.declared.place.ReadFault.{ReadFault}
use Rattle.cpg_reader.specs.declared.place.ReadFault.TheVariants.{NotToml, BadField, DoubleName, UnknownName, OverLimit}
use Rattle.cpg_reader.specs.declared.place.ReadFault.TheVariants.{OutOfMemory}
use Rattle.cpg_reader.specs.Rows.{text_of, as_name, as_names}
use Rattle.cpg_reader.specs.Ranges.{is_within, different}
use Rattle.cpg_reader.specs.Document.{problem_of}
use Rattle.cpg_laws.specs.GraphFiles.{Field, is_good_value, top_fields, node_fields, slot_fields, process_fields}
use Rattle.cpg_laws.specs.GraphFiles.{edge_fields, elements, order_place, faults_of}
use Rattle.cpg_laws.specs.Refusals.{IsFirstOf}

-- the document that the bytes are: they have to be UTF-8 and TOML, and are none otherwise
abbrev pub document : List ℕ → Option Members
document bytes = if is_utf8 bytes then parse_document bytes else None

-- a table of the document, if it is there: the top has index 0 alone, and any other is an element of its list
abbrev pub table_at : Members → Table → ℕ → Option Members
table_at ms tables.Top zero = Some ms
table_at ms tables.Top (suc i) = None
table_at ms tables.Node i = slice_get (elements ms Node) i
table_at ms tables.Slot i = slice_get (elements ms Slot) i
table_at ms tables.Process i = slice_get (elements ms Process) i
table_at ms tables.Edge i = slice_get (elements ms Edge) i

-- what stands at a key of a table of the document
abbrev pub found_at : Members → Table → ℕ → Key → Option Data
found_at ms table i key = option_and_then (get_member (text_of key)) (table_at ms table i)

-- ---- bad fields

-- the fields of a table
abbrev pub fields_of : Table → List Field
fields_of tables.Top = top_fields
fields_of tables.Node = node_fields
fields_of tables.Slot = slot_fields
fields_of tables.Process = process_fields
fields_of tables.Edge = edge_fields

-- the table has a field of this key whose value doesn't fit, or is missing although it is needed
abbrev pub HasBadValue : Members → List Field → Key → Type 0
HasBadValue members fields key =
    (f : Field) × Contains fields f × (f.key ≡ key) × (is_good_value f (get_member (text_of key) members) ≡ false)

-- something stands at a key that is none of these fields
abbrev pub HasOtherKey : Members → List Field → Type 0
HasOtherKey members fields = (text : List ℕ) × (d : Data) × (get_member text members ≡ Some d) ×
    ((f : Field) → Contains fields f → text_of f.key ≢ text)

-- the place's table has a bad value at the place's key, or the key is `Unknown` and the table has a key of no field
abbrev pub IsBadField : Members → Place → Type 0
IsBadField ms place = (members : Members) × (table_at ms place.table place.index ≡ Some members)
    × (HasBadValue members (fields_of place.table) place.key ⊎
    ((place.key ≡ Unknown) × HasOtherKey members (fields_of place.table)))

-- no field of the document is bad
abbrev pub HasGoodFields : Members → Type 0
HasGoodFields ms = (place : Place) → IsBadField ms place → ⊥

-- ---- what is beyond its limit

-- which numbers may stand at a key
pub record Range : Type 0 where
  -- the key
  pub key : Key
  -- the least number
  pub low : ℕ
  -- the greatest number
  pub high : ℕ

-- the numbers from `low` to `high`, at this key
abbrev pub range : Key → ℕ → ℕ → Range
range key low high = record { key = key; low = low; high = high }

-- the ranges of a table's numbers
abbrev pub ranges_of : Table → List Range
ranges_of tables.Top = range Faults 0 MOST_FAULTS ∷ range Deadline 0 LONGEST ∷ []
ranges_of tables.Node = []
ranges_of tables.Slot = range Length 1 LONGEST ∷ range Bytes 1 LARGEST ∷ []
ranges_of tables.Process =
    range Wcet 1 LONGEST ∷ range Parts 1 MOST_PARTS ∷ range Alpha 0 LONGEST ∷ range Chi 0 LONGEST ∷ range Mu 0 LONGEST
    ∷ range Release 0 LONGEST ∷ range Deadline 0 LONGEST ∷ []
ranges_of tables.Edge = range Bytes 1 LARGEST ∷ []

-- an integer outside its range stands at the place
abbrev pub IsOutOfRange : Members → Place → Type 0
IsOutOfRange ms place = (r : Range) × Contains (ranges_of place.table) r × (r.key ≡ place.key) × (z : ℤ) ×
    (found_at ms place.table place.index place.key ≡ Some (integer z)) × (is_within r.low r.high z ≡ false)

-- the edges of the document that have a `when`
abbrev pub conditional_edges : Members → List Members
conditional_edges ms = filter (λ e. is_some (get_member (text_of When) e)) (elements ms Edge)

-- the name at an edge's `from`; an empty text if no name stands there
abbrev pub source_name : Members → List ℕ
source_name e = unwrap_or (option_and_then as_name (get_member (text_of From) e)) []

-- There are too many of something in the document, or a number is out of its range. There are as many conditions as
-- different sources of edges with a `when`.
abbrev pub IsOverLimit : Members → What → Type 0
IsOverLimit ms Nodes = MOST_NODES < length (elements ms Node)
IsOverLimit ms Slots = MOST_NODES < length (elements ms Slot)
IsOverLimit ms Processes = MOST_PROCESSES < length (elements ms Process)
IsOverLimit ms Edges = MOST_EDGES < length (elements ms Edge)
IsOverLimit ms (Number place) = IsOutOfRange ms place
IsOverLimit ms Conditions = MOST_CONDITIONS < length (different [] (map source_name (conditional_edges ms)))

-- ---- names

-- whether no two names at this key of a table may be equal: those of nodes and processes, and the nodes of slots
abbrev pub is_own_name : Table → Key → Bool
is_own_name tables.Node Name = true
is_own_name tables.Slot Node = true
is_own_name tables.Process Name = true
is_own_name table key = false

-- the names of the order, and none if the document has no order
abbrev pub order_names : Members → List (List ℕ)
order_names ms = unwrap_or (option_and_then as_names (get_member (text_of Order) ms)) []

-- some name stands at two places
abbrev pub HasTwice : List (List ℕ) → Type 0
HasTwice names =
    (name : List ℕ) × (i : ℕ) × (slice_get names i ≡ Some name) × (j : ℕ) × (j < i) × (slice_get names j ≡ Some name)

-- the name at the place also stands at the same key of an earlier element
abbrev pub IsDoubleName : Members → Place → Type 0
IsDoubleName ms place = (is_own_name place.table place.key ≡ true) × (name : List ℕ) ×
    (found_at ms place.table place.index place.key ≡ Some (string name)) × (j : ℕ) × (j < place.index) ×
    (found_at ms place.table j place.key ≡ Some (string name))

-- the name at the place stands earlier too, or the place is that of the order, which has some name twice
abbrev pub IsDouble : Members → Place → Type 0
IsDouble ms place = IsDoubleName ms place ⊎ ((place ≡ order_place) × HasTwice (order_names ms))

-- in which table the name at this key has to be found, if in one: nodes for slots and processes, processes for edges
abbrev pub named_in : Table → Key → Option Table
named_in tables.Slot Node = Some tables.Node
named_in tables.Process Node = Some tables.Node
named_in tables.Edge From = Some tables.Process
named_in tables.Edge To = Some tables.Process
named_in table key = None

-- the name at the place is that of no element of the table in which it has to be found
abbrev pub IsUnknownName : Members → Place → Type 0
IsUnknownName ms place = (others : Table) × (named_in place.table place.key ≡ Some others) × (name : List ℕ) ×
    (found_at ms place.table place.index place.key ≡ Some (string name)) ×
    ((j : ℕ) → found_at ms others j Name ≢ Some (string name))

-- the order has a name that no process has
abbrev pub HasUnknown : Members → Type 0
HasUnknown ms = (name : List ℕ) × Contains (order_names ms) name ×
    ((j : ℕ) → found_at ms tables.Process j Name ≢ Some (string name))

-- the name at the place names nothing, or the place is that of the order, which has a name that no process has
abbrev pub IsUnknown : Members → Place → Type 0
IsUnknown ms place = IsUnknownName ms place ⊎ ((place ≡ order_place) × HasUnknown ms)

-- ---- all

-- The document has this fault. Limits and names are judged only if all fields are good.
abbrev pub IsFaultOf : Members → ReadFault → Type 0
IsFaultOf ms NotToml = ⊥
IsFaultOf ms (BadField place) = IsBadField ms place
IsFaultOf ms (OverLimit what) = HasGoodFields ms × IsOverLimit ms what
IsFaultOf ms (DoubleName place) = HasGoodFields ms × IsDouble ms place
IsFaultOf ms (UnknownName place) = HasGoodFields ms × IsUnknown ms place
IsFaultOf ms OutOfMemory = ⊥

-- the fault of bytes that are no document is `NotToml` alone; otherwise it is one of the document
abbrev pub IsFaultIn : Option Members → ReadFault → Type 0
IsFaultIn None fault = fault ≡ NotToml
IsFaultIn (Some ms) fault = IsFaultOf ms fault

-- the bytes of a graph file have the fault
abbrev pub IsFaulty : List ℕ → ReadFault → Type 0
IsFaulty bytes fault = IsFaultIn (document bytes) fault

-- The faults of a graph file are those of its document. It has at most one first fault. It is refused with a fault
-- exactly if that is the first, and read as a graph exactly if nothing is faulty.
pub record IsRefusedByDocument (bytes : List ℕ) : Type 0 where
  -- the listed faults are those that the document has
  pub faults : (fault : ReadFault) → Contains (faults_of bytes) fault ↔ IsFaulty bytes fault
  -- the file is refused with a fault exactly if this is the first of them
  pub first : (fault : ReadFault) → (problem_of bytes ≡ Err fault) ↔ IsFirstOf (IsFaulty bytes) fault
  -- there is one first fault at most
  pub one : (fault other : ReadFault) → IsFirstOf (IsFaulty bytes) fault → IsFirstOf (IsFaulty bytes) other →
      fault ≡ other
  -- the file is read as a graph exactly if it has no fault
  pub read : ((g : Graph) × (problem_of bytes ≡ Ok g)) ↔ ((fault : ReadFault) → IsFaulty bytes fault → ⊥)

-- each graph file is rejected by what its document has
abbrev pub FilesAreRefusedByDocument : Type 0
FilesAreRefusedByDocument = (bytes : List ℕ) → IsRefusedByDocument bytes
