-- Which fault of a graph file is its first one: kind before kind, and in a kind place before place.
use Rattle.std.specs.Prelude.{ℕ, ◌≡◌, ◌<◌, ◌≤◌, ◌⊎◌, ◌↔◌, ⊤, List, [], ◌∷◌, Contains, AllPairs, Err}
use Rattle.cpg_reader.specs.declared.place.Table.{Table}
use Rattle.cpg_reader.specs.declared.place.Table.TheVariants as tables
use Rattle.cpg_reader.specs.declared.place.Key.{Key}
use Rattle.cpg_reader.specs.declared.place.Key.TheVariants.{Faults, Deadline, Node, Slot, Process, Edge, Order, Name}
use Rattle.cpg_reader.specs.declared.place.Key.TheVariants.{Length, Bytes, Wcet, Parts, Alpha, Chi, Mu, Join, Frozen}
use Rattle.cpg_reader.specs.declared.place.Key.TheVariants.{Release, From, To, When}
use Rattle.cpg_reader.specs.declared.place.Place.{Place}
use Rattle.cpg_reader.specs.declared.place.What.{What}
use Rattle.cpg_reader.specs.declared.place.What.TheVariants.{Nodes, Slots, Processes, Edges, Number, Conditions}
use Rattle.cpg_reader.specs.declared.place.ReadFault.{ReadFault}
use Rattle.cpg_reader.specs.declared.place.ReadFault.TheVariants.{NotToml, BadField, DoubleName, UnknownName, OverLimit}
use Rattle.cpg_reader.specs.declared.place.ReadFault.TheVariants.{OutOfMemory}
use Rattle.cpg_reader.specs.Document.{problem_of}
use Rattle.cpg_laws.specs.GraphFiles.{faults_of}

-- The number of a fault's kind. The whole document is judged for one kind before the next. `OutOfMemory` isn't a fault of
-- the document, and has the last number so that each has one.
abbrev pub kind_of : ReadFault → ℕ
kind_of NotToml = 0
kind_of (BadField place) = 1
kind_of (OverLimit what) = 2
kind_of (DoubleName place) = 3
kind_of (UnknownName place) = 4
kind_of OutOfMemory = 5

-- the place of a table in the order in which tables are judged: the top, then the lists
abbrev pub table_number : Table → ℕ
table_number tables.Top = 0
table_number tables.Node = 1
table_number tables.Slot = 2
table_number tables.Process = 3
table_number tables.Edge = 4

-- The place of a key in its table, in the order in which its fields are judged. A key that the table doesn't have comes
-- last, with the number of keys that the table has.
abbrev pub position_of : Table → Key → ℕ
-- the top of the document
position_of tables.Top Faults = 0
position_of tables.Top Deadline = 1
position_of tables.Top Node = 2
position_of tables.Top Slot = 3
position_of tables.Top Process = 4
position_of tables.Top Edge = 5
position_of tables.Top Order = 6
position_of tables.Top key = 7
-- a node
position_of tables.Node Name = 0
position_of tables.Node key = 1
-- a slot
position_of tables.Slot Node = 0
position_of tables.Slot Length = 1
position_of tables.Slot Bytes = 2
position_of tables.Slot key = 3
-- a process
position_of tables.Process Name = 0
position_of tables.Process Node = 1
position_of tables.Process Wcet = 2
position_of tables.Process Parts = 3
position_of tables.Process Alpha = 4
position_of tables.Process Chi = 5
position_of tables.Process Mu = 6
position_of tables.Process Join = 7
position_of tables.Process Frozen = 8
position_of tables.Process Release = 9
position_of tables.Process Deadline = 10
position_of tables.Process key = 11
-- an edge
position_of tables.Edge From = 0
position_of tables.Edge To = 1
position_of tables.Edge Bytes = 2
position_of tables.Edge When = 3
position_of tables.Edge Frozen = 4
position_of tables.Edge key = 5

-- what places are compared by: first the table, then the element, then the key
abbrev pub numbers_of : Place → List ℕ
numbers_of place = table_number place.table ∷ place.index ∷ position_of place.table place.key ∷ []

-- the place of a table in the order in which names are judged: those of the top, which are in the order, come last
abbrev pub name_table : Table → ℕ
name_table tables.Top = 5
name_table table = table_number table

-- what places of names are compared by: the table in that order, then the element, then the key
abbrev pub name_numbers_of : Place → List ℕ
name_numbers_of place = name_table place.table ∷ place.index ∷ position_of place.table place.key ∷ []

-- what broken limits are compared by: four counts come first, then numbers by their places, then the count of
-- conditions
abbrev pub limit_numbers_of : What → List ℕ
limit_numbers_of Nodes = 0 ∷ []
limit_numbers_of Slots = 1 ∷ []
limit_numbers_of Processes = 2 ∷ []
limit_numbers_of Edges = 3 ∷ []
limit_numbers_of (Number place) = 4 ∷ numbers_of place
limit_numbers_of Conditions = 5 ∷ []

-- what a fault is compared by with others of its kind; a kind that has one fault alone needs no numbers
abbrev pub fault_numbers_of : ReadFault → List ℕ
fault_numbers_of NotToml = []
fault_numbers_of (BadField place) = numbers_of place
fault_numbers_of (OverLimit what) = limit_numbers_of what
fault_numbers_of (DoubleName place) = name_numbers_of place
fault_numbers_of (UnknownName place) = name_numbers_of place
fault_numbers_of OutOfMemory = []

-- the first list comes before the second: at the first place at which they differ it has the lesser number, or has ended
abbrev pub IsEarlier : List ℕ → List ℕ → Type 0
IsEarlier ns [] = ⊥
IsEarlier [] (m ∷ ms) = ⊤
IsEarlier (n ∷ ns) (m ∷ ms) = (n < m) ⊎ ((n ≡ m) × IsEarlier ns ms)

-- the first fault comes before the other: it is of an earlier kind, or of the same kind and at an earlier place
abbrev pub ComesBefore : ReadFault → ReadFault → Type 0
ComesBefore fault other = (kind_of fault < kind_of other) ⊎
    ((kind_of fault ≡ kind_of other) × IsEarlier (fault_numbers_of fault) (fault_numbers_of other))

-- a fault is the first of those that stand: none of an earlier kind stands anywhere, and none of its kind at an
-- earlier place
pub record IsFirstOf (Stands : ReadFault → Type 0) (fault : ReadFault) : Type 0 where
  -- the fault stands
  pub stands : Stands fault
  -- no fault of an earlier kind stands
  pub kinds : (other : ReadFault) → Stands other → kind_of fault ≤ kind_of other
  -- none of its kind stands at an earlier place
  pub places : (other : ReadFault) → Stands other → kind_of other ≡ kind_of fault →
      IsEarlier (fault_numbers_of other) (fault_numbers_of fault) → ⊥

-- the fault is the first of those that a graph file with these bytes has
abbrev pub IsFirstRefusal : List ℕ → ReadFault → Type 0
IsFirstRefusal bytes fault = IsFirstOf (Contains (faults_of bytes)) fault

-- a graph file is refused with a fault exactly if that is its first one; its faults are listed in this order
pub record RefusesFirst (bytes : List ℕ) : Type 0 where
  -- the file is refused with a fault exactly if this is its first one
  pub first : (fault : ReadFault) → (problem_of bytes ≡ Err fault) ↔ IsFirstRefusal bytes fault
  -- the faults are listed in this order, with no two at one place
  pub rise : AllPairs ComesBefore (faults_of bytes)

-- each graph file is rejected by its first fault
abbrev pub RefusalsAreFirst : Type 0
RefusalsAreFirst = (bytes : List ℕ) → RefusesFirst bytes
