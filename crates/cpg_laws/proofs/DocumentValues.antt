-- What a document says if its fields are good, by what stands at its keys.
use Rattle.std.proofs.Common.{◌≡◌, ℕ, ◌+◌, ℤ, pos, Bool, false, List, [], ◌∷◌, Option, Some, None, Ok, Err, unwrap_or}
use Rattle.std.proofs.Common.{option_and_then, map, refl, subst}
use Rattle.toml.specs.Data.{Data, Members, get_member, as_integer, as_bool}
use Rattle.cpg_reader.specs.declared.place.Table.{Table}
use Rattle.cpg_reader.specs.declared.place.Table.TheVariants as tables
use Rattle.cpg_reader.specs.declared.place.Key.{Key}
use Rattle.cpg_reader.specs.declared.place.Key.TheVariants.{Faults, Deadline, Node, Slot, Process, Edge, Order, Name}
use Rattle.cpg_reader.specs.declared.place.Key.TheVariants.{Length, Bytes, Wcet, Parts, Alpha, Chi, Mu, Join, Frozen}
use Rattle.cpg_reader.specs.declared.place.Key.TheVariants.{Release, From, To, When}
use Rattle.cpg_reader.specs.declared.shape.RawSlot.{RawSlot}
use Rattle.cpg_reader.specs.declared.shape.RawProcess.{RawProcess}
use Rattle.cpg_reader.specs.declared.shape.RawEdge.{RawEdge}
use Rattle.cpg_reader.specs.Reading.{Reading, pure, ◌>>=◌, ◌>>◌, each}
use Rattle.cpg_reader.specs.Rows.{DocumentRow, value_at, text_of, as_name, as_names, as_tables, typed_in, optional_in}
use Rattle.cpg_reader.specs.Rows.{optional, required_in, required, with_default, read_name, read_integer, integer_or}
use Rattle.cpg_reader.specs.Rows.{flag_or, read_array}
use Rattle.cpg_reader.specs.Shape.{RawGraph, read_node, read_slot, read_process, read_edge, read_rows, read_raw}
use Rattle.cpg_laws.specs.GraphFiles.{top_of, elements}

-- a step `r` that gives `x`, if it gives anything
record Gives {T : Type 0} (r : Reading T) (x : T) : Type 0 where
  is : (y : T) → r ≡ Ok y → y ≡ x

-- if step `r` gives `x`, and the step after it, on `x`, gives `z`, both one after the other give `z`
bind_gives : {T U : Type 0} (r : Reading T) (next : T → Reading U) (x : T) (z : U) → Gives r x → Gives (next x) z →
    Gives (r >>= next) z
bind_gives (Ok w) next x z gives next_gives =
    record { is = λ y is_read. next_gives.is y (subst (λ v. next v ≡ Ok y) (gives.is w refl) is_read) }
bind_gives (Err fault) next x z gives next_gives = record { is = λ y e. cc }

-- a check `r` before a step doesn't change what the step gives, `z`
seq_gives : {T U : Type 0} (r : Reading T) (next : Reading U) (z : U) → Gives next z → Gives (r >> next) z
seq_gives (Ok w) next z gives = gives
seq_gives (Err fault) next z gives = record { is = λ y e. cc }

-- a reading that succeeds with `x` gives `x`
pure_gives : {T : Type 0} (x : T) → Gives (pure x) x
pure_gives x = record { is = λ y e. cc }

-- if a step gives `f x` for each element `x`, whatever its index, the steps over `xs`, numbered from `i`, give the list
-- of these
each_gives : {T U : Type 0} (step : ℕ → T → Reading U) (f : T → U) → ((i : ℕ) (x : T) → Gives (step i x) (f x)) →
    (i : ℕ) (xs : List T) →
    Gives (each step i xs) (map f xs)
each_gives step f gives i [] = pure_gives []
each_gives step f gives i (x ∷ xs) =
    bind_gives (step i x) (λ y. each step (i + 1) xs >>= (λ ys. pure (y ∷ ys))) (f x) (f x ∷ map f xs) (gives i x)
    (bind_gives (each step (i + 1) xs) (λ ys. pure (f x ∷ ys)) (map f xs) (f x ∷ map f xs)
    (each_gives step f gives (i + 1) xs) (pure_gives (f x ∷ map f xs)))

-- ---- what stands at a key

-- the value of a type that a table has at a key, if it has one
abbrev pub value_in : {T : Type 0} → (Data → Option T) → Members → Key → Option T
value_in as_type ms key = option_and_then as_type (get_member (text_of key) ms)

-- the name at a key, empty if there is none
abbrev pub name_in : Members → Key → List ℕ
name_in ms key = unwrap_or (value_in as_name ms key) []

-- the integer at a key, or a default
abbrev pub integer_in : Members → Key → ℤ → ℤ
integer_in ms key absent = unwrap_or (value_in as_integer ms key) absent

-- given what a value is read as, a row of a document, and a key
module _ {T : Type 0} (as_type : Data → Option T) (row : DocumentRow) (key : Key) where
  -- an optional value is what stands there, if anything does
  optional_by : (o : Option Data) → Gives (optional_in row key as_type o) (option_and_then as_type o)
  optional_by None = pure_gives None
  optional_by (Some d) = by (as_type d)
    where
      -- by whether the value is of the type
      by : (x : Option T) → Gives (typed_in row key x) x
      by None = record { is = λ y e. cc }
      by (Some x) = pure_gives (Some x)

  -- a required value is what stands there (`o`); the default `x` isn't read
  required_by : (x : T) (o : Option T) → Gives (required_in row key o) (unwrap_or o x)
  required_by x None = record { is = λ y e. cc }
  required_by x (Some y) = pure_gives y

  -- an optional value is what stands there, if anything does
  optional_gives : Gives (optional as_type row key) (value_in as_type row.members key)
  unfolding optional
  optional_gives = optional_by (value_at row key)

  -- a required value is what stands at its key
  required_gives : (x : T) → Gives (required as_type row key) (unwrap_or (value_in as_type row.members key) x)
  required_gives x = bind_gives (optional as_type row key) (required_in row key) (value_in as_type row.members key)
      (unwrap_or (value_in as_type row.members key) x) optional_gives
      (required_by x (value_in as_type row.members key))

  -- a value with a default is what stands at its key, or the default
  default_gives : (x : T) → Gives (with_default x as_type row key) (unwrap_or (value_in as_type row.members key) x)
  default_gives x = bind_gives (optional as_type row key) (λ found. pure (unwrap_or found x))
      (value_in as_type row.members key) (unwrap_or (value_in as_type row.members key) x) optional_gives
      (pure_gives (unwrap_or (value_in as_type row.members key) x))

-- ---- the elements

-- the name of a node that its table says
abbrev pub node_in : Members → List ℕ
node_in ms = name_in ms Name

-- the slot that its table says; a missing number counts as 1, which is in its range
abbrev pub slot_in : Members → RawSlot
slot_in ms =
    record { node = name_in ms Node; length = integer_in ms Length (pos 1); bytes = integer_in ms Bytes (pos 1) }

-- the process that its table says; a missing number counts as the default of its key, or as one in its range
abbrev pub process_in : Members → RawProcess
process_in ms = record {
  name = name_in ms Name;
  node = name_in ms Node;
  wcet = integer_in ms Wcet (pos 1);
  parts = integer_in ms Parts (pos 1);
  alpha = integer_in ms Alpha (pos 0);
  chi =
      integer_in ms Chi (pos 0);
  mu = integer_in ms Mu (pos 0);
  join = unwrap_or (value_in as_bool ms Join) false;
  frozen = unwrap_or (value_in as_bool ms Frozen) false;
  release =
      integer_in ms Release (pos 0);
  deadline = value_in as_integer ms Deadline;
}

-- the edge that its table says; a missing size counts as 1
abbrev pub edge_in : Members → RawEdge
edge_in ms = record {
  from = name_in ms From;
  to = name_in ms To;
  bytes = integer_in ms Bytes (pos 1);
  when = value_in as_bool ms When;
  frozen = unwrap_or (value_in as_bool ms Frozen) false;
}

-- the graph that a document says
abbrev pub graph_in : Members → RawGraph
graph_in ms = record {
  faults = integer_in ms Faults (pos 0);
  deadline = integer_in ms Deadline (pos 0);
  nodes = map node_in (elements ms Node);
  slots = map slot_in (elements ms Slot);
  processes =
      map process_in (elements ms Process);
  edges = map edge_in (elements ms Edge);
  order = value_in as_names ms Order;
}

-- given a row of a document
module _ (row : DocumentRow) where
  -- a name is what stands at its key
  name_gives : (key : Key) → Gives (read_name row key) (name_in row.members key)
  unfolding read_name
  name_gives key = required_gives as_name row key []

  -- an integer is what stands at its key
  integer_gives : (key : Key) (absent : ℤ) → Gives (read_integer row key) (integer_in row.members key absent)
  unfolding read_integer
  integer_gives key absent = required_gives as_integer row key absent

  -- an integer with a default is what stands at its key, or the default
  integer_or_gives : (key : Key) (absent : ℤ) → Gives (integer_or absent row key) (integer_in row.members key absent)
  unfolding integer_or
  integer_or_gives key absent = default_gives as_integer row key absent

  -- a flag is what stands at its key, or its default
  flag_gives : (key : Key) (absent : Bool) →
      Gives (flag_or absent row key) (unwrap_or (value_in as_bool row.members key) absent)
  unfolding flag_or
  flag_gives key absent = default_gives as_bool row key absent

  -- a list of tables is what stands at its key, or empty
  list_gives : (key : Key) → Gives (read_array row key) (unwrap_or (value_in as_tables row.members key) [])
  unfolding read_array
  list_gives key = default_gives as_tables row key []

  -- a node is what its table says
  node_gives : Gives (read_node row) (node_in row.members)
  unfolding read_node
  node_gives = bind_gives _ _ _ _ (name_gives Name) (seq_gives _ _ _ (pure_gives _))

  -- a slot is what its table says
  slot_gives : Gives (read_slot row) (slot_in row.members)
  unfolding read_slot
  slot_gives = bind_gives _ _ _ _ (name_gives Node) (bind_gives _ _ _ _ (integer_gives Length (pos 1))
      (bind_gives _ _ _ _ (integer_gives Bytes (pos 1)) (seq_gives _ _ _ (pure_gives _))))

  -- A process is what its table says.
  -- Reading goes key by key, and each value is what stands at its key or the default.
  process_gives : Gives (read_process row) (process_in row.members)
  unfolding read_process
  process_gives =
      bind_gives _ _ _ _ (name_gives Name) (bind_gives _ _ _ _ (name_gives Node)
      (bind_gives _ _ _ _ (integer_gives Wcet (pos 1)) (bind_gives _ _ _ _ (integer_or_gives Parts (pos 1))
      (bind_gives _ _ _ _ (integer_or_gives Alpha (pos 0))
      (bind_gives _ _ _ _ (integer_or_gives Chi (pos 0))
      (bind_gives _ _ _ _ (integer_or_gives Mu (pos 0)) (bind_gives _ _ _ _ (flag_gives Join false)
      (bind_gives _ _ _ _ (flag_gives Frozen false)
      (bind_gives _ _ _ _ (integer_or_gives Release (pos 0))
      (bind_gives _ _ _ _ (optional_gives as_integer row Deadline) (seq_gives _ _ _ (pure_gives _))))))))))))

  -- an edge is what its table says
  edge_gives : Gives (read_edge row) (edge_in row.members)
  unfolding read_edge
  edge_gives = bind_gives _ _ _ _ (name_gives From)
      (bind_gives _ _ _ _ (name_gives To) (bind_gives _ _ _ _ (integer_or_gives Bytes (pos 1))
      (bind_gives _ _ _ _ (optional_gives as_bool row When)
      (bind_gives _ _ _ _ (flag_gives Frozen false) (seq_gives _ _ _ (pure_gives _))))))

-- if an element gives what its table says, so do all elements of a table
rows_give : {T : Type 0} (table : Table) (element_at : DocumentRow → Reading T) (element_in : Members → T) →
    ((row : DocumentRow) → Gives (element_at row) (element_in row.members)) →
    (members : List Members) → Gives (read_rows table element_at members) (map element_in members)
rows_give table element_at element_in gives members =
    each_gives (λ i ms. element_at (record { table = table; index = i; members = ms })) element_in
    (λ i ms. gives (record { table = table; index = i; members = ms })) 0 members

-- Reading gives the graph that the document says.
-- Key by key of the top, and then list by list, element by element.
graph_gives : (ms : Members) → Gives (read_raw ms) (graph_in ms)
unfolding read_raw
graph_gives ms =
    bind_gives _ _ _ _ (integer_gives (top_of ms) Faults (pos 0))
    (bind_gives _ _ _ _ (integer_gives (top_of ms) Deadline (pos 0))
    (bind_gives _ _ _ _ (list_gives (top_of ms) Node)
    (bind_gives _ _ _ _ (list_gives (top_of ms) Slot)
    (bind_gives _ _ _ _ (list_gives (top_of ms) Process) (bind_gives _ _ _ _ (list_gives (top_of ms) Edge)
    (bind_gives _ _ _ _ (optional_gives as_names (top_of ms) Order)
    (seq_gives _ _ _ (bind_gives _ _ _ _ (rows_give tables.Node read_node node_in node_gives (elements ms Node))
    (bind_gives _ _ _ _ (rows_give tables.Slot read_slot slot_in slot_gives (elements ms Slot))
    (bind_gives _ _ _ _ (rows_give tables.Process read_process process_in process_gives (elements ms Process))
    (bind_gives _ _ _ _ (rows_give tables.Edge read_edge edge_in edge_gives (elements ms Edge))
    (pure_gives _))))))))))))

-- the graph `g` that is read of a document `ms` is the one in it
pub graph_is : (ms : Members) (g : RawGraph) → read_raw ms ≡ Ok g → g ≡ graph_in ms
graph_is ms g is_read = (graph_gives ms).is g is_read
