-- Step by step: if each step is refused by the first of its faults, so is a document.
use Rattle.std.proofs.Common.{◌≡◌, ℕ, ◌+◌, ◌&&◌, Bool, true, false, not, List, [], ◌∷◌, ◌++◌, Option, Some, None}
use Rattle.std.proofs.Common.{is_some, unwrap_or, option_and_then, Ok, Err, length, position, pos, refl, sym, ap}
use Rattle.std.proofs.Common.{subst, if◌then◌else◌}
use Rattle.std.specs.Prelude.{bytes_eq, nat_le}
use Rattle.std.specs.List.{list_any, list_all}
use Rattle.toml.specs.Data.{Data, Members, as_integer, as_bool}
use Rattle.cpg_base.specs.declared.limits.TheConstants.{MOST_NODES, MOST_PROCESSES, MOST_EDGES, MOST_CONDITIONS}
use Rattle.cpg_reader.specs.declared.place.Table.{Table}
use Rattle.cpg_reader.specs.declared.place.Table.TheVariants as tables
use Rattle.cpg_reader.specs.declared.place.Place.{Place}
use Rattle.cpg_reader.specs.declared.place.Key.{Key}
use Rattle.cpg_reader.specs.declared.place.Key.TheVariants.{Faults, Deadline, Node, Slot, Process, Edge, Order, Name}
use Rattle.cpg_reader.specs.declared.place.Key.TheVariants.{Length, Bytes, Wcet, Parts, Alpha, Chi, Mu, Join, Frozen}
use Rattle.cpg_reader.specs.declared.place.Key.TheVariants.{Release, From, To, When}
use Rattle.cpg_reader.specs.declared.place.Key.TheVariants.{Unknown}
use Rattle.cpg_reader.specs.declared.place.What.{What}
use Rattle.cpg_reader.specs.declared.place.What.TheVariants.{Nodes, Slots, Processes, Edges, Number, Conditions}
use Rattle.cpg_reader.specs.declared.place.ReadFault.{ReadFault}
use Rattle.cpg_reader.specs.declared.place.ReadFault.TheVariants.{BadField, DoubleName, UnknownName, OverLimit}
use Rattle.cpg_reader.specs.declared.ranges.BoundedField.{BoundedField}
use Rattle.cpg_reader.specs.declared.shape.RawSlot.{RawSlot}
use Rattle.cpg_reader.specs.declared.shape.RawProcess.{RawProcess}
use Rattle.cpg_reader.specs.declared.shape.RawEdge.{RawEdge}
use Rattle.cpg_reader.specs.Reading.{Reading, pure, done, ◌>>=◌, ◌>>◌, each}
use Rattle.cpg_reader.specs.Rows.{DocumentRow, place_in, bad, value_at, as_name, as_names, as_tables, are_listed}
use Rattle.cpg_reader.specs.Rows.{typed_in, optional_in, optional, required_in, required, with_default, only, read_name}
use Rattle.cpg_reader.specs.Rows.{read_integer, integer_or, flag_or, read_array}
use Rattle.cpg_reader.specs.Shape.{RawGraph, read_node, read_slot, read_process, read_edge, read_rows, read_raw}
use Rattle.cpg_reader.specs.Ranges.{top_numbers, slot_numbers, process_numbers, edge_numbers, is_within, in_range}
use Rattle.cpg_reader.specs.Ranges.{all_in_range, at_most, sources, different, limits}
use Rattle.cpg_reader.specs.Names.{place, name_place, apart_from, apart, known, number_of, slot_of, process_of, edge_of}
use Rattle.cpg_reader.specs.Names.{ordered, order_of, order_apart, slot_names, process_names, resolved, graph_of}
use Rattle.cpg_reader.specs.Document.{document_of, read_members, problem_of}
use Rattle.cpg_laws.specs.GraphFiles.{unless, of_each, Field, is_good_value, needed_name, needed_integer, list}
use Rattle.cpg_laws.specs.GraphFiles.{node_fields, slot_fields, process_fields, edge_fields, bad_in, top_of, elements}
use Rattle.cpg_laws.specs.GraphFiles.{bad_elements, field_faults, too_many, out_of_range, limit_faults, doubles_from}
use Rattle.cpg_laws.specs.GraphFiles.{differ_from, order_place, order_doubles, double_faults, is_known, order_unknowns}
use Rattle.cpg_laws.specs.GraphFiles.{unknown, unknown_ends, unknown_faults, graph_faults, document_faults, IsFirst}
use Rattle.cpg_laws.specs.GraphFiles.{GraphFilesShowFirstFaults}

-- ---- steps one after another

-- if step `r` is refused by the first of `fs`, and the step on what it reads by the first of `gs`, both one after the
-- other are refused by the first of `fs ++ gs`
bind : {T U : Type 0} (fs gs : List ReadFault) (r : Reading T) (next : T → Reading U) → IsFirst fs r →
    ((x : T) → r ≡ Ok x → IsFirst gs (next x)) →
    IsFirst (fs ++ gs) (r >>= next)
bind [] gs r next is_first more = subst (λ z. IsFirst gs (z >>= next)) (sym is_first.1) (more is_first.0 is_first.1)
bind (f ∷ fs) gs r next is_first more = ap (λ z. z >>= next) is_first

-- if step `r` is refused by the first of `fs`, and step `next` by the first of `gs`, both one after the other are
-- refused by the first of `fs ++ gs`
seq : {T U : Type 0} (fs gs : List ReadFault) (r : Reading T) (next : Reading U) → IsFirst fs r → IsFirst gs next →
    IsFirst (fs ++ gs) (r >> next)
seq [] gs r next is_first more = subst (λ z. IsFirst gs (z >> next)) (sym is_first.1) more
seq (f ∷ fs) gs r next is_first more = ap (λ z. z >> next) is_first

-- if step `r` is refused by the first of `fs`, it is so with a last step that makes `f x` of what it reads and can't be
-- refused
bind_last : {T U : Type 0} (fs : List ReadFault) (r : Reading T) (f : T → U) → IsFirst fs r →
    IsFirst fs (r >>= (λ x. pure (f x)))
bind_last [] r f is_first = (f is_first.0, ap (λ z. z >>= (λ x. pure (f x))) is_first.1)
bind_last (g ∷ gs) r f is_first = ap (λ z. z >>= (λ x. pure (f x))) is_first

-- if step `r` is refused by the first of `fs`, it is so if the value `y` is given after it
seq_last : {T U : Type 0} (fs : List ReadFault) (r : Reading T) (y : U) → IsFirst fs r → IsFirst fs (r >> pure y)
seq_last [] r y is_first = (y, ap (λ z. z >> pure y) is_first.1)
seq_last (g ∷ gs) r y is_first = ap (λ z. z >> pure y) is_first

-- if step `r` is refused by the first of `fs`, and the step on what it reads by the first of `gs ++ hs`, both are
-- refused by the first of the three lists, grouped as `(fs ++ gs) ++ hs`
bind_within : {T U : Type 0} (fs gs hs : List ReadFault) (r : Reading T) (next : T → Reading U) → IsFirst fs r →
    ((x : T) → r ≡ Ok x → IsFirst (gs ++ hs) (next x)) →
    IsFirst ((fs ++ gs) ++ hs) (r >>= next)
bind_within [] gs hs r next is_first more =
    subst (λ z. IsFirst (gs ++ hs) (z >>= next)) (sym is_first.1) (more is_first.0 is_first.1)
bind_within (f ∷ fs) gs hs r next is_first more = ap (λ z. z >>= next) is_first

-- if step `r` is refused by the first of `fs`, and step `next` by the first of `gs ++ hs`, both are refused by the
-- first of the three lists, grouped as `(fs ++ gs) ++ hs`
seq_within : {T U : Type 0} (fs gs hs : List ReadFault) (r : Reading T) (next : Reading U) → IsFirst fs r →
    IsFirst (gs ++ hs) next →
    IsFirst ((fs ++ gs) ++ hs) (r >> next)
seq_within [] gs hs r next is_first more = subst (λ z. IsFirst (gs ++ hs) (z >> next)) (sym is_first.1) more
seq_within (f ∷ fs) gs hs r next is_first more = ap (λ z. z >> next) is_first

-- a test `b` that refuses with one fault if it fails, and what follows it if it passes, are refused by the first of
-- that fault and `fs`
or_next : {T : Type 0} (b : Bool) (fault : ReadFault) (fs : List ReadFault) (next : Reading T) → IsFirst fs next →
    IsFirst (unless b fault ++ fs) (if b then next else Err fault)
or_next true fault fs next is_first = is_first
or_next false fault fs next is_first = refl

-- a test `b` that refuses with one fault if it passes, before a step, is refused by the first of that fault and `fs`
if_next : {T : Type 0} (b : Bool) (fault : ReadFault) (fs : List ReadFault) (next : Reading T) → IsFirst fs next →
    IsFirst (unless (not b) fault ++ fs) (if b then Err fault else next)
if_next true fault fs next is_first = refl
if_next false fault fs next is_first = is_first

-- if the step for each element `x` at its number is refused by the first of its faults, the steps over `xs`, numbered
-- from `i`, are refused by the first of all faults
each_first : {T U : Type 0} (faults : ℕ → T → List ReadFault) (step : ℕ → T → Reading U) →
    ((i : ℕ) (x : T) → IsFirst (faults i x) (step i x)) →
    (i : ℕ) (xs : List T) →
    IsFirst (of_each faults i xs) (each step i xs)
each_first faults step first i [] = ([], refl)
each_first faults step first i (x ∷ xs) = bind (faults i x) (of_each faults (i + 1) xs) (step i x)
    (λ y. each step (i + 1) xs >>= (λ ys. pure (y ∷ ys))) (first i x)
    (λ y read. bind_last (of_each faults (i + 1) xs) (each step (i + 1) xs) (λ ys. y ∷ ys)
    (each_first faults step first (i + 1) xs))

-- ---- fields

-- the faults of what stands at a key
abbrev of_field : {T : Type 0} → DocumentRow → Key → Bool → (Data → Option T) → Option Data → List ReadFault
of_field row key needed as_type o =
    unless (is_good_value (record { key = key; needed = needed; fits = λ d. is_some (as_type d) }) o)
    (BadField (place_in row key))

module _ {T : Type 0} (row : DocumentRow) (key : Key) (as_type : Data → Option T) where
  -- a value of the wrong type is refused
  typed : (x : Option T) → IsFirst (unless (is_some x) (BadField (place_in row key))) (typed_in row key x)
  typed None = refl
  typed (Some x) = (Some x, refl)

  -- a required value is refused if it is missing
  typed_required : (x : Option T) →
      IsFirst (unless (is_some x) (BadField (place_in row key))) (typed_in row key x >>= required_in row key)
  typed_required None = refl
  typed_required (Some x) = (x, refl)

  -- an optional value is refused if it has the wrong type
  optional_by : (o : Option Data) → IsFirst (of_field row key false as_type o) (optional_in row key as_type o)
  optional_by None = (None, refl)
  optional_by (Some d) = typed (as_type d)

  -- a required value is refused if it is missing or has the wrong type
  required_by : (o : Option Data) →
      IsFirst (of_field row key true as_type o) (optional_in row key as_type o >>= required_in row key)
  required_by None = refl
  required_by (Some d) = typed_required (as_type d)

  -- a value at a key that may be missing is refused if it is there and doesn't fit
  optional_first : IsFirst (of_field row key false as_type (value_at row key)) (optional as_type row key)
  unfolding optional
  optional_first = optional_by (value_at row key)

  -- the value at a key that has to be there is refused if it is missing or has the wrong type
  required_first : IsFirst (of_field row key true as_type (value_at row key)) (required as_type row key)
  unfolding optional
  required_first = required_by (value_at row key)

  -- the value at a key with a default is refused if it has the wrong type
  default_first : (value : T) →
      IsFirst (of_field row key false as_type (value_at row key)) (with_default value as_type row key)
  default_first value = bind_last (of_field row key false as_type (value_at row key)) (optional as_type row key)
      (λ found. unwrap_or found value) optional_first

  -- The value `x` that is read at a key is what stands there (`o`), if it is good, or its default. By whether something
  -- stands at the key.
  default_by : (value : T) (o : Option Data) (x : T) →
      (optional_in row key as_type o >>= (λ found. pure (unwrap_or found value))) ≡ Ok x →
      x ≡ unwrap_or (option_and_then as_type o) value
  default_by value None x read = cc
  default_by value (Some d) x read = by (as_type d) read
    where
      -- by whether the value is of the type
      by : (y : Option T) → (typed_in row key y >>= (λ found. pure (unwrap_or found value))) ≡ Ok x →
          x ≡ unwrap_or y value
      by None read = cc
      by (Some y) read = cc

  -- what is read with a default is what stands there, or the default
  default_is : (value x : T) → with_default value as_type row key ≡ Ok x →
      x ≡ unwrap_or (option_and_then as_type (value_at row key)) value
  unfolding optional
  default_is value x read = default_by value (value_at row key) x read

-- given a row of a document
module _ (row : DocumentRow) where
  -- a row is refused if it has a key that isn't listed
  only_first : (keys : List Key) →
      IsFirst (unless (are_listed keys row.members) (BadField (place_in row Unknown))) (only keys row)
  unfolding only
  only_first keys = by (are_listed keys row.members)
    where
      -- by whether all keys are listed
      by : (b : Bool) → IsFirst (unless b (BadField (place_in row Unknown))) (if b then done else bad row Unknown)
      by true = (tt, refl)
      by false = refl

  -- a name is refused if it is missing or not a name
  name_first : (key : Key) →
      IsFirst (unless (is_good_value (needed_name key) (value_at row key)) (BadField (place_in row key)))
      (read_name row key)
  unfolding read_name
  name_first key = required_first row key as_name

  -- an integer is refused if it is missing or not one
  integer_first : (key : Key) →
      IsFirst (unless (is_good_value (needed_integer key) (value_at row key)) (BadField (place_in row key)))
      (read_integer row key)
  unfolding read_integer
  integer_first key = required_first row key as_integer

  -- a list of tables is refused if it isn't one
  list_first : (key : Key) →
      IsFirst (unless (is_good_value (list key) (value_at row key)) (BadField (place_in row key))) (read_array row key)
  unfolding read_array
  list_first key = default_first row key as_tables []

-- ---- elements

-- given a row of a document
module _ (row : DocumentRow) where
  -- a node is refused by the first of its bad fields
  node_first : IsFirst (bad_in node_fields row) (read_node row)
  unfolding read_node
  node_first = bind _ _ _ _ (name_first row Name) (λ name _. seq_last _ _ _ (only_first row (Name ∷ [])))

  -- a slot is refused by the first of its bad fields
  slot_first : IsFirst (bad_in slot_fields row) (read_slot row)
  unfolding read_slot
  slot_first = bind _ _ _ _ (name_first row Node)
      (λ node _. bind _ _ _ _ (integer_first row Length) (λ length _. bind _ _ _ _ (integer_first row Bytes)
      (λ bytes _. seq_last _ _ _ (only_first row (Node ∷ Length ∷ Bytes ∷ [])))))

  -- A process is refused by the first of its bad fields.
  -- Reading goes field by field in the order of the list, and last come the keys that are none of them. The chain has
  -- one `bind` for each field: the fact on the reading of this field, and then the rest of the chain, for any value
  -- that was read. The four `_` in front (two lists of faults and two steps) follow from these.
  process_first : IsFirst (bad_in process_fields row) (read_process row)
  unfolding read_process integer_or flag_or
  process_first = bind _ _ _ _ (name_first row Name)
      (λ name _. bind _ _ _ _ (name_first row Node)
      (λ node _. bind _ _ _ _ (integer_first row Wcet)
      (λ wcet _. bind _ _ _ _ (default_first row Parts as_integer (pos 1))
      (λ parts _. bind _ _ _ _ (default_first row Alpha as_integer (pos 0))
      (λ alpha _. bind _ _ _ _ (default_first row Chi as_integer (pos 0))
      (λ chi _. bind _ _ _ _ (default_first row Mu as_integer (pos 0))
      (λ mu _. bind _ _ _ _ (default_first row Join as_bool false)
      (λ join _. bind _ _ _ _ (default_first row Frozen as_bool false)
      (λ frozen _. bind _ _ _ _ (default_first row Release as_integer (pos 0))
      (λ release _. bind _ _ _ _ (optional_first row Deadline as_integer)
      (λ deadline _. seq_last _ _ _ (only_first row
      (Name ∷ Node ∷ Wcet ∷ Parts ∷ Alpha ∷ Chi ∷ Mu ∷ Join ∷ Frozen ∷ Release ∷ Deadline ∷ [])))))))))))))

  -- an edge is refused by the first of its bad fields
  edge_first : IsFirst (bad_in edge_fields row) (read_edge row)
  unfolding read_edge integer_or flag_or
  edge_first = bind _ _ _ _ (name_first row From)
      (λ from _. bind _ _ _ _ (name_first row To)
      (λ to _. bind _ _ _ _ (default_first row Bytes as_integer (pos 1))
      (λ bytes _. bind _ _ _ _ (optional_first row When as_bool)
      (λ when _. bind _ _ _ _ (default_first row Frozen as_bool false)
      (λ frozen _. seq_last _ _ _ (only_first row (From ∷ To ∷ Bytes ∷ When ∷ Frozen ∷ [])))))))

-- reading the elements of a table is refused by the first bad field in them
rows_first : {T : Type 0} (table : Table) (fields : List Field) (element_at : DocumentRow → Reading T) →
    ((row : DocumentRow) → IsFirst (bad_in fields row) (element_at row)) →
    (members : List Members) → IsFirst (bad_elements table fields members) (read_rows table element_at members)
rows_first table fields element_at first members =
    each_first (λ i ms. bad_in fields (record { table = table; index = i; members = ms }))
    (λ i ms. element_at (record { table = table; index = i; members = ms }))
    (λ i ms. first (record { table = table; index = i; members = ms })) 0 members

-- the elements that are read are those of the document
rows_of : {T : Type 0} (ms : Members) (key : Key) (table : Table) (fields : List Field)
    (element_at : DocumentRow → Reading T) →
    ((row : DocumentRow) → IsFirst (bad_in fields row) (element_at row)) →
    (members : List Members) → read_array (top_of ms) key ≡ Ok members →
    IsFirst (bad_elements table fields (elements ms key)) (read_rows table element_at members)
unfolding read_array
rows_of ms key table fields element_at first members is_read =
    subst (λ rows. IsFirst (bad_elements table fields rows) (read_rows table element_at members))
    (default_is (top_of ms) key as_tables [] members is_read) (rows_first table fields element_at first members)

-- Reading a document's fields is rejected by the first of its field faults.
-- Reading goes by the keys of the top, then by the lists, in the order of the faults.
pub fields_first : (ms : Members) → IsFirst (field_faults ms) (read_raw ms)
unfolding read_raw
fields_first ms =
    bind_within _ _ _ _ _ (integer_first (top_of ms) Faults) (λ faults faults_are.
    bind_within _ _ _ _ _ (integer_first (top_of ms) Deadline) (λ deadline deadline_is.
    bind_within _ _ _ _ _ (list_first (top_of ms) Node) (λ node_tables nodes_are.
    bind_within _ _ _ _ _ (list_first (top_of ms) Slot) (λ slot_tables slots_are.
    bind_within _ _ _ _ _ (list_first (top_of ms) Process) (λ process_tables processes_are.
    bind_within _ _ _ _ _ (list_first (top_of ms) Edge) (λ edge_tables edges_are.
    bind_within _ _ _ _ _ (optional_first (top_of ms) Order as_names) (λ order order_is.
    seq _ _ _ _ (only_first (top_of ms) (Faults ∷ Deadline ∷ Node ∷ Slot ∷ Process ∷ Edge ∷ Order ∷ []))
    (bind _ _ _ _ (rows_of ms Node tables.Node node_fields read_node node_first node_tables nodes_are)
    (λ nodes nodes_read.
    bind _ _ _ _ (rows_of ms Slot tables.Slot slot_fields read_slot slot_first slot_tables slots_are)
    (λ slots slots_read.
    bind _ _ _ _
    (rows_of ms Process tables.Process process_fields read_process process_first process_tables processes_are)
    (λ processes processes_read.
    bind_last _ _ _ (rows_of ms Edge tables.Edge edge_fields read_edge edge_first edge_tables edges_are))))))))))))

-- ---- limits

-- a count over the limit is refused
at_most_first : {T : Type 0} (limit : ℕ) (what : What) (xs : List T) →
    IsFirst (too_many limit what xs) (at_most limit what xs)
at_most_first limit what xs = by (nat_le (length xs) limit)
  where
    -- by whether the count is within the limit
    by : (b : Bool) → IsFirst (unless b (OverLimit what)) (if b then done else Err (OverLimit what))
    by true = (tt, refl)
    by false = refl

-- the numbers `ns` of element `i` of a table are refused by the first that is out of its range
range_first : (table : Table) (i : ℕ) (ns : List BoundedField) → IsFirst (out_of_range table i ns) (in_range table i ns)
range_first table i [] = (tt, refl)
range_first table i (n ∷ ns) =
    or_next (is_within n.low n.high n.value) (OverLimit (Number (record { table = table; index = i; key = n.key })))
    (out_of_range table i ns) (in_range table i ns)
    (range_first table i ns)

-- the numbers of all elements `xs` of a list, numbered from `i`, are refused by the first that is out of its range
ranges_first : {T : Type 0} (table : Table) (numbers_of : T → List BoundedField) (i : ℕ) (xs : List T) →
    IsFirst (of_each (λ i x. out_of_range table i (numbers_of x)) i xs) (all_in_range table numbers_of i xs)
ranges_first table numbers_of i [] = (tt, refl)
ranges_first table numbers_of i (x ∷ xs) =
    seq _ _ _ _ (range_first table i (numbers_of x)) (ranges_first table numbers_of (i + 1) xs)

-- The limits of a graph are refused by the first of its limit faults.
-- They are tested one after another, in the order of the faults.
limits_first : (g : RawGraph) → IsFirst (limit_faults g) (limits g)
unfolding limits
limits_first g =
    seq _ _ _ _ (at_most_first MOST_NODES Nodes g.nodes)
    (seq _ _ _ _ (at_most_first MOST_NODES Slots g.slots)
    (seq _ _ _ _ (at_most_first MOST_PROCESSES Processes g.processes)
    (seq _ _ _ _ (at_most_first MOST_EDGES Edges g.edges)
    (seq _ _ _ _ (range_first tables.Top 0 (top_numbers g))
    (seq _ _ _ _ (ranges_first tables.Slot slot_numbers 0 g.slots)
    (seq _ _ _ _ (ranges_first tables.Process process_numbers 0 g.processes)
    (seq _ _ _ _ (ranges_first tables.Edge edge_numbers 0 g.edges)
    (at_most_first MOST_CONDITIONS Conditions (different [] (sources g.edges))))))))))

-- ---- names

-- names of elements, each at a place of its own
module _ (table : Table) (key : Key) (own : (i : ℕ) → name_place table i key ≡ place table i key) where
  -- names from one on are refused by the first that stands before
  apart_from_first : (i : ℕ) (earlier names : List (List ℕ)) →
      IsFirst (doubles_from table key i earlier names) (apart_from table key i earlier names)
  apart_from_first i earlier [] = (tt, refl)
  apart_from_first i earlier (name ∷ names) =
      subst (λ at. IsFirst (unless (not (list_any (bytes_eq name) earlier)) (DoubleName at)
      ++ doubles_from table key (i + 1) (earlier ++ name ∷ []) names)
      (apart_from table key i earlier (name ∷ names))) (own i)
      (if_next (list_any (bytes_eq name) earlier) (DoubleName (name_place table i key))
      (doubles_from table key (i + 1) (earlier ++ name ∷ []) names)
      (apart_from table key (i + 1) (earlier ++ name ∷ []) names)
      (apart_from_first (i + 1) (earlier ++ name ∷ []) names))

  -- names are refused by the first that stands before
  apart_first : (names : List (List ℕ)) → IsFirst (doubles_from table key 0 [] names) (apart table key names)
  unfolding apart
  apart_first names = apart_from_first 0 [] names

-- a name of the order is refused if `b` says so, and otherwise those after it are judged, which are good if `c` says
-- so: all are one fault at one place
if_one : {T : Type 0} (b c : Bool) (fault : ReadFault) (next : Reading T) → IsFirst (unless c fault) next →
    IsFirst (unless (not b && c) fault) (if b then Err fault else next)
if_one true c fault next told = refl
if_one false c fault next told = told

-- the names of an order, from one on, are refused for one that stands before
order_apart_from : (i : ℕ) (earlier names : List (List ℕ)) →
    IsFirst (unless (differ_from earlier names) (DoubleName order_place)) (apart_from tables.Top Order i earlier names)
order_apart_from i earlier [] = (tt, refl)
order_apart_from i earlier (name ∷ names) =
    if_one (list_any (bytes_eq name) earlier) (differ_from (earlier ++ name ∷ []) names) (DoubleName order_place)
    (apart_from tables.Top Order (i + 1) (earlier ++ name ∷ []) names)
    (order_apart_from (i + 1) (earlier ++ name ∷ []) names)

-- an order, if there is one, is refused for a name that stands twice
order_apart_first : (order : Option (List (List ℕ))) → IsFirst (order_doubles (unwrap_or order [])) (order_apart order)
unfolding order_apart apart
order_apart_first None = (tt, refl)
order_apart_first (Some names) = order_apart_from 0 [] names

-- a name that isn't known, as `o` is `None`, is refused
known_first : (at : Place) (o : Option ℕ) → IsFirst (unless (is_some o) (UnknownName at)) (known at o)
known_first at None = refl
known_first at (Some number) = (number, refl)

-- the number of a name is refused if the name isn't known
number_first : (names : List (List ℕ)) (name : List ℕ) (table : Table) (i : ℕ) (key : Key) →
    IsFirst (unknown names name table i key) (number_of names (place table i key) name)
unfolding number_of
number_first names name table i key = known_first (place table i key) (position (bytes_eq name) names)

-- slot `s`, the one of number `i`, is refused if its node isn't known
slot_number_first : (nodes : List (List ℕ)) (i : ℕ) (s : RawSlot) →
    IsFirst (unknown nodes s.node tables.Slot i Node) (slot_of nodes i s)
unfolding slot_of
slot_number_first nodes i s = bind_last _ _ _ (number_first nodes s.node tables.Slot i Node)

-- process `p`, the one of number `i`, is refused if its node isn't known
process_number_first : (nodes : List (List ℕ)) (i : ℕ) (p : RawProcess) →
    IsFirst (unknown nodes p.node tables.Process i Node) (process_of nodes i p)
unfolding process_of
process_number_first nodes i p = bind_last _ _ _ (number_first nodes p.node tables.Process i Node)

-- edge `e`, the one of number `i`, is refused for the first of its two ends that isn't known
ends_first : (names : List (List ℕ)) (i : ℕ) (e : RawEdge) → IsFirst (unknown_ends names i e) (edge_of names i e)
unfolding edge_of
ends_first names i e = bind _ _ _ _ (number_first names e.from tables.Edge i From)
    (λ from from_is. bind_last _ _ _ (number_first names e.to tables.Edge i To))

-- if `o`, which a name was looked up as, is `None`, the reading is refused for the name at place `at`, before what
-- comes after it (`next`)
known_next : {T : Type 0} (at : Place) (o : Option ℕ) (c : Bool) (next : ℕ → Reading T) →
    ((n : ℕ) → IsFirst (unless c (UnknownName at)) (next n)) →
    IsFirst (unless (is_some o && c) (UnknownName at)) (known at o >>= next)
known_next at None c next told = refl
known_next at (Some n) c next told = told n

-- the numbers of an order's names are refused for a name that isn't known
order_numbers : (names : List (List ℕ)) (i : ℕ) (order : List (List ℕ)) →
    IsFirst (order_unknowns names order) (each (ordered names) i order)
unfolding number_of
order_numbers names i [] = ([], refl)
order_numbers names i (name ∷ order) = known_next order_place (position (bytes_eq name) names)
    (list_all (is_known names) order) (λ y. each (ordered names) (i + 1) order >>= (λ ys. pure (y ∷ ys)))
    (λ n. bind_last (order_unknowns names order) (each (ordered names) (i + 1) order) (λ ys. n ∷ ys)
    (order_numbers names (i + 1) order))

-- an order, if there is one, is refused for a name that isn't known
order_first : (names : List (List ℕ)) (order : Option (List (List ℕ))) →
    IsFirst (order_unknowns names (unwrap_or order [])) (order_of names order)
unfolding order_of
order_first names None = (None, refl)
order_first names (Some order) = bind_last _ _ (λ numbers. Some numbers) (order_numbers names 0 order)

-- Resolving the names is refused by the first of the unknown ones.
-- Slots come first, then processes, edges and the order, as in the list of faults.
resolved_first : (g : RawGraph) → IsFirst (unknown_faults g) (resolved g)
unfolding resolved
resolved_first g =
    bind _ _ _ _ (each_first (λ i s. unknown g.nodes s.node tables.Slot i Node) (slot_of g.nodes)
    (slot_number_first g.nodes) 0 g.slots) (λ slots slots_made.
    bind _ _ _ _ (each_first (λ i p. unknown g.nodes p.node tables.Process i Node) (process_of g.nodes)
    (process_number_first g.nodes) 0 g.processes) (λ processes processes_made.
    bind _ _ _ _ (each_first (unknown_ends (process_names g.processes)) (edge_of (process_names g.processes))
    (ends_first (process_names g.processes)) 0 g.edges) (λ edges edges_made.
    bind_last _ _ _ (order_first (process_names g.processes) g.order))))

-- making the graph is refused by the first double name, or else the first unknown one
names_first : (g : RawGraph) → IsFirst (double_faults g ++ unknown_faults g) (graph_of g)
unfolding graph_of
names_first g =
    seq_within _ _ _ _ _ (apart_first tables.Node Name (λ i. refl) g.nodes)
    (seq_within _ _ _ _ _ (apart_first tables.Slot Node (λ i. refl) (slot_names g.slots))
    (seq_within _ _ _ _ _ (apart_first tables.Process Name (λ i. refl) (process_names g.processes))
    (seq _ _ _ _ (order_apart_first g.order) (resolved_first g))))

-- ---- the whole

-- a document's members are refused by the first of all their faults
problem_first : (ms : Members) → IsFirst (field_faults ms ++ graph_faults (read_raw ms)) (read_members ms)
unfolding read_members
problem_first ms =
    bind (field_faults ms) (graph_faults (read_raw ms)) (read_raw ms) (λ g. limits g >> graph_of g) (fields_first ms)
    (λ g is_read. subst (λ z. IsFirst (graph_faults z) (limits g >> graph_of g)) (sym is_read)
    (seq (limit_faults g) (double_faults g ++ unknown_faults g) (limits g) (graph_of g) (limits_first g)
    (names_first g)))

-- a document is refused by the first of its faults, if only for being no document
document_first : (r : Reading Members) → IsFirst (document_faults r) (r >>= read_members)
document_first (Err fault) = refl
document_first (Ok ms) = problem_first ms

-- reading a graph file is rejected by the first of its faults
pub graph_files_show_first_faults : GraphFilesShowFirstFaults
unfolding problem_of
graph_files_show_first_faults bytes = document_first (document_of bytes)
