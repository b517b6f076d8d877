-- The tables of a document, and what stands at their keys.
use Rattle.std.specs.Prelude.{ℕ, ℤ, ◌&&◌, Bool, true, List, [], ◌∷◌, Option, Some, None, Err, codes, bytes_eq, nat_le}
use Rattle.std.specs.Prelude.{length, option_and_then, option_map, unwrap_or, if◌then◌else◌}
use Rattle.std.specs.List.{list_any, list_all}
use Rattle.toml.specs.Data.{Data, Items, no_items, item, Members, no_members, member, get_member, as_str, as_integer}
use Rattle.toml.specs.Data.{as_bool, as_array, as_table}
use Rattle.toml.specs.View.{table_view}
use Rattle.cpg_base.specs.Name.{is_name_byte}
use Rattle.cpg_reader.specs.declared.place.Place.{Place}
use Rattle.cpg_reader.specs.declared.place.Table.{Table}
use Rattle.cpg_reader.specs.declared.place.Key.{Key}
use Rattle.cpg_reader.specs.declared.place.Key.TheVariants.{Faults, Deadline, Node, Slot, Process, Edge, Order, Name}
use Rattle.cpg_reader.specs.declared.place.Key.TheVariants.{Length, Bytes, Wcet, Parts, Alpha, Chi, Mu, Join, Frozen}
use Rattle.cpg_reader.specs.declared.place.Key.TheVariants.{Release, From, To, When, Unknown}
use Rattle.cpg_reader.specs.declared.place.ReadFault.TheVariants.{BadField}
use Rattle.cpg_reader.specs.declared.row.DocumentRow.{DocumentRow as RowOfCode}
use Rattle.cpg_reader.specs.Reading.{Reading, pure, done, ◌>>=◌}

-- a key as it is written; `Unknown` is any other key, and has no text
abbrev pub text_of : Key → List ℕ
text_of Faults = codes "faults"
text_of Deadline = codes "deadline"
text_of Node = codes "node"
text_of Slot = codes "slot"
text_of Process = codes "process"
text_of Edge = codes "edge"
text_of Order = codes "order"
text_of Name = codes "name"
text_of Length = codes "length"
text_of Bytes = codes "bytes"
text_of Wcet = codes "wcet"
text_of Parts = codes "parts"
text_of Alpha = codes "alpha"
text_of Chi = codes "chi"
text_of Mu = codes "mu"
text_of Join = codes "join"
text_of Frozen = codes "frozen"
text_of Release = codes "release"
text_of From = codes "from"
text_of To = codes "to"
text_of When = codes "when"
text_of Unknown = []

-- a table of the document: its top, or an element of one of its lists
pub record DocumentRow : Type 0 where
  -- the list that it is of, or the top
  pub table : Table
  -- its index in the list, or 0 for the top
  pub index : ℕ
  -- its keys with their values
  pub members : Members

-- a table of the document, from the code's record of it
abbrev pub row_view : RowOfCode → DocumentRow
row_view r = record { table = r.table; index = r.index; members = table_view r.members.now }

-- the place of a key in a table of the document
abbrev pub place_in : DocumentRow → Key → Place
place_in row key = record { table = row.table; index = row.index; key = key }

-- the refusal of a key: its value is missing or of another type, or the key isn't known
abbrev pub bad : {T : Type 0} → DocumentRow → Key → Reading T
bad row key = Err (BadField (place_in row key))

-- the value at a key, if the table has the key
abbrev pub value_at : DocumentRow → Key → Option Data
value_at row key = get_member (text_of key) row.members

-- a value of the required type or, if it isn't of that type, the refusal of the key
abbrev pub typed_in : {T : Type 0} → DocumentRow → Key → Option T → Reading (Option T)
typed_in row key None = bad row key
typed_in row key (Some x) = pure (Some x)

-- the value that was found at a key, as the required type; no value is fine too
abbrev pub optional_in : {T : Type 0} → DocumentRow → Key → (Data → Option T) → Option Data → Reading (Option T)
optional_in row key as_type None = pure None
optional_in row key as_type (Some d) = typed_in row key (as_type d)

-- The value at a key as the required type, or `None` if the table hasn't the key. `as_type` gives the value as that
-- type, if it is of it; another value is refused.
unfoldable pub optional : {T : Type 0} → (Data → Option T) → DocumentRow → Key → Reading (Option T)
optional as_type row key = optional_in row key as_type (value_at row key)

-- a value that is there or, if none is, the refusal of the key
abbrev pub required_in : {T : Type 0} → DocumentRow → Key → Option T → Reading T
required_in row key None = bad row key
required_in row key (Some x) = pure x

-- the value at a key as the required type; a missing value is refused too
abbrev pub required : {T : Type 0} → (Data → Option T) → DocumentRow → Key → Reading T
required as_type row key = optional as_type row key >>= required_in row key

-- the value at a key as the required type, or the default `value` if the table hasn't the key
abbrev pub with_default : {T : Type 0} → T → (Data → Option T) → DocumentRow → Key → Reading T
with_default value as_type row key = do
  found ← optional as_type row key
  pure (unwrap_or found value)

-- whether a text is a name: 1 to 32 bytes, all of which a name may have
abbrev pub is_name : List ℕ → Bool
is_name text = nat_le 1 (length text) && nat_le (length text) 32 && list_all is_name_byte text

-- a text, if it is a name
abbrev pub name_if : List ℕ → Option (List ℕ)
name_if text = if is_name text then Some text else None

-- a value as a name, if it is a text that is one
abbrev pub as_name : Data → Option (List ℕ)
as_name d = option_and_then name_if (as_str d)

-- the elements of an array as the required type, or `None` if one isn't of it
abbrev pub items_as : {T : Type 0} → (Data → Option T) → Items → Option (List T)
items_as as_type no_items = Some []
items_as as_type (item d ds) = option_and_then (λ x. option_map (λ rest. x ∷ rest) (items_as as_type ds)) (as_type d)

-- a value as tables, if it is an array that has tables alone
abbrev pub as_tables : Data → Option (List Members)
as_tables d = option_and_then (items_as as_table) (as_array d)

-- a value as names, if it is an array that has names alone
abbrev pub as_names : Data → Option (List (List ℕ))
as_names d = option_and_then (items_as as_name) (as_array d)

-- whether each key of a table is one of these
abbrev pub are_listed : List Key → Members → Bool
are_listed keys no_members = true
are_listed keys (member text d ms) = list_any (λ key. bytes_eq (text_of key) text) keys && are_listed keys ms

-- a table has no keys but these; if it has another, the refusal has the key `Unknown`
unfoldable pub only : List Key → DocumentRow → Reading (Unit {0})
only keys row = if are_listed keys row.members then done else bad row Unknown

-- the name at a key, which is required
unfoldable pub read_name : DocumentRow → Key → Reading (List ℕ)
read_name = required as_name

-- the integer at a key, which is required
unfoldable pub read_integer : DocumentRow → Key → Reading ℤ
read_integer = required as_integer

-- the integer at a key, or `value` if the table hasn't the key
unfoldable pub integer_or : ℤ → DocumentRow → Key → Reading ℤ
integer_or value = with_default value as_integer

-- the flag at a key, or `value` if the table hasn't the key
unfoldable pub flag_or : Bool → DocumentRow → Key → Reading Bool
flag_or value = with_default value as_bool

-- the tables in the array at a key, or none if the table hasn't the key
unfoldable pub read_array : DocumentRow → Key → Reading (List Members)
read_array = with_default [] as_tables
