-- The fields of a pack, and the bytes that each may have. A reader fails at the first byte that no pack has after those
-- before it.
use Rattle.std.specs.Prelude.{ℕ, zero, suc, ◌≤◌, ◌+◌, ◌-◌, min, max, List, [], ◌∷◌, ◌++◌, length, map, take, drop, Bool}
use Rattle.std.specs.Prelude.{◌&&◌, ◌||◌, Option, Some, None, Result, Ok, Err, nat_lt, nat_le, ◌==◌, if◌then◌else◌}
use Rattle.std.specs.List.{flat_map}
use Rattle.cpg_base.specs.Name.{is_name_byte}
use Rattle.cpg_base.specs.Variable.{top}
use Rattle.cpg_base.specs.declared.limits.TheConstants.{MOST_FAULTS, MOST_NODES, MOST_PROCESSES, MOST_EDGES}
use Rattle.cpg_base.specs.declared.limits.TheConstants.{MOST_CONDITIONS, MOST_COLUMNS, MOST_LOAD, LONGEST}
use Rattle.cpg_cube.specs.declared.literal.Literal.{Literal}
use Rattle.cpg_head.specs.Head.{Head}
use Rattle.cpg_head.specs.declared.head_parts.Extra.{Extra}
use Rattle.cpg_table.specs.Table.{Row, NodeTable}
use Rattle.cpg_cube.specs.declared.column.Column.{Column}
use Rattle.cpg_table.specs.Items.{first_broadcast, own_of, starts_of, sends_of, hears_of}
use Rattle.cpg_table.specs.Lawful.{Tables, space_of, column_count, rows_of}
use Rattle.cpg_table.specs.declared.space.VariableSpace.{VariableSpace}
use Rattle.cpg_codec.specs.Reading.{Reader, pure, ◌>>=◌, byte_by, read_number, within, read_each, down, read_repeated}
use Rattle.cpg_codec.specs.Spelling.{Written, magic, bit}

-- reads one byte, a number from `low` to `high`
abbrev pub read_small : ℕ → ℕ → Reader ℕ
read_small low high = read_number 1 (within low high)

-- reads a name: its length from 1 to 32, and its letters
unfoldable pub read_name : Reader (List ℕ)
read_name = do
  count ← read_small 1 32
  read_repeated (byte_by is_name_byte) count

-- reads a time of eight bytes, which is below 2^60
unfoldable pub read_time : Reader ℕ
read_time = read_number 8 (within 0 1152921504606846975)

-- whether some number from `low` up to, but without, `below` may stand for an own deadline: one up to 10^9 (`LONGEST`),
-- or 2^64 - 1, eight bytes ff, which is none
abbrev pub deadline_may : ℕ → ℕ → Bool
deadline_may low below = within 0 LONGEST low below || within 18446744073709551615 18446744073709551615 low below

-- reads an own deadline; None if the eight bytes are ff
unfoldable pub read_deadline : Reader (Option ℕ)
read_deadline = do
  number ← read_number 8 deadline_may
  pure (if number == 18446744073709551615 then None else Some number)

-- reads the release and the own deadline that version 2 adds to a process; version 1 has no bytes for them
unfoldable pub read_extra : ℕ → Reader (Option Extra)
read_extra version = if version == 2
    then (do
      release ← read_number 8 (within 0 LONGEST)
      deadline ← read_deadline
      pure (Some (record { release = release; deadline = deadline })))
    else pure None

-- Reads the node of a process, and its flag: 1 if it has a condition. `ones` processes before it have one; if these are
-- 32, the flag is 0.
unfoldable pub read_place : ℕ → ℕ → Reader (ℕ × ℕ)
read_place nodes ones = do
  node ← read_small 0 (nodes - 1)
  flag ← read_small 0 (if nat_lt ones MOST_CONDITIONS then 1 else 0)
  pure (node, flag)

-- Reads a process and what the version adds to it; `ones` processes before it have a condition. Its times are those of
-- executions with 0 to `faults` faults.
unfoldable pub read_process : ℕ → ℕ → ℕ → ℕ → Reader Written
read_process version faults nodes ones = do
  name ← read_name
  place ← read_place nodes ones
  times ← read_repeated read_time (faults + 1)
  extra ← read_extra version
  pure (record { process = record { name = name; node = place.0; condition = place.1 == 1; times = times }; extra = extra })

-- reads `count` processes; the state is how many of those so far have a condition
unfoldable pub read_processes : ℕ → ℕ → ℕ → ℕ → Reader (List Written)
read_processes version faults nodes count =
    read_each (λ (ones : ℕ) (w : Written). ones + bit w.process.condition)
    (λ (left : ℕ) ones. read_process version faults nodes ones) (down count) 0

-- reads an edge: the process that it leads from and the one that it leads to, both below `processes`
unfoldable pub read_edge : ℕ → Reader (ℕ × ℕ)
read_edge processes = do
  from ← read_small 0 (processes - 1)
  to ← read_small 0 (processes - 1)
  pure (from, to)

-- the greatest count of things that each refer to one of the things counted first: `most`, or 0 if there are none of
-- these (without nodes no processes, without processes no edges)
abbrev pub limit : ℕ → ℕ → ℕ
limit zero most = 0
limit (suc below) most = most

-- what version 2 adds to a process as a list, which is empty if it adds nothing
abbrev pub listed : Option Extra → List Extra
listed None = []
listed (Some e) = e ∷ []

-- the head of these parts: in version 2 with what was added to each of the processes `ws`, in version 1 without
abbrev pub head_from : ℕ → ℕ → List (List ℕ) → List Written → List (ℕ × ℕ) → Head
head_from version faults nodes ws edges = record {
  faults = faults;
  nodes = nodes;
  processes = map (λ (w : Written). w.process) ws;
  edges = edges;
  extras = if version == 2 then Some (flat_map (λ (w : Written). listed w.extra) ws) else None;
}

-- reads the head of a pack: the text CPGT, the version, the most faults, the names of the nodes, the processes and the
-- edges, each list after its length
unfoldable pub read_head : Reader Head
read_head = do
  text ← read_number 4 (within magic magic)
  version ← read_small 1 2
  faults ← read_small 0 MOST_FAULTS
  nodes ← read_small 0 MOST_NODES
  names ← read_repeated read_name nodes
  count ← read_small 0 (limit nodes MOST_PROCESSES)
  processes ← read_processes version faults nodes count
  ends ← read_number 2 (within 0 (limit count MOST_EDGES))
  edges ← read_repeated (read_edge count) ends
  pure (head_from version faults names processes edges)

-- the variables of a head within its limits: at most so many faults, processes and conditions
pub record IsSpace (s : VariableSpace) : Type 0 where
  pub faults : s.faults ≤ MOST_FAULTS
  pub processes : s.processes ≤ MOST_PROCESSES
  pub conditions : s.conditions ≤ MOST_CONDITIONS

-- a literal may be on a fault count whose variable is below this: on none if the greatest count is 0, as its range has
-- to leave out a number
abbrev pub fault_end : VariableSpace → ℕ
fault_end s = limit s.faults s.processes

-- whether a literal may be on variable v: a fault count, or from 128 on the value of a condition
abbrev pub is_variable : VariableSpace → ℕ → Bool
is_variable s v = nat_lt v (fault_end s) || (nat_le 128 v && nat_lt v (128 + s.conditions))

-- how many variables from v on a literal may be on: those of fault counts, and those of values
abbrev pub variable_count_from : VariableSpace → ℕ → ℕ
variable_count_from s v = (fault_end s - v) + ((128 + s.conditions) - max 128 v)

-- whether v may be the variable of a literal: it is allowed and not below `least`, and `left` allowed ones or more are
-- above it, for the literals that follow
abbrev pub variable_may : VariableSpace → ℕ → ℕ → ℕ → Bool
variable_may s least left v = (nat_le least v && is_variable s v) && nat_le left (variable_count_from s (suc v))

-- the greatest low of a literal on v: the greatest number that v can have
abbrev pub low_end : VariableSpace → ℕ → ℕ
low_end s v = top s.faults v

-- the greatest high of a literal on v with this low: a count's range leaves out a number, so from 0 it ends before the
-- greatest count; the range of a value (v from 128 on) has one number
abbrev pub high_end : VariableSpace → ℕ → ℕ → ℕ
high_end s v low = if nat_lt v 128 then (if low == 0 then s.faults - 1 else s.faults) else low

-- reads a literal: its variable from `least` on, with `left` more literals after it, its low and its high
unfoldable pub read_literal : VariableSpace → ℕ → ℕ → Reader Literal
read_literal s left least = do
  variable ← byte_by (variable_may s least left)
  low ← read_small 0 (low_end s variable)
  high ← read_small low (high_end s variable low)
  pure (record { variable = variable; low = low; high = high })

-- reads `count` literals by rising variable; the state is the least variable that the next may be on
unfoldable pub read_literals : VariableSpace → ℕ → Reader (List Literal)
read_literals s count = read_each (λ (least : ℕ) (l : Literal). suc l.variable) (read_literal s) (down count) 0

-- reads the time of a column, and how many literals it has
unfoldable pub read_front : VariableSpace → Reader (ℕ × ℕ)
read_front s = do
  time ← read_time
  count ← read_small 0 (variable_count_from s 0)
  pure (time, count)

-- reads a column: its front, which says how many literals it has, and these
unfoldable pub read_column : VariableSpace → Reader Column
read_column s = do
  front ← read_front s
  literals ← read_literals s front.1
  pure (record { time = front.0; cube = literals })

-- the most columns that a whole pack may have
abbrev pub most : ℕ
most = MOST_LOAD

-- reads the row of an item: how many columns it has, and these; the rows before it in the pack have `columns_read` columns
unfoldable pub read_row : VariableSpace → ℕ → ℕ → Reader Row
read_row s item columns_read = do
  count ← read_number 2 (within 0 (min MOST_COLUMNS (most - columns_read)))
  columns ← read_repeated (read_column s) count
  pure (record { item = item; columns = columns })

-- reads a row for each of these items; the state is how many columns have been read, `columns_read` at first
unfoldable pub read_rows : VariableSpace → List ℕ → ℕ → Reader (List Row)
read_rows s items columns_read = read_each (λ (c : ℕ) (r : Row). c + length r.columns) (read_row s) items columns_read

-- the items of a node's rows in their order: what it starts, what it sends, what it hears
abbrev pub items_of_node : Head → ℕ → List ℕ
items_of_node h node = starts_of h node ++ (sends_of h node ++ hears_of h node)

-- the table of a node whose rows are in the order of `items_of_node`, cut after those of the starts and of the sends
abbrev pub table_from : Head → ℕ → List Row → NodeTable
table_from h node rows = record {
  faults = h.faults;
  first_broadcast = first_broadcast h;
  own = own_of h node;
  starts = take (length (starts_of h node)) rows;
  sends = take (length (sends_of h node)) (drop (length (starts_of h node)) rows);
  hears = drop (length (sends_of h node)) (drop (length (starts_of h node)) rows);
}

-- reads the table of a node; those of the nodes before it have `columns_read` columns
unfoldable pub read_node_table : Head → ℕ → ℕ → Reader NodeTable
read_node_table h node columns_read = do
  rows ← read_rows (space_of h) (items_of_node h node) columns_read
  pure (table_from h node rows)

-- the n numbers from i on
unfoldable pub numbers_from : ℕ → ℕ → List ℕ
numbers_from i zero = []
numbers_from i (suc n) = i ∷ numbers_from (suc i) n

-- reads the tables of all nodes in their order; the state is how many columns have been read
unfoldable pub read_nodes : Head → Reader (List NodeTable)
read_nodes h = read_each (λ (c : ℕ) (t : NodeTable). c + column_count (rows_of t)) (read_node_table h)
    (numbers_from 0 (length h.nodes)) 0

-- reads a pack: its head, and the tables of its nodes
unfoldable pub read_tables : Reader Tables
read_tables = do
  head ← read_head
  nodes ← read_nodes head
  pure (record { head = head; nodes = nodes })

-- What a reading of `size` bytes says of them all: the tables if no byte is left, or else the place of the first byte
-- that no pack has after those before it. That is `size` if the bytes end too early.
abbrev pub whole : ℕ → Result (Tables × List ℕ) ℕ → Result Tables ℕ
whole size (Ok (tables, [])) = Ok tables
whole size (Ok (tables, b ∷ rest)) = Err (size - suc (length rest))
whole size (Err left) = Err (size - left)

-- the tables that the bytes as a whole spell, or the place of the first bad one as in `whole`
unfoldable pub read : List ℕ → Result Tables ℕ
read bytes = whole (length bytes) (read_tables bytes)
