-- The one spelling of tables. Numbers of more than one byte are big-endian.
use Rattle.std.specs.Prelude.{ℕ, Bool, List, [], ◌∷◌, ◌++◌, length, Option, Some, None, unwrap_or, if◌then◌else◌}
use Rattle.std.specs.List.{flat_map}
use Rattle.std.specs.Int.{w16, w32, w64, to_be_bytes}
use Rattle.cpg_cube.specs.declared.literal.Literal.{Literal}
use Rattle.cpg_head.specs.Head.{Head, version_of}
use Rattle.cpg_head.specs.declared.head_parts.HeadProcess.{HeadProcess}
use Rattle.cpg_head.specs.declared.head_parts.Extra.{Extra}
use Rattle.cpg_table.specs.Table.{Row, NodeTable}
use Rattle.cpg_cube.specs.declared.column.Column.{Column}
use Rattle.cpg_table.specs.Lawful.{Tables, rows_of}

-- the four letters CPGT as one number
abbrev pub magic : ℕ
magic = 0x43504754

-- one byte
abbrev pub byte : ℕ → List ℕ
byte n = n ∷ []

-- a truth value as 1 or 0
abbrev pub bit : Bool → ℕ
bit b = if b then 1 else 0

-- a name: its length, and its letters
abbrev pub name_bytes : List ℕ → List ℕ
name_bytes text = byte (length text) ++ text

-- the number that is written for an own deadline; without one 2^64 - 1, eight bytes ff
abbrev pub deadline_number : Option ℕ → ℕ
deadline_number None = 18446744073709551615
deadline_number (Some d) = d

-- what version 2 adds to a process: its release and its own deadline
abbrev pub extra_bytes : Option Extra → List ℕ
extra_bytes None = []
extra_bytes (Some e) = to_be_bytes w64 e.release ++ to_be_bytes w64 (deadline_number e.deadline)

-- a process with what version 2 adds to it; None in version 1
pub record Written : Type 0 where
  pub process : HeadProcess
  pub extra : Option Extra

-- a process with this addition
abbrev pub written_with : HeadProcess → Option Extra → Written
written_with p o = record { process = p; extra = o }

-- each process with the addition at its place; with None if the list of additions is too short
abbrev pub written_by : List HeadProcess → List Extra → List Written
written_by [] es = []
written_by (p ∷ ps) [] = record { process = p; extra = None } ∷ written_by ps []
written_by (p ∷ ps) (e ∷ es) = record { process = p; extra = Some e } ∷ written_by ps es

-- the processes of a head with what version 2 adds to each; a head of version 1 has no extras
abbrev pub written : Head → List Written
written h = written_by h.processes (unwrap_or h.extras [])

-- a process: its name, its node, 1 if it has a condition, its times, and what version 2 adds
abbrev pub process_bytes : Written → List ℕ
process_bytes w = name_bytes w.process.name ++ byte w.process.node ++ byte (bit w.process.condition)
    ++ flat_map (to_be_bytes w64) w.process.times ++ extra_bytes w.extra

-- an edge: the process that it leads from, and the one that it leads to
abbrev pub edge_bytes : ℕ × ℕ → List ℕ
edge_bytes e = byte e.0 ++ byte e.1

-- a head: the version and counts, the nodes, the processes and the edges
abbrev pub head_bytes : Head → List ℕ
head_bytes h =
    to_be_bytes w32 magic ++ byte (version_of h) ++ byte h.faults
    ++ byte (length h.nodes) ++ flat_map name_bytes h.nodes
    ++ byte (length h.processes) ++ flat_map process_bytes (written h)
    ++ to_be_bytes w16 (length h.edges) ++ flat_map edge_bytes h.edges

-- a literal: its variable, and the least and the greatest number of its range
abbrev pub literal_bytes : Literal → List ℕ
literal_bytes l = byte l.variable ++ byte l.low ++ byte l.high

-- a column: its time, how many literals it has, and these
abbrev pub column_bytes : Column → List ℕ
column_bytes c = to_be_bytes w64 c.time ++ byte (length c.cube) ++ flat_map literal_bytes c.cube

-- a row: how many columns it has, and these
abbrev pub row_bytes : Row → List ℕ
row_bytes r = to_be_bytes w16 (length r.columns) ++ flat_map column_bytes r.columns

-- the rows of a node: of what it starts, then of what it sends, then of what it hears
abbrev pub table_bytes : NodeTable → List ℕ
table_bytes t = flat_map row_bytes (rows_of t)

-- a pack: its head, and the tables of all nodes
abbrev pub spelling : Tables → List ℕ
spelling t = head_bytes t.head ++ flat_map table_bytes t.nodes
