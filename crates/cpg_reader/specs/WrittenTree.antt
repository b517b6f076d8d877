-- The document that is written for a graph: its tables, each with its keys in the order of their bytes.
use Rattle.std.specs.Prelude.{ℕ, pos, Bool, List, [], Option, Some, None, codes, map, get_or}
use Rattle.std.specs.Ordering.{nat_cmp, match_ordering}
use Rattle.std.specs.Cmp.Lexicographic.{slice_cmp}
use Rattle.toml.specs.Data.{Data, string, integer, boolean, array, table, Members, no_members, member}
use Rattle.toml.specs.View.{items_of}
use Rattle.cpg_base.specs.Graph.{Graph}
use Rattle.cpg_base.specs.declared.process.Process.{Process}
use Rattle.cpg_base.specs.declared.process.Edge.{Edge}
use Rattle.cpg_base.specs.declared.process.Slot.{Slot}

-- the members, which are in the order of their keys, with a value at key k: a new member at its place, or in place of
-- the one that has the key
abbrev pub with_member : List ℕ → Data → Members → Members
with_member k d no_members = member k d no_members
with_member k d (member l e ms) = match_ordering (slice_cmp nat_cmp k l) (member k d (member l e ms)) (member l d ms)
    (member l e (with_member k d ms))

-- a whole number as a value of the document
abbrev pub number : ℕ → Data
number n = integer (pos n)

-- an array with a table for each element
abbrev pub tables : {T : Type 0} → (T → Members) → List T → Data
tables members_of xs = array (items_of (map (λ x. table (members_of x)) xs))

-- the table of a node
abbrev pub node_members : List ℕ → Members
node_members name = member (codes "name") (string name) no_members

-- the table of a slot; `nodes` are the names of the nodes, by number
abbrev pub slot_members : List (List ℕ) → Slot → Members
slot_members nodes s =
    member (codes "bytes") (number s.bytes)
    (member (codes "length") (number s.length) (member (codes "node") (string (get_or nodes s.node [])) no_members))

-- a process's table from the key `node` on
abbrev pub process_low : List (List ℕ) → Process → Members
process_low nodes p =
    member (codes "node") (string (get_or nodes p.node []))
    (member (codes "parts") (number p.parts)
    (member (codes "release") (number p.release) (member (codes "wcet") (number p.wcet) no_members)))

-- a process's table from the key `frozen` on
abbrev pub process_middle : List (List ℕ) → Process → Members
process_middle nodes p =
    member (codes "frozen") (boolean p.frozen)
    (member (codes "join") (boolean p.join)
    (member (codes "mu") (number p.mu) (member (codes "name") (string p.name) (process_low nodes p))))

-- the members `ms`, with a deadline of the process's own in front if it has one
abbrev pub with_deadline : Option ℕ → Members → Members
with_deadline None ms = ms
with_deadline (Some d) ms = member (codes "deadline") (number d) ms

-- the table of a process; `nodes` are the names of the nodes, by number
abbrev pub process_members : List (List ℕ) → Process → Members
process_members nodes p = member (codes "alpha") (number p.alpha)
    (member (codes "chi") (number p.chi) (with_deadline p.deadline (process_middle nodes p)))

-- the end of an edge's table: the value for which it is live, if it has a `when`
abbrev pub when_members : Option Bool → Members
when_members None = no_members
when_members (Some value) = member (codes "when") (boolean value) no_members

-- the table of an edge between some of these processes
abbrev pub edge_members : List Process → Edge → Members
edge_members processes e =
    member (codes "bytes") (number e.size)
    (member (codes "from") (string (get_or (map (λ p. p.name) processes) e.from []))
    (member (codes "frozen") (boolean e.frozen)
    (member (codes "to") (string (get_or (map (λ p. p.name) processes) e.to [])) (when_members e.when))))

-- the end of the document: the processes and the slots
abbrev pub last_members : Graph → Members
last_members g = member (codes "process") (tables (process_members g.nodes) g.processes)
    (member (codes "slot") (tables (slot_members g.nodes) g.slots) no_members)

-- the members `ms`, with the order in front, as names of processes, if the graph gives one
abbrev pub with_order : List Process → Option (List ℕ) → Members → Members
with_order processes None ms = ms
with_order processes (Some order) ms =
    member (codes "order") (array (items_of (map (λ p. string (get_or (map (λ q. q.name) processes) p [])) order))) ms

-- the document after its numbers and edges: the nodes, the order, the processes and the slots
abbrev pub list_members : Graph → Members
list_members g = member (codes "node") (tables node_members g.nodes) (with_order g.processes g.order (last_members g))

-- the whole document of a graph
abbrev pub graph_members : Graph → Members
graph_members g = member (codes "deadline") (number g.deadline)
    (member (codes "edge") (tables (edge_members g.processes) g.edges)
    (member (codes "faults") (number g.faults) (list_members g)))
