-- How much of each there may be, and in which range each number lies: the refusals of what is beyond its limit.
use Rattle.std.specs.Prelude.{ℕ, ◌+◌, ℤ, pos, negsuc, ◌&&◌, Bool, false, List, [], ◌∷◌, ◌++◌, is_some, unwrap_or, Err}
use Rattle.std.specs.Prelude.{length, map, filter, nat_le, bytes_eq, if◌then◌else◌}
use Rattle.std.specs.List.{list_any}
use Rattle.cpg_base.specs.declared.limits.TheConstants.{MOST_FAULTS, MOST_NODES, MOST_PROCESSES, MOST_EDGES}
use Rattle.cpg_base.specs.declared.limits.TheConstants.{MOST_CONDITIONS, MOST_PARTS, LONGEST, LARGEST}
use Rattle.cpg_reader.specs.declared.place.Table.{Table}
use Rattle.cpg_reader.specs.declared.place.Table.TheVariants as tables
use Rattle.cpg_reader.specs.declared.place.Key.TheVariants.{Faults, Deadline, Length, Bytes, Wcet, Parts, Alpha, Chi}
use Rattle.cpg_reader.specs.declared.place.Key.TheVariants.{Mu, Release}
use Rattle.cpg_reader.specs.declared.place.What.{What}
use Rattle.cpg_reader.specs.declared.place.What.TheVariants.{Nodes, Slots, Processes, Edges, Number, Conditions}
use Rattle.cpg_reader.specs.declared.place.ReadFault.TheVariants.{OverLimit}
use Rattle.cpg_reader.specs.declared.shape.RawSlot.{RawSlot}
use Rattle.cpg_reader.specs.declared.shape.RawProcess.{RawProcess}
use Rattle.cpg_reader.specs.declared.shape.RawEdge.{RawEdge}
use Rattle.cpg_reader.specs.declared.ranges.BoundedField.{BoundedField}
use Rattle.cpg_reader.specs.Reading.{Reading, done, ◌>>◌}
use Rattle.cpg_reader.specs.Shape.{RawGraph}

-- the two numbers at the top, each with the least and the greatest value that it may have
abbrev pub top_numbers : RawGraph → List BoundedField
top_numbers g =
    record { key = Faults; value = g.faults; low = 0; high = MOST_FAULTS }
    ∷ record { key = Deadline; value = g.deadline; low = 0; high = LONGEST }
    ∷ []

-- the numbers of a slot, with their ranges
abbrev pub slot_numbers : RawSlot → List BoundedField
slot_numbers s =
    record { key = Length; value = s.length; low = 1; high = LONGEST }
    ∷ record { key = Bytes; value = s.bytes; low = 1; high = LARGEST }
    ∷ []

-- the numbers of a process, with their ranges; an absent deadline counts as 0, which is in range
abbrev pub process_numbers : RawProcess → List BoundedField
process_numbers p =
    record { key = Wcet; value = p.wcet; low = 1; high = LONGEST }
    ∷ record { key = Parts; value = p.parts; low = 1; high = MOST_PARTS }
    ∷ record { key = Alpha; value = p.alpha; low = 0; high = LONGEST }
    ∷ record { key = Chi; value = p.chi; low = 0; high = LONGEST }
    ∷ record { key = Mu; value = p.mu; low = 0; high = LONGEST }
    ∷ record { key = Release; value = p.release; low = 0; high = LONGEST }
    ∷ record { key = Deadline; value = unwrap_or p.deadline (pos 0); low = 0; high = LONGEST }
    ∷ []

-- the numbers of an edge, with their ranges
abbrev pub edge_numbers : RawEdge → List BoundedField
edge_numbers e = record { key = Bytes; value = e.bytes; low = 1; high = LARGEST } ∷ []

-- whether a number is from `low` to `high`
abbrev pub is_within : ℕ → ℕ → ℤ → Bool
is_within low high (pos n) = nat_le low n && nat_le n high
is_within low high (negsuc n) = false

-- the numbers of element i of a list are in range; the refusal names the first that isn't
abbrev pub in_range : Table → ℕ → List BoundedField → Reading (Unit {0})
in_range table i [] = done
in_range table i (n ∷ ns) = if is_within n.low n.high n.value
    then in_range table i ns
    else Err (OverLimit (Number (record { table = table; index = i; key = n.key })))

-- the numbers of all elements of a list are in range; the first element has the index i
abbrev pub all_in_range : {T : Type 0} → Table → (T → List BoundedField) → ℕ → List T → Reading (Unit {0})
all_in_range table numbers_of i [] = done
all_in_range table numbers_of i (x ∷ xs) = do
  in_range table i (numbers_of x)
  all_in_range table numbers_of (i + 1) xs

-- a list has no more elements than its limit
abbrev pub at_most : {T : Type 0} → ℕ → What → List T → Reading (Unit {0})
at_most limit what xs = if nat_le (length xs) limit then done else Err (OverLimit what)

-- the names of the conditional edges' sources, edge by edge
abbrev pub sources : List RawEdge → List (List ℕ)
sources edges = map (λ e. e.from) (filter (λ e. is_some e.when) edges)

-- the names that were seen and each further name once
abbrev pub different : List (List ℕ) → List (List ℕ) → List (List ℕ)
different seen [] = seen
different seen (name ∷ names) = different (if list_any (bytes_eq name) seen then seen else seen ++ name ∷ []) names

-- A document is within the limits. Counts are tested first, then numbers, then how many processes have conditions.
unfoldable pub limits : RawGraph → Reading (Unit {0})
limits g = do
  at_most MOST_NODES Nodes g.nodes
  at_most MOST_NODES Slots g.slots
  at_most MOST_PROCESSES Processes g.processes
  at_most MOST_EDGES Edges g.edges
  in_range tables.Top 0 (top_numbers g)
  all_in_range tables.Slot slot_numbers 0 g.slots
  all_in_range tables.Process process_numbers 0 g.processes
  all_in_range tables.Edge edge_numbers 0 g.edges
  at_most MOST_CONDITIONS Conditions (different [] (sources g.edges))
