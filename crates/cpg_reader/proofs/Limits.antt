-- What is known of a document that passes the tests of the limits.
use Rattle.std.proofs.Common.{◌≡◌, ℕ, zero, suc, ◌+◌, ◌<◌, ◌≤◌, Bool, true, false, List, [], ◌∷◌, length, get_or, Ok}
use Rattle.std.proofs.Common.{Err, refl, sym, ap, ◌∙◌, subst, arith, ℤ, pos, negsuc, cond}
use Rattle.std.specs.Prelude.{nat_le, All}
use Rattle.std.proofs.lemmas.Bool.{and_parts, leb-true, false≢true}
use Rattle.std.proofs.lemmas.List.{length-map}
use Rattle.cpg_reader.specs.declared.place.Table.{Table}
use Rattle.cpg_reader.specs.declared.place.Table.TheVariants as tables
use Rattle.cpg_reader.specs.declared.place.What.{What}
use Rattle.cpg_reader.specs.declared.place.What.TheVariants.{Nodes, Slots, Processes, Edges, Conditions}
use Rattle.cpg_reader.specs.declared.place.ReadFault.{ReadFault}
use Rattle.cpg_reader.specs.declared.ranges.BoundedField.{BoundedField}
use Rattle.cpg_reader.specs.Reading.{Reading, done}
use Rattle.cpg_reader.specs.Shape.{RawGraph}
use Rattle.cpg_reader.specs.Ranges.{top_numbers, slot_numbers, process_numbers, edge_numbers, is_within, in_range}
use Rattle.cpg_reader.specs.Ranges.{all_in_range, at_most, sources, different, limits}
use Rattle.cpg_base.specs.Natural.{natural}
use Rattle.cpg_reader.specs.Names.{process_names}
use Rattle.cpg_reader.proofs.Steps.{then-parts}

-- each number is in its range
abbrev pub AreIn : List BoundedField → Type 0
AreIn [] = Unit {0}
AreIn (n ∷ ns) = (n.low ≤ natural n.value) × (natural n.value ≤ n.high) × AreIn ns

-- what the limits say of a document
pub record AreLimits (g : RawGraph) : Type 0 where
  -- there are few enough nodes
  pub nodes : length g.nodes ≤ 16
  -- there are few enough slots
  pub slots : length g.slots ≤ 16
  -- there are few enough processes
  pub processes : length g.processes ≤ 128
  -- there are few enough edges
  pub edges : length g.edges ≤ 256
  -- the numbers of the top are in range
  pub top_range : AreIn (top_numbers g)
  -- the numbers of each slot are in range
  pub slot_ranges : All (λ s. AreIn (slot_numbers s)) g.slots
  -- the numbers of each process are in range
  pub process_ranges : All (λ p. AreIn (process_numbers p)) g.processes
  -- the number of each edge is in range
  pub edge_ranges : All (λ e. AreIn (edge_numbers e)) g.edges
  -- few enough different processes have a conditional output
  pub conditions : length (different [] (sources g.edges)) ≤ 32

-- if a test and the step after it succeed, the test passes, and the step succeeds
passes : {T : Type 0} (b : Bool) (next : Reading T) (fault : ReadFault) (x : T) → cond b next (Err fault) ≡ Ok x →
    (b ≡ true) × (next ≡ Ok x)
passes true next fault x is = (refl, is)
passes false next fault x is = cc

-- a list that passes its check is no longer than its limit
at_most-le : {T : Type 0} (limit : ℕ) (what : What) (xs : List T) (x : Unit {0}) → at_most limit what xs ≡ Ok x →
    length xs ≤ limit
at_most-le limit what xs x is = leb-true (length xs) limit (passes (nat_le (length xs) limit) done _ x is).0

-- a number that passes the test of its range is a natural number in this range
natural-within : (low high : ℕ) (value : ℤ) → is_within low high value ≡ true →
    (low ≤ natural value) × (natural value ≤ high)
natural-within low high (pos n) is_true =
    let (above, below) = and_parts (nat_le low n) (nat_le n high) is_true in
    (leb-true low n above, leb-true n high below)
natural-within low high (negsuc n) is_true = absurd (false≢true is_true)

-- numbers that pass their tests are in range; by induction on the numbers
AreIn-from_in_range : (table : Table) (i : ℕ) (ns : List BoundedField) (x : Unit {0}) → in_range table i ns ≡ Ok x →
    AreIn ns
AreIn-from_in_range table i [] x is = tt
AreIn-from_in_range table i (n ∷ ns) x is =
    let (here, rest) = passes (is_within n.low n.high n.value) (in_range table i ns) _ x is in
    let (low, high) = natural-within n.low n.high n.value here in
    (low, high, AreIn-from_in_range table i ns x rest)

-- If the test of all elements passes, the numbers of the element at each place are in range. By induction on the place:
-- the test passes for the first element and for the others.
all_in_range-at : {T : Type 0} (table : Table) (numbers_of : T → List BoundedField) (i : ℕ) (xs : List T)
    (x : Unit {0}) →
    all_in_range table numbers_of i xs ≡ Ok x →
    All (λ y. AreIn (numbers_of y)) xs
all_in_range-at table numbers_of i [] x is k d l = absurd (omega arith)
all_in_range-at table numbers_of i (y ∷ ys) x is zero d l =
    let (_, here, rest) = then-parts (in_range table i (numbers_of y))
    (all_in_range table numbers_of (i + 1) ys) x is in
    AreIn-from_in_range table i (numbers_of y) _ here
all_in_range-at table numbers_of i (y ∷ ys) x is (suc k) d l =
    let (_, here, rest) = then-parts (in_range table i (numbers_of y))
    (all_in_range table numbers_of (i + 1) ys) x is in
    all_in_range-at table numbers_of (i + 1) ys x rest k d (omega arith)

-- A document that passes all tests has few enough elements of each kind, and its numbers are in range. The tests are
-- taken apart one after another: each passed.
pub are_limits : (g : RawGraph) → limits g ≡ Ok tt → AreLimits g
unfolding limits
are_limits g is =
    let (_, nodes, h1) = then-parts _ _ tt is in
    let (_, slots, h2) = then-parts _ _ tt h1 in
    let (_, processes, h3) = then-parts _ _ tt h2 in
    let (_, edges, h4) = then-parts _ _ tt h3 in
    let (_, top_range, h5) = then-parts _ _ tt h4 in
    let (_, slot_ranges, h6) = then-parts _ _ tt h5 in
    let (_, process_ranges, h7) = then-parts _ _ tt h6 in
    let (_, edge_ranges, conditions) = then-parts _ _ tt h7 in
    record {
      nodes = at_most-le 16 Nodes g.nodes _ nodes;
      slots = at_most-le 16 Slots g.slots _ slots;
      processes = at_most-le 128 Processes g.processes _ processes;
      edges = at_most-le 256 Edges g.edges _ edges;
      top_range = AreIn-from_in_range tables.Top 0 (top_numbers g) _ top_range;
      slot_ranges = all_in_range-at tables.Slot slot_numbers 0 g.slots _ slot_ranges;
      process_ranges = all_in_range-at tables.Process process_numbers 0 g.processes _ process_ranges;
      edge_ranges = all_in_range-at tables.Edge edge_numbers 0 g.edges _ edge_ranges;
      conditions = at_most-le 32 Conditions (different [] (sources g.edges)) _ conditions;
    }

-- the bytes of each slot fit 16 bits
pub small_slots : (g : RawGraph) → limits g ≡ Ok tt → All (λ s. natural s.bytes ≤ 65535) g.slots
small_slots g is k d l = ((are_limits g is).slot_ranges k d l).2.1

-- the parts of each process fit 16 bits
pub small_processes : (g : RawGraph) → limits g ≡ Ok tt → All (λ p. natural p.parts ≤ 65535) g.processes
small_processes g is k d l = omega (arith, ((are_limits g is).process_ranges k d l).2.1)

-- the bytes of each edge fit 16 bits
pub small_edges : (g : RawGraph) → limits g ≡ Ok tt → All (λ e. natural e.bytes ≤ 65535) g.edges
small_edges g is k d l = ((are_limits g is).edge_ranges k d l).1

-- there are at most 128 names of nodes
pub few_nodes : (g : RawGraph) (names : List (List ℕ)) → limits g ≡ Ok tt → names ≡ g.nodes → length names ≤ 128
few_nodes g names h e = omega (arith, (are_limits g h).nodes, ap length e)

-- there are at most 128 names of processes
pub few_processes : (g : RawGraph) (names : List (List ℕ)) → limits g ≡ Ok tt → names ≡ process_names g.processes →
    length names ≤ 128
few_processes g names h e = omega (arith, (are_limits g h).processes, ap length e, length-map g.processes (λ p. p.name))

-- what holds of all elements of a list holds of the one at a place of an equal list
pub all_at : {X : Type 0} (P : X → Type 0) (xs ys : List X) (i : ℕ) (x : X) → All P xs → ys ≡ xs → i < length ys →
    x ≡ get_or ys i x → P x
all_at P xs ys i x h same below is =
    let there : get_or xs i x ≡ x = sym (is ∙ ap (λ zs. get_or zs i x) same) in
    subst P there (h i x (subst (λ zs. i < length zs) same below))

-- a cycle has at most 8 faults
pub small_faults : (g : RawGraph) → limits g ≡ Ok tt → natural g.faults ≤ 8
small_faults g is = (are_limits g is).top_range.1
