-- The document of a graph within the limits passes the tests of the limits.
use Rattle.std.proofs.Common.{◌≡◌, ◌≢◌, ℕ, ◌+◌, ◌<◌, ◌≤◌, suc, Bool, true, false, ◌==◌, List, [], ◌∷◌, ◌++◌, length}
use Rattle.std.proofs.Common.{get_or, map, filter, Option, Some, None, Ok, AllPairs, Contains, ⊎_elim, inl, inr}
use Rattle.std.proofs.Common.{◌⊎◌, cond, refl, sym, ap, ◌∙◌, subst, arith, le-leb, pos, is_some, eq-eqb}
use Rattle.std.specs.Prelude.{IfSome, bytes_eq, unwrap_or, option_map}
use Rattle.std.specs.List.{AllByRecursion, list_any}
use Rattle.std.proofs.lemmas.Bool.{and_from}
use Rattle.std.proofs.lemmas.List.{length-map}
use Rattle.std.proofs.lemmas.List.Elements.{Contains-get_or, Contains-append_cases}
use Rattle.std.proofs.lemmas.List.Quantifiers.{all_pairs_push}
use Rattle.std.proofs.lemmas.Slice.Eq.{bytes_eq-Decides}
use Rattle.cpg_base.specs.Numbers.{numbers_below}
use Rattle.cpg_base.specs.Graph.{Graph, process_count}
use Rattle.cpg_base.specs.Conditions.{is_conditional_output, has_conditional_output}
use Rattle.cpg_base.specs.declared.limits.TheConstants.{MOST_FAULTS, MOST_NODES, MOST_PROCESSES, MOST_EDGES}
use Rattle.cpg_base.specs.declared.limits.TheConstants.{MOST_CONDITIONS, MOST_PARTS, LONGEST, LARGEST}
use Rattle.cpg_base.specs.Limits.{IsProcessWithin, IsSlotWithin, IsEdgeWithin, IsWithinLimits}
use Rattle.cpg_base.specs.declared.process.Process.{Process}
use Rattle.cpg_base.specs.declared.process.Edge.{Edge}
use Rattle.cpg_base.specs.declared.process.Slot.{Slot}
use Rattle.cpg_base.proofs.Lists.{Contains-cases, Contains-nil, Contains-map, Contains-map_parts, Contains-filter}
use Rattle.cpg_base.proofs.Lists.{Contains-filter_parts, Contains-numbers, list_any_true, from_any_false}
use Rattle.cpg_base.proofs.Pairs.{length-le_of_apart, AllPairs-nil}
use Rattle.cpg_base.proofs.Found.{conditions_found}
use Rattle.cpg_reader.specs.declared.place.Table.{Table}
use Rattle.cpg_reader.specs.declared.place.Table.TheVariants as places
use Rattle.cpg_reader.specs.declared.place.What.{What}
use Rattle.cpg_reader.specs.declared.shape.RawEdge.{RawEdge}
use Rattle.cpg_reader.specs.declared.ranges.BoundedField.{BoundedField}
use Rattle.cpg_reader.specs.Ranges.{top_numbers, slot_numbers, process_numbers, edge_numbers, is_within, in_range}
use Rattle.cpg_reader.specs.Ranges.{all_in_range, at_most, sources, different, limits}
use Rattle.cpg_reader.specs.RawOf.{raw_slot, raw_process, raw_edge, raw_of, names_of}
use Rattle.cpg_reader.proofs.RawReads.{all_by_recursion}

-- a number from low to high passes the test of its range
within : (low high n : ℕ) → low ≤ n → n ≤ high → is_within low high (pos n) ≡ true
within low high n n_at_most h = rw (le-leb low n n_at_most, le-leb n high h) refl

-- each number passes the test of its range
abbrev pub AreWithin : List BoundedField → Type 0
AreWithin [] = Unit {0}
AreWithin (n ∷ ns) = (is_within n.low n.high n.value ≡ true) × AreWithin ns

-- numbers in their ranges are not refused
in_range-within : (table : Table) (i : ℕ) (ns : List BoundedField) → AreWithin ns → in_range table i ns ≡ Ok tt
in_range-within table i [] h = refl
in_range-within table i (n ∷ ns) h = rw h.0 (in_range-within table i ns h.1)

-- if the numbers of each element are in range, the check of all passes
all_in_range-within : {S T : Type 0} (table : Table) (numbers_of : T → List BoundedField) (f : S → T) (i : ℕ)
    (xs : List S) →
    AllByRecursion (λ x. AreWithin (numbers_of (f x))) xs →
    all_in_range table numbers_of i (map f xs) ≡ Ok tt
all_in_range-within table numbers_of f i [] h = refl
all_in_range-within table numbers_of f i (x ∷ xs) h =
    rw (in_range-within table i (numbers_of (f x)) h.0) (all_in_range-within table numbers_of f (i + 1) xs h.1)

-- a list with no more elements than its limit isn't refused
at_most-few : {T : Type 0} (limit : ℕ) (what : What) (xs : List T) → length xs ≤ limit → at_most limit what xs ≡ Ok tt
at_most-few limit what xs h = rw (le-leb (length xs) limit h) refl

-- ---- the sources of conditional edges

-- different names stay different with a further name behind them, which is left out if it is among them
apart_if : (seen : List (List ℕ)) (name : List ℕ) (b : Bool) → list_any (bytes_eq name) seen ≡ b →
    AllPairs (λ a b. a ≢ b) seen →
    AllPairs (λ a b. a ≢ b) (cond b seen (seen ++ name ∷ []))
apart_if seen name true e pairs = pairs
apart_if seen name false e pairs = all_pairs_push (λ a b. a ≢ b) seen name pairs
    (λ k d l is. absurd (Bool_apart (sym ((bytes_eq-Decides name (get_or seen k d)).1 (sym is))
    ∙ from_any_false (bytes_eq name) seen (get_or seen k d) e (Contains-get_or seen k d l))))
  where
    -- true isn't false
    Bool_apart : true ≡ false → ⊥
    Bool_apart equal = cc

-- the different ones among names differ; by induction on the names
different-apart : (seen names : List (List ℕ)) → AllPairs (λ a b. a ≢ b) seen →
    AllPairs (λ a b. a ≢ b) (different seen names)
different-apart seen [] pairs = pairs
different-apart seen (name ∷ names) pairs = different-apart
    (cond (list_any (bytes_eq name) seen) seen (seen ++ name ∷ []))
    names (apart_if seen name (list_any (bytes_eq name) seen) refl pairs)

-- what is among `seen`, with `name` behind them or left out, is among `seen` or is `name`
from_if : (seen : List (List ℕ)) (name x : List ℕ) (b : Bool) → Contains (cond b seen (seen ++ name ∷ [])) x →
    Contains seen x ⊎ (name ≡ x)
from_if seen name x true among = inl among
from_if seen name x false among = ⊎_elim
    (λ (d : Contains seen x). inl d)
    (λ (d : Contains (name ∷ []) x). ⊎_elim (λ (e : name ≡ x). inr e) (λ (f : Contains [] x). absurd (Contains-nil x f))
    (Contains-cases name [] x d))
    (Contains-append_cases seen (name ∷ []) x among)

-- the first element is in its list
Contains-head : (x y : List ℕ) (xs : List (List ℕ)) → x ≡ y → Contains (x ∷ xs) y
Contains-head x y xs same = (0, omega arith, same)

-- what is in a list is in it with a further element in front
Contains-tail : (x y : List ℕ) (xs : List (List ℕ)) → Contains xs y → Contains (x ∷ xs) y
Contains-tail x y xs (k, l, e) = (suc k, omega (arith, l), e)

-- each of the different ones among names was seen before, or is one of the names; by induction on the names
different-from : (seen names : List (List ℕ)) (x : List ℕ) → Contains (different seen names) x →
    Contains seen x ⊎ Contains names x
different-from seen [] x among = inl among
different-from seen (name ∷ names) x among = ⊎_elim
    (λ (d : Contains (cond (list_any (bytes_eq name) seen) seen (seen ++ name ∷ [])) x). ⊎_elim
    (λ (e : Contains seen x). inl e)
    (λ (e : name ≡ x). inr (Contains-head name x names e))
    (from_if seen name x (list_any (bytes_eq name) seen) d))
    (λ (d : Contains names x). inr (Contains-tail name x names d))
    (different-from (cond (list_any (bytes_eq name) seen) seen (seen ++ name ∷ [])) names x among)

-- given a graph within the limits
module _ (g : Graph) (limited : IsWithinLimits g) where
  -- the name of a process
  name_of : ℕ → List ℕ
  name_of p = get_or (names_of g.processes) p []

  -- the processes with a conditional output
  conditional : List ℕ
  conditional = filter (has_conditional_output g.edges) (numbers_below (process_count g))

  -- The source of a conditional edge in the document is the name of a process with a conditional output: that of the
  -- edge in the graph from which it was written.
  source_named : (x : List ℕ) → Contains (sources (map (raw_edge (names_of g.processes)) g.edges)) x →
      Contains (map name_of conditional) x
  unfolding name_of conditional
  source_named x among =
      let (raw, there, is) = Contains-map_parts (λ (r : RawEdge). r.from)
      (filter (λ (r : RawEdge). is_some r.when) (map (raw_edge (names_of g.processes)) g.edges)) x among in
      let (found, test) = Contains-filter_parts (λ (r : RawEdge). is_some r.when)
      (map (raw_edge (names_of g.processes)) g.edges) raw there in
      let (e, here, same) = Contains-map_parts (raw_edge (names_of g.processes)) g.edges raw found in
      let when : is_some e.when ≡ true = ap (λ (r : RawEdge). is_some r.when) same ∙ test in
      let named : name_of e.from ≡ x = ap (λ (r : RawEdge). r.from) same ∙ is in
      let below = limited.edges here.0 e here.1 in
      let from : e.from < process_count g = subst (λ (d : Edge). d.from < process_count g) here.2 below.from in
      let passes : has_conditional_output g.edges e.from ≡ true =
      list_any_true (is_conditional_output e.from) g.edges e here
      (and_from (e.from == e.from) (is_some e.when) (eq-eqb e.from e.from refl) when) in
      subst (Contains (map name_of conditional)) named
      (Contains-map name_of conditional e.from (Contains-filter (has_conditional_output g.edges)
      (numbers_below (process_count g)) e.from passes (Contains-numbers (process_count g) e.from from)))

  -- The different sources of conditional edges are within the limit: they differ and are names of conditional
  -- processes, of which there are as many as conditions.
  few_sources : length (different [] (sources (map (raw_edge (names_of g.processes)) g.edges))) ≤ MOST_CONDITIONS
  unfolding conditional
  few_sources =
      let ss = sources (map (raw_edge (names_of g.processes)) g.edges) in
      let all = length-le_of_apart (different [] ss) (map name_of conditional)
      (different-apart [] ss (AllPairs-nil (λ a b. a ≢ b)))
      (λ x c. ⊎_elim (λ (d : Contains [] x). absurd (Contains-nil x d)) (λ (d : Contains ss x). source_named x d)
      (different-from [] ss x c)) in
      let found : length conditional ≤ MOST_CONDITIONS =
      subst (λ n. n ≤ MOST_CONDITIONS) (sym (ap length (conditions_found g))) limited.few_conditions in
      omega (arith, all, found, length-map conditional name_of)

-- a process's own deadline within the limits, or none, which counts as 0, is in range
deadline_in : (own : Option ℕ) → IfSome own (λ d. d ≤ LONGEST) →
    is_within 0 LONGEST (unwrap_or (option_map pos own) (pos 0)) ≡ true
deadline_in None h = refl
deadline_in (Some d) h = within 0 LONGEST d (omega arith) h

-- the numbers of a slot within the limits are in range
slot_in : (nodes : List (List ℕ)) (s : Slot) → IsSlotWithin (length nodes) s →
    AreWithin (slot_numbers (raw_slot nodes s))
slot_in nodes s h = (within 1 LONGEST s.length h.lasts h.length, (within 1 LARGEST s.bytes h.holds h.bytes, tt))

-- the numbers of a process within the limits are in range
process_in : (nodes : List (List ℕ)) (p : Process) → IsProcessWithin (length nodes) p →
    AreWithin (process_numbers (raw_process nodes p))
process_in nodes p h = (
  within 1 LONGEST p.wcet h.works h.wcet,
  (
    within 1 MOST_PARTS p.parts h.divided h.parts,
    (
      within 0 LONGEST p.alpha (omega arith) h.alpha,
      (
        within 0 LONGEST p.chi (omega arith) h.chi,
        (
          within 0 LONGEST p.mu (omega arith) h.mu,
          (within 0 LONGEST p.release (omega arith) h.release, (deadline_in p.deadline h.deadline, tt)),
        ),
      ),
    ),
  ),
)

-- the number of an edge within the limits is in range
edge_in : (names : List (List ℕ)) (count : ℕ) (e : Edge) → IsEdgeWithin count e →
    AreWithin (edge_numbers (raw_edge names e))
edge_in names count e h = (within 1 LARGEST e.size h.sized h.size, tt)

-- if one fact implies another, and the first holds of all elements, so does the second
all_weaker : {X : Type 0} (P R : X → Type 0) → ((x : X) → P x → R x) → (xs : List X) → AllByRecursion P xs →
    AllByRecursion R xs
all_weaker P R f [] h = tt
all_weaker P R f (x ∷ xs) h = (f x h.0, all_weaker P R f xs h.1)

-- The document of a graph within the limits is within the limits: each of the tests of `limits` passes, one after
-- another.
pub raw_limited : (g : Graph) → IsWithinLimits g → limits (raw_of g) ≡ Ok tt
unfolding limits
raw_limited g h =
    let slots = all_in_range-within places.Slot slot_numbers (raw_slot g.nodes) 0 g.slots
    (all_weaker _ _ (slot_in g.nodes) g.slots (all_by_recursion _ g.slots h.slots)) in
    let processes = all_in_range-within places.Process process_numbers (raw_process g.nodes) 0 g.processes
    (all_weaker _ _ (process_in g.nodes) g.processes (all_by_recursion _ g.processes h.processes)) in
    let edges = all_in_range-within places.Edge edge_numbers (raw_edge (names_of g.processes)) 0 g.edges
    (all_weaker _ _ (edge_in (names_of g.processes) (process_count g)) g.edges (all_by_recursion _ g.edges h.edges)) in
    let top = in_range-within places.Top 0 (top_numbers (raw_of g)) (
      within 0 MOST_FAULTS g.faults (omega arith) h.faults,
      (within 0 LONGEST g.deadline (omega arith) h.deadline, tt),
    ) in
    rw (
      at_most-few MOST_NODES _ g.nodes h.few_nodes,
      at_most-few MOST_NODES _ (map (raw_slot g.nodes) g.slots)
          (omega (arith, length-map g.slots (raw_slot g.nodes), h.few_slots)),
      at_most-few MOST_PROCESSES _ (map (raw_process g.nodes) g.processes)
          (omega (arith, length-map g.processes (raw_process g.nodes), h.few_processes)),
      at_most-few MOST_EDGES _ (map (raw_edge (names_of g.processes)) g.edges)
          (omega (arith, length-map g.edges (raw_edge (names_of g.processes)), h.few_edges)),
      top,
      slots,
      processes,
      edges,
      at_most-few MOST_CONDITIONS _ (different [] (sources (map (raw_edge (names_of g.processes)) g.edges)))
          (few_sources g h),
    ) refl
