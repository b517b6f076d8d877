-- The names of a written document are read as the numbers from which they were written.
use Rattle.std.proofs.Common.{◌≡◌, ◌≢◌, ℕ, ◌+◌, ◌<◌, Bool, false, List, [], ◌∷◌, ◌++◌, length, get_or, map, Option}
use Rattle.std.proofs.Common.{Some, None, Ok, Err, AllPairs, refl, sym, ap, ◌∙◌, subst, arith, lt-ltb}
use Rattle.std.proofs.Common.{append_assoc, zero, suc}
use Rattle.std.specs.Prelude.{bytes_eq, position, option_map, IfSome}
use Rattle.std.specs.List.{AllByRecursion, list_any, position_or_len}
use Rattle.std.proofs.lemmas.Bool.{cond-true, false_from_ne_true}
use Rattle.std.proofs.lemmas.List.{length-map, get_or-map}
use Rattle.std.proofs.lemmas.List.Sums.{position_or_len_is}
use Rattle.std.proofs.lemmas.Slice.Eq.{bytes_eq-Decides}
use Rattle.cpg_base.specs.Graph.{Graph, process_count}
use Rattle.cpg_base.specs.Limits.{IsProcessWithin, IsSlotWithin, IsEdgeWithin, IsOrderWithin, IsWithinLimits}
use Rattle.cpg_base.specs.declared.process.Process.{Process}
use Rattle.cpg_base.specs.declared.process.Edge.{Edge}
use Rattle.cpg_base.specs.declared.process.Slot.{Slot}
use Rattle.cpg_base.proofs.Lists.{list_any_false}
use Rattle.cpg_base.proofs.Pairs.{AllPairs-map}
use Rattle.cpg_reader.specs.declared.place.Table.{Table}
use Rattle.cpg_reader.specs.declared.place.Table.TheVariants as places
use Rattle.cpg_reader.specs.declared.place.Key.{Key}
use Rattle.cpg_reader.specs.declared.place.Key.TheVariants as keys
use Rattle.cpg_reader.specs.declared.place.Place.{Place}
use Rattle.cpg_reader.specs.Reading.{Reading, each}
use Rattle.cpg_reader.specs.Names.{apart_from, apart, number_of, slot_of, process_of, edge_of, ordered, order_of}
use Rattle.cpg_reader.specs.Names.{order_apart, graph_of, resolved}
use Rattle.cpg_reader.specs.RawOf.{raw_slot, raw_process, raw_edge, raw_of, name_in, names_of}
use Rattle.cpg_reader.proofs.RawReads.{all_by_recursion}

-- no name stands twice
abbrev pub AreApart : List (List ℕ) → Type 0
AreApart names = AllPairs (λ a b. a ≢ b) names

-- the test tells different names apart
differ : (x y : List ℕ) → x ≢ y → bytes_eq x y ≡ false
differ x y x_differ = false_from_ne_true (bytes_eq x y) (λ t. x_differ ((bytes_eq-Decides x y).0 t))

-- the element at a place of a list stays there if another list is appended
at_left : (xs ys : List (List ℕ)) (k : ℕ) (d : List ℕ) → k < length xs → get_or (xs ++ ys) k d ≡ get_or xs k d
at_left [] ys k d below = absurd (omega arith)
at_left (x ∷ xs) ys zero d below = refl
at_left (x ∷ xs) ys (suc k) d below = at_left xs ys k d (omega arith)

-- an element between two lists has the length of the first as its place
at_middle : (xs ys : List (List ℕ)) (y d : List ℕ) → get_or (xs ++ y ∷ ys) (length xs) d ≡ y
at_middle [] ys y d = refl
at_middle (x ∷ xs) ys y d = at_middle xs ys y d

-- a list is shorter than the same with more after it
left_shorter : (xs ys : List (List ℕ)) (y : List ℕ) → length xs < length (xs ++ y ∷ ys)
left_shorter [] ys y = omega arith
left_shorter (x ∷ xs) ys y = omega (arith, left_shorter xs ys y)

-- Names that differ from each other and from earlier ones pass the test for double names. By induction on the names:
-- the first isn't among the earlier ones, and becomes one of them.
apart_from-pairs : (table : Table) (key : Key) (i : ℕ) (earlier names : List (List ℕ)) → AreApart (earlier ++ names) →
    apart_from table key i earlier names ≡ Ok tt
apart_from-pairs table key i earlier [] h = refl
apart_from-pairs table key i earlier (name ∷ names) h =
    let new : list_any (bytes_eq name) earlier ≡ false =
    list_any_false (bytes_eq name) earlier (λ y (k, l, is). differ name y
    (λ same. h k (length earlier) y l (left_shorter earlier names name)
    (at_left earlier (name ∷ names) k y l ∙ is ∙ sym same ∙ sym (at_middle earlier names name y)))) in
    rw new (apart_from-pairs table key (i + 1) (earlier ++ name ∷ []) names
    (subst AreApart (sym (append_assoc earlier (name ∷ []) names)) h))

-- different names aren't refused as double
apart-names : (table : Table) (key : Key) (names : List (List ℕ)) → AreApart names → apart table key names ≡ Ok tt
unfolding apart
apart-names table key names h = apart_from-pairs table key 0 [] names h

-- The number of the name at a place is that place: it equals itself, and no earlier name does.
number_at : (names : List (List ℕ)) (place : Place) (n : ℕ) → AreApart names → n < length names →
    number_of names place (get_or names n []) ≡ Ok n
unfolding number_of
number_at names place n h below =
    let passes : List ℕ → Bool = bytes_eq (get_or names n []) in
    let at : position_or_len passes names ≡ n = position_or_len_is passes names n [] (omega (arith, below))
    (λ k lt. differ (get_or names n []) (get_or names k []) (λ same. h k n [] lt below (sym same)))
    (λ m. (bytes_eq-Decides (get_or names n []) (get_or names n [])).1 refl) in
    let found : position passes names ≡ Some n =
    cond-true _ _ _ (lt-ltb (position_or_len passes names) (length names) (omega (arith, at, below))) ∙ ap Some at in
    rw found refl

-- if a step gives each element back, the steps for all give the list back
each_back : {S T : Type 0} (step : ℕ → T → Reading S) (f : S → T) (P : S → Type 0) →
    ((i : ℕ) (x : S) → P x → step i (f x) ≡ Ok x) → (i : ℕ) (xs : List S) →
    AllByRecursion P xs →
    each step i (map f xs) ≡ Ok xs
each_back step f P h i [] a = refl
each_back step f P h i (x ∷ xs) a = rw (h i x a.0, each_back step f P h (i + 1) xs a.1) refl

-- mapping twice is mapping once by both
map_map : {X Y Z : Type 0} (f : X → Y) (r : Y → Z) (xs : List X) → map r (map f xs) ≡ map (λ x. r (f x)) xs
map_map f r [] = refl
map_map f r (x ∷ xs) = ap (λ l. r (f x) ∷ l) (map_map f r xs)

-- the number that a reading gives, or 0
abbrev number_value : Reading ℕ → ℕ
number_value (Ok n) = n
number_value (Err e) = 0

-- two numbers m and n that have one name are equal, as both are the number of that name
only : (names : List (List ℕ)) → AreApart names → (m n : ℕ) → m < length names → n < length names →
    get_or names m [] ≡ get_or names n [] → m ≡ n
only names h m n m_below n_below is =
    let somewhere : Place = record { table = places.Slot; index = 0; key = keys.Node } in
    ap number_value
    (sym (number_at names somewhere m h m_below) ∙ ap (number_of names somewhere) is ∙
    number_at names somewhere n h n_below)

-- given names that differ
module _ (names : List (List ℕ)) (names_differ : AreApart names) where
  -- the names of an order's numbers differ, as the numbers do
  order_names_apart : (o : List ℕ) → IsOrderWithin (length names) o → AreApart (map (name_in names) o)
  order_names_apart o within i j d lt j_inside same =
      let j_below : j < length o = omega (arith, j_inside, length-map o (name_in names)) in
      let i_below : i < length o = omega (arith, lt, j_below) in
      within.once i j 0 lt j_below (only names names_differ (get_or o i 0) (get_or o j 0) (within.there i 0 i_below)
      (within.there j 0 j_below)
      (sym (get_or-map (name_in names) o i 0 d i_below) ∙ same ∙ get_or-map (name_in names) o j 0 d j_below))

  -- the names of an order within the limits aren't refused as double; without an order there are none
  order_differs : (order : Option (List ℕ)) → IfSome order (IsOrderWithin (length names)) →
      order_apart (option_map (map (name_in names)) order) ≡ Ok tt
  unfolding order_apart
  order_differs None within = refl
  order_differs (Some o) within = apart-names places.Top keys.Order (map (name_in names) o) (order_names_apart o within)

  -- the names of an order are read as its numbers
  order_back : (order : Option (List ℕ)) → IfSome order (IsOrderWithin (length names)) →
      order_of names (option_map (map (name_in names)) order) ≡ Ok order
  unfolding order_of
  order_back None within = refl
  order_back (Some o) within =
      rw (each_back (ordered names) (name_in names) (λ p. p < length names)
      (λ i p below. number_at names _ p names_differ below) 0 o (all_by_recursion _ o within.there)) refl

-- given a graph within the limits
module _ (g : Graph) (limited : IsWithinLimits g) where
  -- a written slot is read as the slot
  slot_back : (i : ℕ) (s : Slot) → IsSlotWithin (length g.nodes) s → slot_of g.nodes i (raw_slot g.nodes s) ≡ Ok s
  unfolding slot_of
  slot_back i s h = rw (number_at g.nodes _ s.node limited.node_names h.node) refl

  -- a written process is read as the process; by whether it has its own deadline
  process_by : (i : ℕ) (p : Process) (own : Option ℕ) → p.deadline ≡ own → IsProcessWithin (length g.nodes) p →
      process_of g.nodes i (raw_process g.nodes p) ≡ Ok (record p { deadline = own })
  unfolding process_of
  process_by i p None is h = rw (number_at g.nodes _ p.node limited.node_names h.node, is) refl
  process_by i p (Some d) is h = rw (number_at g.nodes _ p.node limited.node_names h.node, is) refl

  -- the names of the processes differ
  names_apart : AreApart (names_of g.processes)
  names_apart = AllPairs-map (λ (p : Process) (q : Process). p.name ≢ q.name) (λ a b. a ≢ b)
      (λ (p : Process). p.name) g.processes (λ p q d. d) limited.process_names

  -- The names of the slots' nodes differ: two slots have different nodes, and these have different names.
  slots_apart : AreApart (map (λ (s : Slot). get_or g.nodes s.node []) g.slots)
  slots_apart i j d lt j_inside same =
      let j_below : j < length g.slots =
      omega (arith, j_inside, length-map g.slots (λ (s : Slot). get_or g.nodes s.node [])) in
      let none : Slot = record { node = 0; length = 0; bytes = 0 } in
      let name_i = get_or-map (λ (s : Slot). get_or g.nodes s.node []) g.slots i none d (omega (arith, lt, j_below)) in
      let name_j = get_or-map (λ (s : Slot). get_or g.nodes s.node []) g.slots j none d j_below in
      let node_i = (get_or g.slots i none).node in
      let node_j = (get_or g.slots j none).node in
      let equal : get_or g.nodes node_i [] ≡ get_or g.nodes node_j [] = sym name_i ∙ same ∙ name_j in
      let i_within = (limited.slots i none (omega (arith, lt, j_below))).node in
      let j_within = (limited.slots j none j_below).node in
      limited.own_slots i j none lt j_below (only g.nodes limited.node_names node_i node_j i_within j_within equal)

  -- a written edge is read as the edge
  edge_back : (i : ℕ) (e : Edge) → IsEdgeWithin (process_count g) e →
      edge_of (names_of g.processes) i (raw_edge (names_of g.processes) e) ≡ Ok e
  unfolding edge_of
  edge_back i e h =
      let count = length-map g.processes (λ (p : Process). p.name) in
      rw (
        number_at (names_of g.processes) _ e.from names_apart (omega (arith, count, h.from)),
        number_at (names_of g.processes) _ e.to names_apart (omega (arith, count, h.to)),
      ) refl

  -- the order, if there is one, has numbers of these names
  order_within : IfSome g.order (IsOrderWithin (length (names_of g.processes)))
  order_within = subst (λ n. IfSome g.order (IsOrderWithin n))
      (sym (length-map g.processes (λ (p : Process). p.name))) limited.order

  -- What the graph's document says, by names, is the graph: no name is double, and each list is read as it was written.
  pub graph_back : graph_of (raw_of g) ≡ Ok g
  unfolding graph_of resolved
  graph_back =
      let slot_name = map_map (raw_slot g.nodes) (λ s. s.node) g.slots in
      let process_name = map_map (raw_process g.nodes) (λ p. p.name) g.processes in
      let slots = each_back (slot_of g.nodes) (raw_slot g.nodes) (IsSlotWithin (length g.nodes)) slot_back 0 g.slots
      (all_by_recursion _ g.slots limited.slots) in
      let processes = each_back (process_of g.nodes) (raw_process g.nodes) (IsProcessWithin (length g.nodes))
      (λ i p h. process_by i p p.deadline refl h) 0 g.processes
      (all_by_recursion _ g.processes limited.processes) in
      let edges = each_back (edge_of (names_of g.processes)) (raw_edge (names_of g.processes))
      (IsEdgeWithin (process_count g)) edge_back 0 g.edges (all_by_recursion _ g.edges limited.edges) in
      rw (
        slot_name,
        process_name,
        apart-names places.Node _ g.nodes limited.node_names,
        apart-names places.Slot _ _ slots_apart,
        apart-names places.Process _ _ names_apart,
        order_differs (names_of g.processes) names_apart g.order order_within,
        slots,
        processes,
        edges,
        order_back (names_of g.processes) names_apart g.order order_within,
      ) refl
