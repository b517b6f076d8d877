-- A generated graph is within the limits of a graph file.
use Rattle.std.proofs.Common.{ℕ, ◌%◌, ◌/◌, ◌^◌, ◌<◌, ◌≤◌, ◌≡◌, ◌≢◌, ◌==◌, inl, inr, Bool, true, false, cond, ◌||◌, List}
use Rattle.std.proofs.Common.{[], ◌∷◌, length, get_or, drop, map, filter, Some, None, Contains, All}
use Rattle.std.proofs.Common.{AllPairs, is_some, refl, sym, ap, ◌∙◌, subst, arith, rules, true≢false, eq-eqb}
use Rattle.std.proofs.Math.Nat.{mod-lt}
use Rattle.std.proofs.lemmas.Fmt.{decimal_injective}
use Rattle.std.proofs.lemmas.List.Concat.{length-flat_map}
use Rattle.std.proofs.lemmas.List.Elements.{All-weaker, All-contains_itself, Contains-get_or}
use Rattle.std.proofs.lemmas.List.FromFn.{length-map-range_with_len}
use Rattle.cpg_base.specs.Numbers.{numbers_below}
use Rattle.cpg_base.specs.declared.process.Process.{Process}
use Rattle.cpg_base.specs.declared.process.Edge.{Edge}
use Rattle.cpg_base.specs.declared.process.Slot.{Slot}
use Rattle.cpg_base.specs.Graph.{Graph, process_count, edge_count, condition_count, is_disjunction, outputs, source}
use Rattle.cpg_base.specs.Graph.{edge_at, target, home, producer}
use Rattle.cpg_base.specs.Limits.{IsWithinLimits, IsProcessWithin, IsSlotWithin, IsEdgeWithin}
use Rattle.cpg_base.specs.WellFormed.{HasSenderSlots, WellFormed}
use Rattle.cpg_base.proofs.Lists.{get_or-map-below, numbers-Contains, Contains-numbers, Contains-flat_map_parts}
use Rattle.cpg_base.proofs.Lists.{Contains-cases, Contains-nil, Contains-map, list_any_true, list_any_parts}
use Rattle.cpg_base.proofs.Inputs.{outputs_parts}
use Rattle.cpg_base.proofs.Items.{producer_from_sources}
use Rattle.cpg_base.proofs.Sums.{length-filter-le, same_sum_by}
use Rattle.cpg_base.proofs.Within.{well_formed}
use Rattle.cpg_gen.specs.Draws.{nth_draw, number_after}
use Rattle.cpg_gen.specs.Generated.{generated, generated_process, generated_edges, process_from, edges_by, edge_of}
use Rattle.cpg_gen.specs.Generated.{when_of, predecessor_by, numbered, node_name, slot_of, number_before}

-- a list with an element for each number below n has n elements
length-by : {X : Type 0} (f : ℕ → X) (n : ℕ) → length (map f (numbers_below n)) ≡ n
length-by f n = length-map-range_with_len f 0 n

-- if a fact holds of the element for each number below n, it holds of all
all_by : {X : Type 0} (P : X → Type 0) (f : ℕ → X) (n : ℕ) → ((i : ℕ) → i < n → P (f i)) →
    All P (map f (numbers_below n))
all_by P f n h = λ i d l. let within : i < n = omega (arith, length-by f n) in
    subst P (sym (get_or-map-below f n i d within)) (h i within)

-- if a relation holds of the elements for each two numbers i < j below n, it holds of all pairs
pairs_by : {X : Type 0} (R : X → X → Type 0) (f : ℕ → X) (n : ℕ) → ((i j : ℕ) → i < j → j < n → R (f i) (f j)) →
    AllPairs R (map f (numbers_below n))
pairs_by R f n h = λ i j d l m.
    let within : j < n = omega (arith, length-by f n) in
    let first : i < n = omega arith in
    subst (λ x. R x (get_or (map f (numbers_below n)) j d)) (sym (get_or-map-below f n i d first))
    (subst (R (f i)) (sym (get_or-map-below f n j d within)) (h i j l within))

-- a letter with two different numbers below 60 makes two different names
numbered_differ : (b : ℕ) (i j : ℕ) → i < j → j < 60 → numbered (b ∷ []) i ≢ numbered (b ∷ []) j
numbered_differ b i j i_less j_less e = absurd
    (omega (arith, decimal_injective i j (omega arith) (omega arith) (ap (drop 1) e)))

-- a draw is below its bound
pub draw-lt : (x n bound : ℕ) → 0 < bound → nth_draw x n bound < bound
draw-lt x n bound less = mod-lt (number_after x n / 2 ^ 33) less

-- a process made of draws is within the limits, with one of four nodes
process_within : (x i : ℕ) → IsProcessWithin 4 (process_from x i)
-- each cost is 1 more than a draw, or a draw, below a bound
process_within x i = record {
  node = mod-lt i (omega arith);
  works = omega arith;
  wcet = omega (arith, draw-lt x 1 50 (omega arith));
  divided = omega arith;
  parts = omega (arith, draw-lt x 2 3 (omega arith));
  alpha = omega (arith, draw-lt x 3 3 (omega arith));
  chi = omega (arith, draw-lt x 4 3 (omega arith));
  mu = omega (arith, draw-lt x 5 5 (omega arith));
  release = omega arith;
  deadline = search rules;
}

-- the slot of each of the four nodes is within the limits
slot_within : (i : ℕ) → i < 4 → IsSlotWithin 4 (slot_of i)
slot_within i less =
    record { node = less; lasts = omega arith; length = omega arith; holds = omega arith; bytes = omega arith }

-- an edge is as those of generated graphs are
pub record IsGeneratedEdge (e : Edge) : Type 0 where
  -- it leads to a process with a greater number
  pub rises : e.from < e.to
  -- both are among the 60 processes
  pub within : e.to < 60
  -- its message is one byte long
  pub size : e.size ≡ 1
  -- its message is frozen
  pub frozen : e.frozen ≡ true
  -- it has a `when` only if its source is process 10 or 20
  pub chosen : is_some e.when ≡ true → ((e.from == 10) || (e.from == 20)) ≡ true

-- the predecessor that a draw chooses has a lower number
predecessor-lt : (x i : ℕ) → i ≢ 0 → predecessor_by x i < i
predecessor-lt x i some = omega arith

-- if what is Some only if b is true is Some, b is true
when_chosen : (b odd : Bool) → is_some (cond b (Some odd) None) ≡ true → b ≡ true
when_chosen true odd is_true = refl
when_chosen false odd is_true = absurd (true≢false (sym is_true))

-- each edge to process i is a generated one
edges_are : (x i : ℕ) → i < 60 → (e : Edge) → Contains (edges_by x i) e → IsGeneratedEdge e
edges_are x i less e k = go (i == 0) refl (i == 40) refl k
  where
    -- the two edges to the join are
    of_join : (value : Bool) → IsGeneratedEdge (edge_of 10 40 (Some value))
    of_join value = record { rises = omega arith; within = omega arith; size = refl; frozen = refl; chosen = λ _. refl }

    -- an edge that is drawn is a generated one
    of_drawn : i ≢ 0 → IsGeneratedEdge (edge_of (predecessor_by x i) i (when_of (predecessor_by x i) i))
    of_drawn some = record {
      rises = predecessor-lt x i some;
      within = less;
      size = refl;
      frozen = refl;
      chosen = when_chosen ((predecessor_by x i == 10) || (predecessor_by x i == 20)) (i % 2 == 1);
    }

    -- by what i is: the root without edges, the join with two, or any other with one
    go : (root : Bool) → (i == 0) ≡ root → (join : Bool) → (i == 40) ≡ join →
        Contains (cond root [] (cond join (edge_of 10 40 (Some true) ∷ edge_of 10 40 (Some false) ∷ [])
        (edge_of (predecessor_by x i) i (when_of (predecessor_by x i) i) ∷ []))) e → IsGeneratedEdge e
    -- the edge is one of the list's one or two
    go true r join j k = absurd (Contains-nil e k)
    go false r true j k = elim (Contains-cases (edge_of 10 40 (Some true)) (edge_of 10 40 (Some false) ∷ []) e k) [
      | inl is_head ↦ subst IsGeneratedEdge is_head (of_join true)
      | inr in_rest ↦ elim (Contains-cases (edge_of 10 40 (Some false)) [] e in_rest) [
        | inl is_head ↦ subst IsGeneratedEdge is_head (of_join false)
        | inr in_rest ↦ absurd (Contains-nil e in_rest)
      ]
    ]
    go false r false j k =
        elim (Contains-cases (edge_of (predecessor_by x i) i (when_of (predecessor_by x i) i)) [] e k) [
          | inl is_head ↦ subst IsGeneratedEdge is_head (of_drawn (λ z. true≢false (sym (eq-eqb i 0 z) ∙ r)))
          | inr in_rest ↦ absurd (Contains-nil e in_rest)
        ]

-- how many edges lead to a process
abbrev inputs_of : ℕ → ℕ
inputs_of i = cond (i == 0) 0 (cond (i == 40) 2 1)

-- there are as many edges to i as it has inputs
edges_long : (x i : ℕ) → length (edges_by x i) ≡ inputs_of i
edges_long x i = go (i == 0) (i == 40)
  where
    -- none to the root, two to the join, one to any other
    go : (root join : Bool) →
        length (cond root [] (cond join (edge_of 10 40 (Some true) ∷ edge_of 10 40 (Some false) ∷ [])
        (edge_of (predecessor_by x i) i (when_of (predecessor_by x i) i) ∷ []))) ≡
        cond root 0 (cond join 2 1)
    go true join = refl
    go false true = refl
    go false false = refl

module _ (number : ℕ) where
  -- a generated graph has 60 processes
  pub processes_count : process_count (generated number) ≡ 60
  processes_count = length-by (generated_process number) 60

  -- each edge of a generated graph has the properties of a generated edge
  pub generated_edge : (e : Edge) → Contains (generated number).edges e → IsGeneratedEdge e
  generated_edge e among =
      let of_process = Contains-flat_map_parts (generated_edges number) (numbers_below 60) e among in
      edges_are (number_after (number_before number of_process.0) 6) of_process.0
      (numbers-Contains 60 of_process.0 of_process.1) e of_process.2

  -- the edge of each number is a generated one
  pub edge_there : (e : ℕ) → e < edge_count (generated number) → IsGeneratedEdge (edge_at (generated number) e)
  edge_there e below = generated_edge (edge_at (generated number) e)
      (Contains-get_or (generated number).edges e _ below)

  -- the source of an edge has a lower number than its target
  pub edges_rise : (e : ℕ) → e < edge_count (generated number) →
      source (generated number) e < target (generated number) e
  edges_rise e below = (edge_there e below).rises

  -- a generated graph has 60 edges
  pub edges_count : edge_count (generated number) ≡ 60
  edges_count = length-flat_map (generated_edges number) (numbers_below 60)
      ∙ same_sum_by (λ i. length (generated_edges number i)) inputs_of (numbers_below 60)
      (λ i k. edges_long (number_after (number_before number i) 6) i)

  -- whether a process is one of the two whose edges may be conditional
  abbrev is_choice : ℕ → Bool
  is_choice p = (p == 10) || (p == 20)

  -- a process with a condition is one of the two that may have one
  pub chooses : (p : ℕ) → is_disjunction (generated number) p ≡ true → is_choice p ≡ true
  chooses p is_true =
      let found = list_any_parts (λ e. is_some (edge_at (generated number) e).when)
      (outputs (generated number) p) is_true in
      let ends = outputs_parts (generated number) p found.0 found.1 in
      subst (λ q. is_choice q ≡ true) ends.1 ((edge_there found.0 ends.0).chosen found.2)

  -- a generated graph has at most two conditions
  pub few_conditions : condition_count (generated number) ≤ 2
  few_conditions =
      let fewer = length-filter-le (is_disjunction (generated number)) is_choice
      (numbers_below (process_count (generated number))) chooses in
      let both : length (filter is_choice (numbers_below (process_count (generated number)))) ≡ 2 =
      ap (λ n. length (filter is_choice (numbers_below n))) processes_count in
      omega (arith, fewer, both)

  -- a generated edge is within the limits
  edge_within : (e : Edge) → IsGeneratedEdge e → IsEdgeWithin (process_count (generated number)) e
  edge_within e k = record {
    from = omega (arith, processes_count, k.rises, k.within);
    to = omega (arith, processes_count, k.within);
    sized = omega (arith, k.size);
    size = omega (arith, k.size);
  }

  -- a generated graph is within the limits of a graph file
  pub within_limits : IsWithinLimits (generated number)
  within_limits = record {
    faults = omega arith;
    deadline = omega arith;
    -- four nodes with a slot each, sixty processes, and few edges and conditions
    few_nodes = omega (arith, length-by node_name 4);
    few_slots = omega (arith, length-by slot_of 4);
    few_processes = omega (arith, processes_count);
    few_edges = omega (arith, edges_count);
    few_conditions = omega (arith, few_conditions);
    -- each slot, process and edge has numbers in range
    slots = all_by (IsSlotWithin 4) slot_of 4 slot_within;
    processes =
        all_by (IsProcessWithin 4) (generated_process number) 60 (λ i l. process_within (number_before number i) i);
    edges = All-weaker (Contains (generated number).edges) (IsEdgeWithin (process_count (generated number)))
        (λ e k. edge_within e (generated_edge e k)) (generated number).edges
        (All-contains_itself (generated number).edges);
    -- nodes and processes have names with different numbers
    node_names = pairs_by (λ a b. a ≢ b) node_name 4 (λ i j l m. numbered_differ 78 i j l (omega arith));
    process_names =
        pairs_by (λ p q. p.name ≢ q.name) (generated_process number) 60 (λ i j l m. numbered_differ 112 i j l m);
    own_slots = pairs_by (λ s t. s.node ≢ t.node) slot_of 4 (λ i j l m e. absurd (omega (arith, e)));
    order = tt;
  }

  -- each node of a generated graph has a slot, so each that sends has one
  pub senders_have_slots : HasSenderSlots (generated number)
  -- the producer of the item runs on one of the four nodes, each of which has a slot
  senders_have_slots x l _ =
      let made = producer_from_sources (generated number) (λ e h. (within_limits.edges e _ h).from) x l in
      let node : home (generated number) x < 4 =
      (within_limits.processes (producer (generated number) x) _ made).node in
      list_any_true (λ (s : Slot). s.node == home (generated number) x) (generated number).slots
      (slot_of (home (generated number) x))
      (Contains-map slot_of (numbers_below 4) (home (generated number) x)
      (Contains-numbers 4 (home (generated number) x) node))
      (eq-eqb (home (generated number) x) (home (generated number) x) refl)

  -- a generated graph is well-formed
  pub generated_well_formed : WellFormed (generated number)
  generated_well_formed = well_formed (generated number) within_limits senders_have_slots

-- a graph with the two faults and the deadline of all generated ones, of these parts
abbrev pub graph_of : List (List ℕ) → List Slot → List Process → List Edge → Graph
graph_of nodes slots processes edges = record {
  faults = 2;
  deadline = 1000000000;
  nodes = nodes;
  slots = slots;
  processes = processes;
  edges = edges;
  order = None;
}

-- the parts of a generated graph, put together, are within the limits
pub parts_within : (number : ℕ) (nodes : List (List ℕ)) (slots : List Slot) (processes : List Process)
    (edges : List Edge) →
    nodes ≡ (generated number).nodes → slots ≡ (generated number).slots → processes ≡ (generated number).processes →
    edges ≡ (generated number).edges →
    IsWithinLimits (graph_of nodes slots processes edges)
-- the graph of these parts is the generated one
parts_within number nodes slots processes edges n s p e =
    let same : graph_of nodes slots processes edges ≡ generated number =
    λ i. record {
      faults = 2;
      deadline = 1000000000;
      nodes = n i;
      slots = s i;
      processes = p i;
      edges = e i;
      order = None;
    } in
    subst IsWithinLimits (sym same) (within_limits number)
