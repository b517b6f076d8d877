-- Cycles: found by a walk against the edges, turned into the direction of the edges, and not there under a topological
-- order.
use Rattle.std.proofs.Common.{ℕ, zero, suc, ◌+◌, ◌-◌, ◌<◌, ◌≤◌, ◌≡◌, ◌≢◌, ◌⊎◌, inl, inr, true, false, ◌&&◌, ◌==◌}
use Rattle.std.proofs.Common.{nat_le, if◌then◌else◌, List, [], ◌∷◌, ◌++◌, length, get_or, drop, map, Contains}
use Rattle.std.proofs.Common.{arith, refl, sym, ap, ap₂, ◌∙◌, subst, length-append, length-drop, eqb-true, eq-eqb}
use Rattle.std.proofs.Common.{le-leb, subst₂}
use Rattle.std.specs.List.{AllPairs}
use Rattle.std.proofs.lemmas.Bool.{cases_lt, cases_order, and_parts, and_from, both_ways, lt-leb}
use Rattle.std.proofs.lemmas.List.{get_or-drop, get_or_append_left, get_or_default}
use Rattle.std.proofs.Math.Seq.{get_or-append_seam}
use Rattle.std.proofs.lemmas.List.FromFn.{length-map-range_with_len}
use Rattle.std.proofs.lemmas.List.Elements.{Contains-get_or, Contains-append_cases}
use Rattle.cpg_base.specs.Numbers.{numbers_below}
use Rattle.cpg_base.specs.Graph.{Graph, process_count, edge_count, edge_at, source, target, inputs}
use Rattle.cpg_base.proofs.Lists.{Contains-cases, Contains-nil, list_any_true, list_any_parts, get_or-map-below}
use Rattle.cpg_base.proofs.Pairs.{AllPairs-append, AllPairs-nil, AllPairs-cons_by}
use Rattle.cpg_base.proofs.Inputs.{inputs_parts}
use Rattle.cpg_order.specs.Urgency.{IsTopological}
use Rattle.cpg_base.specs.Order.{place}
use Rattle.cpg_order.specs.Reach.{is_in}
use Rattle.cpg_order.specs.Cycle.{has_edge, IsCycle, HasCycle}
use Rattle.cpg_order.specs.Settling.{IsCycleBack}
use Rattle.cpg_order.proofs.Acyclic.{edge_goes_up}
use Rattle.cpg_order.proofs.Along.{is_in_from}

-- ---- edges between processes

-- each edge of the graph leads from its source to its target
pub has_edge_from : (g : Graph) (e : ℕ) → e < edge_count g → has_edge g (source g e) (target g e) ≡ true
has_edge_from g e inside = list_any_true (λ f. (f.from == source g e) && (f.to == target g e)) g.edges (edge_at g e)
    (Contains-get_or g.edges e _ inside)
    (and_from (source g e == source g e) (target g e == target g e) (eq-eqb (source g e) (source g e) refl)
    (eq-eqb (target g e) (target g e) refl))

-- if e is an input of p, an edge leads from the source of e to p
pub has_edge_of_input : (g : Graph) (p e : ℕ) → Contains (inputs g p) e → has_edge g (source g e) p ≡ true
has_edge_of_input g p e is_input = let parts = inputs_parts g p e is_input in
    subst (λ q. has_edge g (source g e) q ≡ true) parts.1 (has_edge_from g e parts.0)

-- ---- a topological order leaves no cycle

-- given: a topological order of a graph
module _ (g : Graph) (order : List ℕ) (topological : IsTopological g order) where
  -- an edge from p to q is in the list of edges, so p comes before q in a topological order
  has_edge_goes_up : (p q : ℕ) → has_edge g p q ≡ true → place order p < place order q
  has_edge_goes_up p q found =
      let edge = list_any_parts (λ f. (f.from == p) && (f.to == q)) g.edges found in
      let ends = and_parts (edge.0.from == p) (edge.0.to == q) edge.2 in
      let number = edge.1.0 in
      let same : edge_at g number ≡ edge.0 = get_or_default g.edges number _ edge.0 edge.1.1 ∙ edge.1.2 in
      let from : source g number ≡ p = ap (λ f. f.from) same ∙ eqb-true edge.0.from p ends.0 in
      let to : target g number ≡ q = ap (λ f. f.to) same ∙ eqb-true edge.0.to q ends.1 in
      subst (λ x. place order x < place order q) from
      (subst (λ x. place order (source g number) < place order x) to (edge_goes_up g order topological number edge.1.1))

  -- along a cycle no place is below that of its first process
  places_grow : (walk : List ℕ) → IsCycle g walk → (k : ℕ) → k < length walk →
      place order (get_or walk 0 0) ≤ place order (get_or walk k 0)
  places_grow walk is zero inside = omega arith
  places_grow walk is (suc k) inside =
      let up = has_edge_goes_up (get_or walk k 0) (get_or walk (k + 1) 0) (is.next k (omega arith)) in
      let at : get_or walk (k + 1) 0 ≡ get_or walk (suc k) 0 =
      ap (λ i. get_or walk i 0) (let same : k + 1 ≡ suc k = omega arith in same) in
      omega (arith, places_grow walk is k (omega arith), ap (place order) at)

  -- a graph with a topological order has no cycle
  pub no_cycle : HasCycle g → ⊥
  no_cycle (walk, is) =
      let round_up = has_edge_goes_up (get_or walk (length walk - 1) 0) (get_or walk 0 0) is.back in
      let some = is.some in
      omega (arith, places_grow walk is (length walk - 1) (omega arith))

-- ---- a walk against the edges

-- different processes of the graph, each with an edge from the next, and the last with one from the process that comes
-- next
pub record IsWalkBack (g : Graph) (walk : List ℕ) (process : ℕ) : Type 0 where
  -- no process is in the walk twice
  pub apart : AllPairs (λ p q. p ≢ q) walk
  -- each is one of the graph
  pub below : (p : ℕ) → Contains walk p → p < process_count g
  -- each has an edge from the next
  pub next : (k : ℕ) → k + 1 < length walk → has_edge g (get_or walk (k + 1) 0) (get_or walk k 0) ≡ true
  -- the last has an edge from the process that comes next
  pub last : 0 < length walk → has_edge g process (get_or walk (length walk - 1) 0) ≡ true

module _ (g : Graph) where
  -- the empty walk is a walk back, with any process to come next
  pub walk_none : (process : ℕ) → IsWalkBack g [] process
  walk_none process = record {
    apart = AllPairs-nil (λ p q. p ≢ q);
    below = λ p nothing. absurd (Contains-nil p nothing);
    next = λ k inside. absurd (omega arith);
    last = λ inside. absurd (omega arith);
  }

  -- given: a walk back, and the process that comes next
  module _ (walk : List ℕ) (process : ℕ) (is : IsWalkBack g walk process) where
    -- the walk keeps its processes when one is added
    grown : (k : ℕ) → k < length walk → get_or (walk ++ process ∷ []) k 0 ≡ get_or walk k 0
    grown k inside = get_or_append_left walk (process ∷ []) 0 k inside

    -- the walk with one process more is one longer
    longer : length (walk ++ process ∷ []) ≡ length walk + 1
    longer = length-append walk (process ∷ [])

    -- the last of the walk with one process more is that process
    end_is : get_or (walk ++ process ∷ []) (length walk) 0 ≡ process
    end_is = get_or-append_seam walk process [] 0

    -- With one more process at its end, the walk still has an edge to each process from the next.
    -- k is a place before the last one, as in the walk before, or the last, where the new process has the edge.
    next_more : (k : ℕ) → k + 1 < length walk + 1 →
        has_edge g (get_or (walk ++ process ∷ []) (k + 1) 0) (get_or (walk ++ process ∷ []) k 0) ≡ true
    next_more k inside = elim (cases_lt (k + 1) (length walk)) [
      | inl before_last ↦ ap₂ (has_edge g) (grown (k + 1) before_last) (grown k (omega arith)) ∙ is.next k before_last
      | inr at_last ↦
          let next_last : k + 1 ≡ length walk = omega arith in
          let is_last : k ≡ length walk - 1 = omega arith in
          ap₂ (has_edge g) (ap (λ i. get_or (walk ++ process ∷ []) i 0) next_last ∙ end_is)
          (grown k (omega arith) ∙ ap (λ i. get_or walk i 0) is_last) ∙ is.last (omega arith)
    ]

    -- A process that is not in the walk back is added to it, and a process with an edge to it comes next.
    -- The new process differs from all others, since it isn't among them.
    pub walk_more : (next : ℕ) → process < process_count g → is_in walk process ≡ false →
        has_edge g next process ≡ true →
        IsWalkBack g (walk ++ process ∷ []) next
    walk_more next inside fresh edge = record {
      apart = AllPairs-append (λ p q. p ≢ q) walk (process ∷ []) is.apart
          (AllPairs-cons_by (λ p q. p ≢ q) process []
          (λ y nothing. absurd (Contains-nil y nothing)) (AllPairs-nil (λ p q. p ≢ q)))
          (λ p q in_walk in_last equal. elim (Contains-cases process [] q in_last) [
            | inl is_process ↦
                both_ways (is_in walk process) fresh
                (is_in_from walk process (subst (Contains walk) (equal ∙ sym is_process) in_walk))
            | inr nothing ↦ Contains-nil q nothing
          ]);
      below = λ p listed. elim (Contains-append_cases walk (process ∷ []) p listed) [
        | inl in_walk ↦ is.below p in_walk
        | inr in_last ↦ elim (Contains-cases process [] p in_last) [
          | inl is_process ↦ subst (λ q. q < process_count g) is_process inside
          | inr nothing ↦ absurd (Contains-nil p nothing)
        ]
      ];
      next = λ k within. next_more k (subst (λ n. k + 1 < n) longer within);
      last = λ within. subst (λ n. has_edge g next (get_or (walk ++ process ∷ []) (n - 1) 0) ≡ true) (sym longer)
          (let same : length walk + 1 - 1 ≡ length walk = omega arith in
          ap (λ i. has_edge g next (get_or (walk ++ process ∷ []) i 0)) same ∙ ap (has_edge g next) end_is ∙ edge);
    }

    -- If the walk back meets itself, the walk from that place on is a cycle.
    -- Each field is that of the walk, `from` places further on; the last process has an edge from the one at `from`.
    pub walk_meets : (from : ℕ) → from < length walk → get_or walk from 0 ≡ process → IsCycleBack g (drop from walk)
    walk_meets from inside at =
        let long = length-drop from walk in
        record {
          some = omega arith;
          apart = λ i j d i_before_j j_inside equal. is.apart (from + i) (from + j) d (omega arith) (omega arith)
              (sym (get_or-drop from walk i d) ∙ equal ∙ get_or-drop from walk j d);
          next = λ k within.
              ap₂ (has_edge g) (get_or-drop from walk (k + 1) 0 ∙ ap (λ i. get_or walk i 0)
              (let same : from + (k + 1) ≡ from + k + 1 = omega arith in same)) (get_or-drop from walk k 0) ∙
              is.next (from + k) (omega arith);
          last =
              ap₂ (has_edge g) (get_or-drop from walk 0 0
              ∙ ap (λ i. get_or walk i 0) (let same : from + 0 ≡ from = omega arith in same) ∙ at)
              (get_or-drop from walk (length (drop from walk) - 1) 0 ∙ ap (λ i. get_or walk i 0)
              (let same : from + (length (drop from walk) - 1) ≡ length walk - 1 = omega arith in same))
              ∙ is.last (omega arith);
        }

-- ---- the same the other way around, from a given place on

-- the place of the k-th of n processes, going down from the place m and around
abbrev pub place_down : ℕ → ℕ → ℕ → ℕ
place_down m n k = if nat_le k m then m - k else m + n - k

-- going down a circle from m by k steps: no further than its start
down_before : (m n k : ℕ) → k ≤ m → place_down m n k ≡ m - k
down_before m n k not_past = ap (λ b. if b then m - k else m + n - k) (le-leb k m not_past)

-- going down a circle from m by more than m steps: on from its end
down_after : (m n k : ℕ) → m < k → place_down m n k ≡ m + n - k
down_after m n k past = ap (λ b. if b then m - k else m + n - k) (lt-leb k m past)

-- going down and around stays among the n places
pub down_within : (m n k : ℕ) → m < n → k < n → place_down m n k < n
down_within m n k m_inside k_inside =
    elim (cases_lt m k) [
      | inl past ↦ omega (arith, down_after m n k past)
      | inr not_past ↦ omega (arith, down_before m n k not_past)
    ]

-- Going down and around takes no place twice in n steps.
-- By whether the steps i and j are before the turn around or after it.
pub down_apart : (m n i j : ℕ) → m < n → i < j → j < n → place_down m n i ≢ place_down m n j
down_apart m n i j m_inside i_before_j j_inside equal = elim (cases_lt m i) [
  | inl i_past ↦ omega (arith, down_after m n i i_past, down_after m n j (omega arith))
  | inr i_not_past ↦ elim (cases_lt m j) [
    | inl j_past ↦ omega (arith, down_before m n i i_not_past, down_after m n j j_past)
    | inr j_not_past ↦ omega (arith, down_before m n i i_not_past, down_before m n j j_not_past)
  ]
]

-- The next place is one further down, or the highest after the lowest.
-- By whether step k comes just before the turn around, before that, or after it.
pub down_next : (m n k : ℕ) → m < n → k < n →
    ((place_down m n k ≡ 0) × (place_down m n (k + 1) ≡ n - 1)) ⊎
    ((0 < place_down m n k) × (place_down m n (k + 1) + 1 ≡ place_down m n k))
down_next m n k m_inside k_inside = elim (cases_order k m) [
  | inl just_before ↦ inl (
    omega (arith, down_before m n k (omega arith)),
    omega
        (arith, down_after m n (k + 1) (omega arith)),
  )
  | inr (inl not_past) ↦ inr (
    omega (arith, down_before m n k (omega arith)),
    omega (arith, down_before m n k (omega arith), down_before m n (k + 1) (omega arith)),
  )
  | inr (inr past) ↦
      inr (
        omega (arith, down_after m n k past),
        omega
            (arith, down_after m n k past, down_after m n (k + 1) (omega arith)),
      )
]

-- going down begins at the place m
pub down_first : (m n : ℕ) → place_down m n 0 ≡ m
down_first m n = omega (arith, down_before m n 0 (omega arith))

-- going down n steps comes back to the place m
pub down_around : (m n : ℕ) → m < n → place_down m n n ≡ m
down_around m n m_inside = omega (arith, down_after m n n m_inside)

-- given a cycle against the edges, and a place in it
module _ (g : Graph) (back : List ℕ) (is : IsCycleBack g back) (m : ℕ) (inside : m < length back) where
  -- each step down and around goes along an edge
  edge_down : (k : ℕ) → k < length back →
      has_edge g (get_or back (place_down m (length back) k) 0) (get_or back (place_down m (length back) (k + 1)) 0)
      ≡ true
  edge_down k within = elim (down_next m (length back) k inside within) [
    | inl (is_first, next_last) ↦ ap₂ (has_edge g) (ap (λ i. get_or back i 0) is_first)
        (ap (λ i. get_or back i 0) next_last) ∙ is.last
    | inr (not_first, next_down) ↦ ap
        (λ i. has_edge g (get_or back i 0) (get_or back (place_down m (length back) (k + 1)) 0)) (sym next_down)
        ∙ is.next (place_down m (length back) (k + 1)) (omega (arith, down_within m (length back) k inside within))
  ]

  -- Going down and around meets no process twice.
  -- The two places differ, so one is before the other, and a cycle has different processes at them.
  down_elements_apart : (i j : ℕ) → i < j → j < length back →
      get_or back (place_down m (length back) i) 0 ≢ get_or back (place_down m (length back) j) 0
  down_elements_apart i j i_before_j j_within equal =
      let i_place = down_within m (length back) i inside (omega arith) in
      let j_place = down_within m (length back) j inside j_within in
      elim (cases_order (place_down m (length back) i) (place_down m (length back) j)) [
        | inl same_place ↦ down_apart m (length back) i j inside i_before_j j_within same_place
        | inr (inl lower) ↦ is.apart (place_down m (length back) i) (place_down m (length back) j) 0 lower j_place equal
        | inr (inr lower) ↦ is.apart (place_down m (length back) j) (place_down m (length back) i) 0 lower i_place
            (sym equal)
      ]

  -- A cycle against the edges, read backwards from its least process on, is a cycle of the graph.
  -- Each step down is one edge forward; the step around the end is the edge that closes the cycle.
  pub cycle_from_back : (walk : List ℕ) →
      walk ≡ map (λ k. get_or back (place_down m (length back) k) 0) (numbers_below (length back))
      → ((k : ℕ) → k < length back → get_or back m 0 ≤ get_or back k 0) → IsCycle g walk
  cycle_from_back walk same lowest =
      let down : ℕ → ℕ = λ k. get_or back (place_down m (length back) k) 0 in
      let long : length walk ≡ length back = ap length same ∙ length-map-range_with_len down 0 (length back) in
      let at : (k d : ℕ) → k < length back → get_or walk k d ≡ down k =
      λ k d within. ap (λ w. get_or w k d) same ∙ get_or-map-below down (length back) k d within in
      let first : get_or walk 0 0 ≡ get_or back m 0 =
      at 0 0 is.some ∙ ap (λ i. get_or back i 0) (down_first m (length back)) in
      let end : length back - 1 + 1 ≡ length back = (let some = is.some in omega arith) in
      record {
        some = subst (λ n. 0 < n) (sym long) is.some;
        apart = λ i j d i_before_j j_within equal.
            down_elements_apart i j i_before_j (omega arith)
            (sym (at i d (omega arith)) ∙ equal ∙ at j d (omega arith));
        least = λ k within. subst₂ (λ x y. x ≤ y) (sym first) (sym (at k 0 (omega arith)))
            (lowest (place_down m (length back) k) (down_within m (length back) k inside (omega arith)));
        next = λ k within. ap₂ (has_edge g) (at k 0 (omega arith)) (at (k + 1) 0 (omega arith))
            ∙ edge_down k (omega arith);
        back =
            ap₂ (has_edge g) (ap (λ n. get_or walk (n - 1) 0) long ∙ at (length back - 1) 0 (omega (arith, is.some)))
            (first ∙ ap (λ i. get_or back i 0)
            (sym (ap (place_down m (length back)) end ∙ down_around m (length back) inside)))
            ∙ edge_down (length back - 1) (omega (arith, is.some));
      }
