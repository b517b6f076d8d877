-- What is made and carried on at one place of the order: item by item of a process's queue, and then for all nodes.
use Rattle.std.proofs.Common.{◌≡◌, ◌≢◌, ◌∙◌, ℕ, ◌+◌, ◌<◌, ◌≤◌, ◌⊎◌, true, false, ◌&&◌, ◌==◌, ltb, List, [], ◌∷◌, ◌++◌}
use Rattle.std.proofs.Common.{length, get_or, set, take, filter, flat_map, Contains, Option, arith, refl, sym}
use Rattle.std.proofs.Common.{ap, inl, inr, subst, append_assoc, eq-eqb, eqb-true, ne_eqb, lt-ltb, ltb-true}
use Rattle.std.proofs.Common.{get_or-set_same, get_or-set_other, length-set}
use Rattle.std.proofs.lemmas.Bool.{cases_eq, cases_lt, cases_Bool, cond-true, cond-false, both_ways, and_parts}
use Rattle.std.proofs.lemmas.Bool.{and_from, or_cases, or_left, or_right}
use Rattle.std.proofs.lemmas.List.{append-nil, take_more, take_all}
use Rattle.std.proofs.lemmas.List.Elements.{Contains-append_left, Contains-append_right, Contains-append_cases}
use Rattle.std.proofs.lemmas.List.Elements.{Contains-get_or, filter-append}
use Rattle.cpg_base.specs.Numbers.{numbers_below}
use Rattle.cpg_base.specs.Graph.{Graph, process_count, item_count, node_of, home, is_sent, producer, producer_of_item}
use Rattle.cpg_base.specs.Graph.{process_at}
use Rattle.cpg_base.proofs.Items.{item_cases, item_at-start}
use Rattle.cpg_base.proofs.Lists.{Contains-nil, Contains-first, Contains-filter, Contains-filter_parts}
use Rattle.cpg_base.proofs.Lists.{Contains-numbers, numbers-Contains}
use Rattle.cpg_order.specs.Queue.{is_queued_before, queued_before}
use Rattle.cpg_base.specs.Scenario.{Scenario}
use Rattle.cpg_order.specs.Urgency.{IsTopological}
use Rattle.cpg_base.specs.Order.{place, comes_before, before_on_node}
use Rattle.cpg_order.proofs.Moments.{producer_in_range}
use Rattle.cpg_base.proofs.Places.{from_before, places_from_comes_before, comes_before_from_places, Contains-order}
use Rattle.cpg_base.proofs.Places.{get_or-place, same_place, place-lt}
use Rattle.cpg_cube.specs.declared.literal.Literal.{Literal}
use Rattle.cpg_table.specs.Table.{Row}
use Rattle.cpg_cube.specs.declared.column.Column.{Column}
use Rattle.cpg_bus.specs.Plan.{queue_of}
use Rattle.cpg_bus.proofs.Queued.{rank_at, in_queue, queue-Contains, queue_rises, below_first, in_first}
use Rattle.cpg_run.specs.Carried.{row_at, decided, heard, received, passed, queued, number_known, carried_at_end}
use Rattle.cpg_list.specs.Made.{AreCubesOf, AreEndsOf, AreCarried, AreMade, IsBefore, IsStarted, IsSent, passed_by}
use Rattle.cpg_list.specs.Made.{queued_by, node_before, sent_before}
use Rattle.cpg_run.specs.Found.{columns_of_rows}
use Rattle.cpg_run.specs.RowLaws.{SameRowsBefore}
use Rattle.cpg_run.specs.Rows.{IsCubeOf, IsRowOf}
use Rattle.cpg_list.proofs.CodeCubes.{same_literals}
use Rattle.cpg_list.proofs.CodeMade.{unsent_row}
use Rattle.cpg_list.proofs.CodeSame.{passed_cubes, queued_cubes}
use Rattle.cpg_list.proofs.CodeStarts.{passed_active, received_plain, flat_map_push}
use Rattle.cpg_list.proofs.CodeTold.{within_flat_map}
use Rattle.cpg_run.proofs.SameInRows.{only_one}
use Rattle.cpg_run.proofs.Sends.{Contains-take}

-- given: an item y, a node and a place i
module _ (g : Graph) (order : List ℕ) (node i y : ℕ) where
  -- the item is one of the graph, is sent by the node, and comes from a process before the place i
  record Stands : Type 0 where
    -- the item is one of the graph
    within : Contains (numbers_below (item_count g)) y
    -- it is sent, and by the node
    sent : is_sent g y ≡ true
    at : home g y ≡ node
    -- its process comes before the place
    early : place order (producer g y) < i

  -- this holds of each item of the list `sent_before`
  stands : Contains (sent_before g order node i) y → Stands
  stands there =
      let kept = Contains-filter_parts (λ y. is_sent g y && (home g y == node) && ltb (place order (producer g y)) i)
      (numbers_below (item_count g)) y there in
      let parts = and_parts (is_sent g y && (home g y == node)) _ kept.1 in
      let sent_by_node = and_parts (is_sent g y) _ parts.0 in
      record { within = kept.0; sent = sent_by_node.0; at = eqb-true _ _ sent_by_node.1; early = ltb-true _ _ parts.1 }

  -- each item of which `Stands` holds is in the list
  stood : Stands → Contains (sent_before g order node i) y
  stood h = Contains-filter (λ y. is_sent g y && (home g y == node) && ltb (place order (producer g y)) i)
      (numbers_below (item_count g)) y
      (and_from _ _ (and_from _ _ h.sent (eq-eqb _ _ h.at)) (lt-ltb _ _ h.early)) h.within

-- ---- lists of items and processes with the same elements

-- given: cubes of what some items leave to their queue
module _ (k : ℕ) (g : Graph) (order : List ℕ) (rows : List (List Column)) (scenarios : List Scenario)
    (cubes : List (List Literal)) where
  -- cubes of what some items leave are cubes of what others leave, if both lists have the same items, in any order
  pub queued_members : (xs ys : List ℕ) → ((y : ℕ) → Contains xs y → Contains ys y) →
      ((y : ℕ) → Contains ys y → Contains xs y) →
      AreCubesOf k scenarios (queued_by g order rows xs) cubes →
      AreCubesOf k scenarios (queued_by g order rows ys) cubes
  queued_members xs ys to from are = record {
    count = are.count;
    each = λ i d l. let literals = queued g order rows (get_or scenarios i d) in
        same_literals k (flat_map literals xs) (flat_map literals ys) (get_or cubes i [])
        (within_flat_map xs ys to literals)
        (within_flat_map ys xs from literals) (are.each i d l);
  }

-- given: a process of the graph
module _ (g : Graph) (order : List ℕ) (topological : IsTopological g order) (p : ℕ) (within : p < process_count g) where
  -- the process p is in the order
  in_order : Contains order p
  in_order = Contains-order (process_count g) order topological.all p within

  -- the producer of each item is in the order
  produced : (y : ℕ) → Contains (numbers_below (item_count g)) y → Contains order (producer g y)
  produced y there = Contains-order (process_count g) order topological.all (producer g y)
      (producer_in_range g order topological y (numbers-Contains (item_count g) y there))

  -- the start of p comes from the place of p
  pub start_by : place order (producer g p) ≡ place order p
  start_by = ap (λ i. place order (producer_of_item g i)) (item_at-start g p within)

  -- ---- the items before the m-th of those that a process sends

  -- given: a place in the list of what the process sends
  module _ (m : ℕ) (inside : m < length (queue_of g p)) where
    -- the m-th item that the process sends
    abbrev nth : ℕ
    nth = get_or (queue_of g p) m 0

    -- the m-th item is in the queue of the process
    pub nth_queued : Contains (queue_of g p) nth
    nth_queued = Contains-get_or (queue_of g p) m 0 inside

    -- its producer is the process
    nth_by : producer g nth ≡ p
    nth_by = (in_queue g p nth nth_queued).by

    -- its producer is at the place of the process
    pub nth_place : place order (producer g nth) ≡ place order p
    nth_place = ap (place order) nth_by

    -- Each item before it in the node's queue comes from an earlier process or is one of the first m of p: the queue is by the
    -- places of producers, and for one producer by rank.
    pub before_to : (y : ℕ) → Contains (queued_before g order nth) y →
        Contains (sent_before g order (node_of g p) (place order p) ++ take m (queue_of g p)) y
    before_to y queued =
        let kept = Contains-filter_parts (λ y. is_queued_before g order y nth)
        (numbers_below (item_count g)) y queued in
        let parts = and_parts (is_sent g y && (home g y == home g nth)) _ kept.1 in
        let sent_by_node = and_parts (is_sent g y) _ parts.0 in
        let at : home g y ≡ node_of g p = eqb-true _ _ sent_by_node.1 ∙ ap (node_of g) nth_by in
        elim (or_cases (comes_before order (producer g y) (producer g nth)) _ parts.1) [
          -- its producer comes before p, so it is sent before p's place
          | inl before_p ↦ Contains-append_left (sent_before g order (node_of g p) (place order p))
              (take m (queue_of g p)) y
              (stood g order (node_of g p) (place order p) y (record {
                within = kept.0;
                sent = sent_by_node.0;
                at = at;
                early = omega (
                  arith,
                  places_from_comes_before order (producer g y) (producer g nth) before_p,
                  ap (place order) nth_by,
                );
              }))
          -- p is its producer, and its rank is below that of the m-th item
          | inr by_p ↦
              let same_and_less = and_parts (producer g y == producer g nth) _ by_p in
              let same : producer g y ≡ p = eqb-true _ _ same_and_less.0 ∙ nth_by in
              Contains-append_right (sent_before g order (node_of g p) (place order p)) (take m (queue_of g p)) y
              (in_first (rank_at g) (queue_of g p) (queue_rises g p) m inside y
              (queue-Contains g p y (numbers-Contains (item_count g) y kept.0) sent_by_node.0 same)
              (ltb-true _ _ same_and_less.1))
        ]

    -- the items of earlier processes of the node and the first m of p are before the m-th item
    pub before_from : (y : ℕ) →
        Contains (sent_before g order (node_of g p) (place order p) ++ take m (queue_of g p)) y →
        Contains (queued_before g order nth) y
    before_from y there =
        elim (Contains-append_cases (sent_before g order (node_of g p) (place order p))
        (take m (queue_of g p)) y there) [
          | inl of_earlier ↦
              let item_stands = stands g order (node_of g p) (place order p) y of_earlier in
              Contains-filter (λ y. is_queued_before g order y nth) (numbers_below (item_count g)) y
              (and_from _ _ (and_from _ _ item_stands.sent (eq-eqb _ _ (item_stands.at ∙ ap (node_of g) (sym nth_by))))
              (or_left _ _ (comes_before_from_places order (producer g y) (producer g nth)
              (produced y item_stands.within)
              (omega (arith, item_stands.early, ap (place order) nth_by))))) item_stands.within
          | inr in_first ↦
              let own_item = in_queue g p y (Contains-take m (queue_of g p) y in_first) in
              Contains-filter (λ y. is_queued_before g order y nth) (numbers_below (item_count g)) y
              (and_from _ _ (and_from _ _ own_item.sent (eq-eqb _ _ (ap (node_of g) (own_item.by ∙ sym nth_by))))
              (or_right _ _ (and_from _ _ (eq-eqb _ _ (own_item.by ∙ sym nth_by))
              (lt-ltb _ _ (below_first (rank_at g) (queue_of g p) (queue_rises g p) m inside y in_first)))))
              (Contains-numbers (item_count g) y own_item.within)
        ]

    -- each item before the m-th, and the m-th itself, comes from an earlier process or is one of the first m + 1 of p
    pub next_to : (y : ℕ) → Contains (queued_before g order nth ++ nth ∷ []) y →
        Contains (sent_before g order (node_of g p) (place order p) ++ take (m + 1) (queue_of g p)) y
    next_to y there = subst (λ ys. Contains (sent_before g order (node_of g p) (place order p) ++ ys) y)
        (sym (take_more (queue_of g p) m 0 inside))
        (subst (λ ys. Contains ys y)
        (append_assoc (sent_before g order (node_of g p) (place order p)) (take m (queue_of g p)) (nth ∷ []))
        (elim (Contains-append_cases (queued_before g order nth) (nth ∷ []) y there) [
          | inl among ↦ Contains-append_left (sent_before g order (node_of g p) (place order p)
              ++ take m (queue_of g p))
              (nth ∷ []) y (before_to y among)
          | inr among ↦ Contains-append_right (sent_before g order (node_of g p) (place order p)
              ++ take m (queue_of g p))
              (nth ∷ []) y among
        ]))

    -- each of the items of earlier processes of the node and the first m + 1 of p is before the m-th item, or is that item
    pub next_from : (y : ℕ) →
        Contains (sent_before g order (node_of g p) (place order p) ++ take (m + 1) (queue_of g p)) y →
        Contains (queued_before g order nth ++ nth ∷ []) y
    next_from y there =
        let in_parts = subst (λ ys. Contains ys y)
        (sym (append_assoc (sent_before g order (node_of g p) (place order p)) (take m (queue_of g p)) (nth ∷ [])))
        (subst (λ ys. Contains (sent_before g order (node_of g p) (place order p) ++ ys) y)
        (take_more (queue_of g p) m 0 inside) there) in
        elim (Contains-append_cases (sent_before g order (node_of g p) (place order p) ++ take m (queue_of g p))
        (nth ∷ []) y in_parts) [
          | inl before ↦ Contains-append_left (queued_before g order nth) (nth ∷ []) y (before_from y before)
          | inr here ↦ Contains-append_right (queued_before g order nth) (nth ∷ []) y here
        ]

    -- ---- the m-th item isn't made yet, and no item that is made comes from a later process

    -- the m-th item is one of the graph
    pub nth_within : nth < item_count g
    nth_within = (in_queue g p nth nth_queued).within

    -- an item from an earlier process has been made
    pub nth_earlier : (y : ℕ) → place order (producer g y) < place order (producer g nth) → IsSent g order p m y
    nth_earlier y h = inl (inl (omega (arith, h, ap (place order) nth_by)))

    -- no item from an earlier process, and no start of p, is from a later place than p
    started_late : (y : ℕ) → IsStarted g order p y → place order (producer g y) ≤ place order p
    started_late y (inl h) = omega (arith, h)
    started_late y (inr e) = omega (arith, ap (λ z. place order (producer g z)) e, start_by)

    -- no item that has been made is from a later process
    pub nth_late : (y : ℕ) → IsSent g order p m y → place order (producer g y) ≤ place order (producer g nth)
    nth_late y (inl h) = omega (arith, started_late y h, ap (place order) nth_by)
    nth_late y (inr c) = omega
        (arith, ap (place order) ((in_queue g p y (Contains-take m (queue_of g p) y c)).by), ap (place order) nth_by)

    -- the m-th item hasn't been made: it is from p, no start, and not among the first m of the queue
    pub nth_new : IsSent g order p m nth → ⊥
    nth_new (inl (inl h)) = omega (arith, h, ap (place order) nth_by)
    nth_new (inl (inr e)) = omega (arith, e, within, (in_queue g p nth nth_queued).above)
    nth_new (inr c) = omega (arith, below_first (rank_at g) (queue_of g p) (queue_rises g p) m inside nth c)

    -- what was made so far, and the m-th item, are among what is made with the first m + 1 items
    pub sent_next : (y : ℕ) → IsSent g order p m y ⊎ (y ≡ nth) → IsSent g order p (m + 1) y
    sent_next y (inl (inl h)) = inl h
    sent_next y (inl (inr there)) = inr (subst (λ ys. Contains ys y) (sym (take_more (queue_of g p) m 0 inside))
        (Contains-append_left (take m (queue_of g p)) (nth ∷ []) y there))
    sent_next y (inr e) = inr (subst (λ ys. Contains ys y) (sym (take_more (queue_of g p) m 0 inside))
        (Contains-append_right (take m (queue_of g p)) (nth ∷ []) y
        (subst (Contains (nth ∷ [])) (sym e) (Contains-first nth []))))

    -- what is made with the first m + 1 items was made before, or is the m-th
    pub sent_back : (y : ℕ) → IsSent g order p (m + 1) y → IsSent g order p m y ⊎ (y ≡ nth)
    sent_back y (inl h) = inl (inl h)
    sent_back y (inr c) = elim (Contains-append_cases (take m (queue_of g p)) (nth ∷ []) y
        (subst (λ ys. Contains ys y) (take_more (queue_of g p) m 0 inside) c)) [
          | inl i ↦ inl (inr i)
          | inr i ↦ inr (sym (only_one nth y i))
        ]

  -- ---- before the first item of the queue, and after the last

  -- before the first item of the process, the earlier ones and its start have been made
  pub sent_first : (y : ℕ) → IsSent g order p 0 y → IsStarted g order p y
  sent_first y (inl h) = h
  sent_first y (inr there) = absurd (Contains-nil y there)

  -- the items that the node sends for earlier processes, and all of p's queue, are among those it sends before the next place
  pub all_to : (y : ℕ) → Contains (sent_before g order (node_of g p) (place order p) ++ queue_of g p) y →
      Contains (sent_before g order (node_of g p) (place order p + 1)) y
  all_to y there = elim (Contains-append_cases (sent_before g order (node_of g p) (place order p))
      (queue_of g p) y there) [
        | inl of_earlier ↦ let item_stands = stands g order (node_of g p) (place order p) y of_earlier in
            stood g order (node_of g p) (place order p + 1) y
            (record {
              within = item_stands.within;
              sent = item_stands.sent;
              at = item_stands.at;
              early = omega (arith, item_stands.early);
            })
        | inr of_p ↦ let own_item = in_queue g p y of_p in
            stood g order (node_of g p) (place order p + 1) y
            (record {
              within = Contains-numbers (item_count g) y own_item.within;
              sent = own_item.sent;
              at = ap (node_of g) own_item.by;
              early = omega (arith, ap (place order) own_item.by);
            })
      ]

  -- what comes from a place before the next comes from an earlier process or from p
  by_place : (y : ℕ) → Contains (numbers_below (item_count g)) y → place order (producer g y) < place order p + 1 →
      (place order (producer g y) < place order p) ⊎ (producer g y ≡ p)
  by_place y there h = elim (cases_lt (place order (producer g y)) (place order p)) [
    | inl k ↦ inl k
    | inr k ↦ inr (same_place order (producer g y) p (produced y there) in_order (omega (arith, h, k)))
  ]

  -- what the node sends before the next place is what it sends for earlier processes, or is in p's queue
  pub all_from : (y : ℕ) → Contains (sent_before g order (node_of g p) (place order p + 1)) y →
      Contains (sent_before g order (node_of g p) (place order p) ++ queue_of g p) y
  all_from y there = let item_stands = stands g order (node_of g p) (place order p + 1) y there in
      elim (by_place y item_stands.within item_stands.early) [
        | inl earlier ↦ Contains-append_left (sent_before g order (node_of g p) (place order p)) (queue_of g p) y
            (stood g order (node_of g p) (place order p) y
            (record { within = item_stands.within; sent = item_stands.sent; at = item_stands.at; early = earlier }))
        | inr by_p ↦ Contains-append_right (sent_before g order (node_of g p) (place order p)) (queue_of g p) y
            (queue-Contains g p y (numbers-Contains (item_count g) y item_stands.within) item_stands.sent by_p)
      ]

  -- what another node sends before the place of p it sends before the next place too
  pub other_to : (node : ℕ) (y : ℕ) → Contains (sent_before g order node (place order p)) y →
      Contains (sent_before g order node (place order p + 1)) y
  other_to node y there = let item_stands = stands g order node (place order p) y there in
      stood g order node (place order p + 1) y
      (record {
        within = item_stands.within;
        sent = item_stands.sent;
        at = item_stands.at;
        early = omega (arith, item_stands.early);
      })

  -- another node sends no more before the next place than before the place of p, as p sends on its own node alone
  pub other_from : (node : ℕ) → node ≢ node_of g p → (y : ℕ) →
      Contains (sent_before g order node (place order p + 1)) y →
      Contains (sent_before g order node (place order p)) y
  other_from node elsewhere y there = let item_stands = stands g order node (place order p + 1) y there in
      elim (by_place y item_stands.within item_stands.early) [
        | inl earlier ↦ stood g order node (place order p) y
            (record { within = item_stands.within; sent = item_stands.sent; at = item_stands.at; early = earlier })
        | inr by_p ↦ absurd (elsewhere (sym item_stands.at ∙ ap (node_of g) by_p))
      ]

  -- ---- once the queue of p is made, all before the next place is

  -- Once all items of p are made, all items before the next place are. Such an item comes from an earlier process, or from p;
  -- then it is the start of p, or is in its queue, or isn't sent and has no column.
  pub made_next : (urgency : List ℕ) (frozen : List (Option ℕ)) (rows : List Row) →
      AreMade g urgency order frozen (IsSent g order p (length (queue_of g p))) rows →
      AreMade g urgency order frozen (IsBefore g order (place order p + 1)) rows
  made_next urgency frozen rows are = record {
    items = are.items;
    each = λ x inside h. elim (by_place x (Contains-numbers (item_count g) x inside) h) [
      | inl k ↦ are.each x inside (inl (inl k))
      | inr is ↦ elim (item_cases g x inside) [
        | inl c ↦ are.each x inside (inl (inr (sym (ap (producer_of_item g) c.1) ∙ is)))
        | inr (inl c) ↦ of_sent x inside is (omega (arith, c.2)) (are.each x inside) (are.none x)
        | inr (inr c) ↦ of_sent x inside is (omega (arith, c.2)) (are.each x inside) (are.none x)
      ]
    ];
    none = λ x other. are.none x (λ h. other (below x h));
  }
    where
      -- what is made comes from a process before the next place
      below : (x : ℕ) → IsSent g order p (length (queue_of g p)) x → place order (producer g x) < place order p + 1
      below x (inl (inl h)) = omega (arith, h)
      below x (inl (inr e)) = omega (arith, ap (λ z. place order (producer g z)) e, start_by)
      below x (inr c) = omega (
        arith,
        ap (place order) ((in_queue g p x (Contains-take (length (queue_of g p)) (queue_of g p) x c)).by),
      )

      -- An item of the process other than its start: if it is sent, it is in the queue, so it has been made. If it is
      -- not sent, its row is empty, as it should be.
      of_sent : (x : ℕ) (below : x < item_count g) → producer g x ≡ p → process_count g ≤ x →
          (IsSent g order p (length (queue_of g p)) x → IsRowOf g urgency order frozen (columns_of_rows rows) x)
          → ((IsSent g order p (length (queue_of g p)) x → ⊥) → row_at (columns_of_rows rows) x ≡ []) →
          IsRowOf g urgency order frozen (columns_of_rows rows) x
      of_sent x inside same above is none = elim (cases_Bool (is_sent g x)) [
        | inl on ↦ is (inr (subst (λ ys. Contains ys x)
            (sym (take_all (length (queue_of g p)) (queue_of g p) (omega arith)))
            (queue-Contains g p x inside on same)))
        | inr off ↦ unsent_row g urgency order frozen (columns_of_rows rows) x inside above off
            (none (λ h. not_sent off h))
      ]
        where
          -- an item that isn't sent is not among those that have been made
          not_sent : is_sent g x ≡ false → IsSent g order p (length (queue_of g p)) x → ⊥
          not_sent off (inl (inl h)) = omega (arith, h, ap (place order) same)
          not_sent off (inl (inr alike)) = omega (arith, alike, within, above)
          not_sent off (inr c) = both_ways (is_sent g x) off
              ((in_queue g p x (Contains-take (length (queue_of g p)) (queue_of g p) x c)).sent)

  -- ---- the processes of a node

  -- the processes up to the next place are those before the process, and the process
  up_to : take (place order p + 1) order ≡ take (place order p) order ++ p ∷ []
  up_to = take_more order (place order p) 0 (place-lt order p in_order)
      ∙ ap (λ q. take (place order p) order ++ q ∷ []) (get_or-place order p 0 in_order)

  -- the processes of a node before the next place are those before this one, and the one here if it is on the node
  split : (node : ℕ) →
      node_before g order node (place order p + 1) ≡ node_before g order node (place order p)
      ++ filter (λ q. node_of g q == node) (p ∷ [])
  split node = ap (filter (λ q. node_of g q == node)) up_to
      ∙ filter-append (λ q. node_of g q == node) (take (place order p) order) (p ∷ [])

  -- on the node of p the processes before the next place are those before p, and p
  pub node_own : node_before g order (node_of g p) (place order p + 1) ≡ before_on_node g order p ++ p ∷ []
  node_own = split (node_of g p)
      ∙ ap (λ qs. before_on_node g order p ++ qs) (cond-true _ _ _ (eq-eqb (node_of g p) (node_of g p) refl))

  -- on another node the processes before the next place are those before the place of p
  pub node_other : (node : ℕ) → node ≢ node_of g p →
      node_before g order node (place order p + 1) ≡ node_before g order node (place order p)
  node_other node differ = split node ∙ ap (λ qs. node_before g order node (place order p) ++ qs)
      (cond-false _ _ _ (ne_eqb (node_of g p) node (λ e. differ (sym e)))) ∙
      append-nil (node_before g order node (place order p))

  -- no process of a node before the place of p is later than p
  node_early : (node q : ℕ) → Contains (node_before g order node (place order p)) q → place order q ≤ place order p
  node_early node q there =
      let kept = Contains-filter_parts (λ q. node_of g q == node) (take (place order p) order) q there in
      omega (arith, (from_before order q p kept.0).1)

  -- the processes of the node up to this one are no later than it
  pub own_early : (q : ℕ) → Contains (before_on_node g order p ++ p ∷ []) q → place order q ≤ place order p
  own_early q there = elim (Contains-append_cases (before_on_node g order p) (p ∷ []) q there) [
    | inl among ↦ node_early (node_of g p) q among
    | inr i ↦ omega (arith, ap (place order) (only_one p q i))
  ]

  -- no item that a node sends before the place of p comes from a later process than p
  pub sent_early : (node y : ℕ) → Contains (sent_before g order node (place order p)) y →
      place order (producer g y) ≤ place order p
  sent_early node y there = let item_stands = stands g order node (place order p) y there in
      omega (arith, item_stands.early)

  -- no item that the node of p sends before the place of p, and none of the first m items of p, comes from a later process
  pub queue_early : (m y : ℕ) →
      Contains (sent_before g order (node_of g p) (place order p) ++ take m (queue_of g p)) y →
      place order (producer g y) ≤ place order p
  queue_early m y there =
      elim (Contains-append_cases (sent_before g order (node_of g p) (place order p)) (take m (queue_of g p)) y there) [
        | inl among ↦ sent_early (node_of g p) y among
        | inr i ↦ omega (arith, ap (place order) (in_queue g p y (Contains-take m (queue_of g p) y i)).by)
      ]

  -- ---- all nodes at the next place

  -- given: the cubes that all nodes carry before the place of p, and the new ones of its node: `own` of what its processes up
  -- to p leave, `queue` of what its items up to those of p leave
  module _ (rows others : List (List Column)) (same : SameRowsBefore g order (place order p) rows others)
      (scenarios : List Scenario) (known sent : List (List (List Literal)))
      (are : AreCarried g order rows scenarios (place order p) known sent) (on : node_of g p < length g.nodes)
      (own queue : List (List Literal))
      (own_are : AreCubesOf g.faults scenarios (passed_by g others (before_on_node g order p ++ p ∷ [])) own)
      (queue_are : AreCubesOf g.faults scenarios
      (queued_by g order others (sent_before g order (node_of g p) (place order p + 1))) queue) where
    -- With the cubes of p's node replaced, all nodes carry what they carry before the next place. Another node has no process
    -- and sends no item there, and the rows on which its cubes rest stay.
    pub carried_next : AreCarried g order others scenarios (place order p + 1) (set known (node_of g p) own)
        (set sent (node_of g p) queue)
    carried_next = record {
      known_count = length-set known (node_of g p) own ∙ are.known_count;
      sent_count = length-set sent (node_of g p) queue ∙ are.sent_count;
      carries = λ node h. elim (cases_eq node (node_of g p)) [
        -- the node of the process: its cubes are the new ones
        | inl e ↦
            subst (λ n. AreCubesOf g.faults scenarios (passed_by g others (node_before g order n (place order p + 1)))
            (get_or (set known (node_of g p) own) n [])) (sym e)
            (subst (AreCubesOf g.faults scenarios
            (passed_by g others (node_before g order (node_of g p) (place order p + 1))))
            (sym (get_or-set_same known (node_of g p) own [] (omega (arith, on, are.known_count))))
            (subst (λ qs. AreCubesOf g.faults scenarios (passed_by g others qs) own) (sym node_own) own_are))
        -- another node: what it carries is as it was
        | inr differ ↦
            subst (AreCubesOf g.faults scenarios (passed_by g others (node_before g order node (place order p + 1))))
            (sym (get_or-set_other known (node_of g p) node own [] differ))
            (subst (λ qs. AreCubesOf g.faults scenarios (passed_by g others qs) (get_or known node []))
            (sym (node_other node differ))
            (passed_cubes g order topological rows others (place order p) same g.faults scenarios (get_or known node [])
            (node_before g order node (place order p)) (node_early node)
            (are.carries node h)))
      ];
      queues = λ node h. elim (cases_eq node (node_of g p)) [
        -- the node of the process: its queue is the new one
        | inl e ↦ subst (λ n. AreCubesOf g.faults scenarios (queued_by g order others
            (sent_before g order n (place order p + 1))) (get_or (set sent (node_of g p) queue) n [])) (sym e)
            (subst (AreCubesOf g.faults scenarios
            (queued_by g order others (sent_before g order (node_of g p) (place order p + 1))))
            (sym (get_or-set_same sent (node_of g p) queue [] (omega (arith, on, are.sent_count)))) queue_are)
        -- another node: its queue is as it was
        | inr differ ↦ subst
            (AreCubesOf g.faults scenarios (queued_by g order others (sent_before g order node (place order p + 1))))
            (sym (get_or-set_other sent (node_of g p) node queue [] differ))
            (queued_members g.faults g order others scenarios (get_or sent node []) (sent_before g order node
            (place order p)) (sent_before g order node (place order p + 1)) (other_to node)
            (other_from node differ)
            (queued_cubes g order topological rows others (place order p) same g.faults scenarios (get_or sent node [])
            (sent_before g order node (place order p)) (sent_early node)
            (are.queues node h)))
      ];
    }

-- ---- the literals carried at the ends of a process

-- five lists of literals, one behind the other, however they are grouped
regroup : (e d h r c : List Literal) → e ++ (d ++ h ++ (r ++ c)) ≡ e ++ d ++ h ++ r ++ c
regroup e d h r c = sym (append_assoc e (d ++ h) (r ++ c)) ∙ ap (λ z. z ++ (r ++ c)) (sym (append_assoc e d h))
    ∙ sym (append_assoc (e ++ d ++ h) r c)

-- given: the rows so far, a process p, and a cube for each scenario
module _ (g : Graph) (order : List ℕ) (rows : List (List Column)) (scenarios : List Scenario) (p : ℕ)
    (cubes : List (List Literal)) where
  -- At the end of a process that isn't frozen all is carried that its node passes on up to it. For an active process what it
  -- passes on ends with what it received and its count, so both sides have the same literals in the same order.
  pub ends_plain : (process_at g p).frozen ≡ false →
      AreCubesOf g.faults scenarios (passed_by g rows (before_on_node g order p ++ p ∷ [])) cubes →
      AreEndsOf g order rows scenarios p cubes
  ends_plain plain are = record {
    count = are.count;
    each = λ i d l on.
        let scenario = get_or scenarios i d in
        let passed_on = passed g rows scenario in
        let earlier = flat_map passed_on (before_on_node g order p) in
        let same : flat_map passed_on (before_on_node g order p ++ p ∷ []) ≡ carried_at_end g order rows scenario p =
        sym (flat_map_push passed_on (before_on_node g order p) p)
        ∙ ap (λ ls. earlier ++ ls)
        (passed_active g rows scenario p on
        ∙ ap (λ ls. decided g scenario p ++ heard g rows scenario p ++ (ls ++ number_known scenario p ∷ []))
        (received_plain g rows scenario p plain))
        ∙ regroup earlier (decided g scenario p) (heard g rows scenario p) (received g rows scenario p)
        (number_known scenario p ∷ [])
        ∙ ap (λ ls. ls ++ number_known scenario p ∷ []) (sym (cond-false (process_at g p).frozen (decided g scenario p)
        (earlier ++ decided g scenario p ++ heard g rows scenario p ++ received g rows scenario p) plain)) in
        subst (λ ls. IsCubeOf g.faults ls (get_or cubes i [])) same (are.each i d l);
  }

  -- at the end of a frozen process, only what decides it and its count are carried
  pub ends_frozen : (process_at g p).frozen ≡ true →
      AreCubesOf g.faults scenarios (λ s. decided g s p ++ number_known s p ∷ []) cubes →
      AreEndsOf g order rows scenarios p cubes
  ends_frozen frozen are = record {
    count = are.count;
    each = λ i d l on.
        let scenario = get_or scenarios i d in
        subst (λ ls. IsCubeOf g.faults (ls ++ number_known scenario p ∷ []) (get_or cubes i []))
        (sym (cond-true (process_at g p).frozen (decided g scenario p) _ frozen)) (are.each i d l);
  }
