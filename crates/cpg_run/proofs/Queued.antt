-- The order of a node's queue is transitive, and along it the places of the producers do not fall.
use Rattle.std.proofs.Common.{ℕ, ◌<◌, ◌≤◌, ◌≡◌, true, ◌&&◌, ◌==◌, ◌⊎◌, inl, inr, List, Contains, arith, sym, ap, ◌∙◌}
use Rattle.std.proofs.Common.{subst, eqb-true, eq-eqb, ltb-true, lt-ltb}
use Rattle.std.proofs.lemmas.Bool.{and_parts, and_from, or_cases, or_left, or_right}
use Rattle.cpg_base.specs.Numbers.{numbers_below}
use Rattle.cpg_base.specs.Graph.{Graph, item_count, item_at, is_sent, home, producer}
use Rattle.cpg_base.proofs.Lists.{Contains-filter, Contains-filter_parts}
use Rattle.cpg_base.specs.Order.{place, comes_before}
use Rattle.cpg_order.specs.Queue.{rank_of_item, is_queued_before, queued_before}
use Rattle.cpg_base.proofs.Places.{places_from_comes_before, before_contains, comes_before_from_places}

module _ (g : Graph) (order : List ℕ) where
  -- y is sent by the node of x, and its producer is earlier in the order, or is that of x and gives y a lower rank
  record GoesBefore (y x : ℕ) : Type 0 where
    -- y goes over the bus
    sent : is_sent g y ≡ true
    -- it is of the same node as x
    home : home g y ≡ home g x
    sooner : (comes_before order (producer g y) (producer g x) ≡ true) ⊎
        ((producer g y ≡ producer g x) × (rank_of_item (item_at g y) < rank_of_item (item_at g x)))

  -- an item that is queued before x goes before it
  goes_before : (y x : ℕ) → is_queued_before g order y x ≡ true → GoesBefore y x
  goes_before y x queued =
      let sent_and_order = and_parts (is_sent g y && (home g y == home g x)) _ queued in
      let sent_parts = and_parts (is_sent g y) (home g y == home g x) sent_and_order.0 in
      record {
        sent = sent_parts.0;
        home = eqb-true _ _ sent_parts.1;
        sooner = elim (or_cases (comes_before order (producer g y) (producer g x)) _ sent_and_order.1) [
          | inl by_order ↦ inl by_order
          | inr by_order ↦
              let same_producer = and_parts (producer g y == producer g x) _ by_order in
              inr (eqb-true _ _ same_producer.0, ltb-true _ _ same_producer.1)
        ];
      }

  -- an item of the graph that goes before x is queued before it
  queued_by : (y x : ℕ) → GoesBefore y x → is_queued_before g order y x ≡ true
  queued_by y x b = and_from _ _ (and_from _ _ b.sent (eq-eqb _ _ b.home)) (elim b.sooner [
    | inl c ↦ or_left _ _ c
    | inr c ↦ or_right _ _ (and_from _ _ (eq-eqb _ _ c.0) (lt-ltb _ _ c.1))
  ])

  -- its producer is not later in the order
  place_of : (y x : ℕ) → GoesBefore y x → place order (producer g y) ≤ place order (producer g x)
  place_of y x b = elim b.sooner [
    | inl c ↦ omega (arith, places_from_comes_before order (producer g y) (producer g x) c)
    | inr c ↦ omega (arith, ap (place order) c.0)
  ]

  -- if z goes before y, and y before x, z goes before x: by whether the producers differ
  chain : (z y x : ℕ) → GoesBefore z y → GoesBefore y x → GoesBefore z x
  chain z y x a b = record {
    sent = a.sent;
    home = a.home ∙ b.home;
    sooner = elim a.sooner [
      | inl c ↦ inl (comes_before_from_places order (producer g z) (producer g x)
          (before_contains order (producer g z) (producer g y) c)
          (omega (arith, places_from_comes_before order (producer g z) (producer g y) c, place_of y x b)))
      | inr c ↦ elim b.sooner [
        | inl d ↦ inl (subst (λ p. comes_before order p (producer g x) ≡ true) (sym c.0) d)
        | inr d ↦ inr (c.0 ∙ d.0, omega (arith, c.1, d.1))
      ]
    ];
  }

  -- an item that the list before x in the queue contains is one of the graph, and is queued before x
  in_queue : (x y : ℕ) → Contains (queued_before g order x) y →
      Contains (numbers_below (item_count g)) y × (is_queued_before g order y x ≡ true)
  in_queue x y among = Contains-filter_parts (λ y. is_queued_before g order y x) (numbers_below (item_count g)) y among

  -- the producer of an item before x in the queue is not later in the order than that of x
  pub producer_no_later : (x y : ℕ) → Contains (queued_before g order x) y →
      place order (producer g y) ≤ place order (producer g x)
  producer_no_later x y among = place_of y x (goes_before y x (in_queue x y among).1)

  -- an item before one that is before x in the queue is before x
  pub queue_chain : (x y z : ℕ) → Contains (queued_before g order x) y → Contains (queued_before g order y) z →
      Contains (queued_before g order x) z
  queue_chain x y z y_before_x z_before_y =
      let of_y = in_queue x y y_before_x in
      let of_z = in_queue y z z_before_y in
      Contains-filter (λ z. is_queued_before g order z x) (numbers_below (item_count g)) z
      (queued_by z x (chain z y x (goes_before z y of_z.1) (goes_before y x of_y.1))) of_z.0
