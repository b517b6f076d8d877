-- What a process sends, in its order: all that it makes and that goes over the bus, each once, by rising rank.
use Rattle.std.proofs.Common.{◌≡◌, ◌∙◌, ℕ, zero, suc, ◌<◌, ◌≤◌, Bool, true, false, ltb, ◌==◌, if◌then◌else◌, List, []}
use Rattle.std.proofs.Common.{◌∷◌, length, get_or, take, map, filter, Contains, Option, Some, None, arith}
use Rattle.std.proofs.Common.{refl, sym, ap, inl, inr, subst, true≢false, length-take}
use Rattle.std.proofs.lemmas.Bool.{cases_Bool, cases_order, cond-true, cond-false}
use Rattle.std.proofs.lemmas.List.{get_or-take, get_or_default}
use Rattle.std.proofs.lemmas.List.Elements.{Contains-append_cases, Contains-append_left, Contains-append_right}
use Rattle.std.proofs.lemmas.List.Elements.{Contains-get_or}
use Rattle.std.proofs.lemmas.List.Kept.{AllPairs-from_increasing, IsStrictlyIncreasing-filter}
use Rattle.cpg_base.specs.Numbers.{numbers_below}
use Rattle.cpg_base.specs.Graph.{Graph, process_count, edge_count, condition_count, item_count, item_at, source}
use Rattle.cpg_base.specs.Graph.{outputs, is_message, condition_of, process_of, message_item, broadcast_item, producer}
use Rattle.cpg_base.specs.Graph.{producer_of_item, is_sent, is_sent_item}
use Rattle.cpg_base.proofs.Inputs.{outputs_parts, outputs-Contains}
use Rattle.cpg_base.proofs.Items.{item_cases, item_at-message, item_at-broadcast}
use Rattle.cpg_base.proofs.Lists.{Contains-nil, Contains-cases, Contains-first, Contains-map, Contains-map_parts}
use Rattle.cpg_base.proofs.Lists.{Contains-filter, Contains-filter_parts, numbers_rise}
use Rattle.cpg_base.proofs.Ordered.{Rises, Rises-all_pairs, Rises-append, Rises-weaker}
use Rattle.cpg_order.specs.Queue.{rank_of_item}
use Rattle.cpg_base.proofs.ConditionProcesses.{condition_of_below, condition_of_process_of, process_of_condition_of}
use Rattle.cpg_bus.specs.Plan.{broadcasts_of, queue_of}

-- ---- lists in which each element has a relation to each later one

-- a map of a list rises if the list rises by what it gives
Rises-map : {X Y : Type 0} (R : Y → Y → Type 0) (f : X → Y) (xs : List X) → Rises (λ a b. R (f a) (f b)) xs →
    Rises R (map f xs)
Rises-map R f [] rises = tt
Rises-map R f (x ∷ xs) rises = (
  λ y among.
      let of_element = Contains-map_parts f xs y among in
      subst (R (f x)) of_element.2 (rises.0 of_element.0 of_element.1),
  Rises-map R f xs rises.1,
)

-- if xs rises by R, the number at place i is related to that at each later place j
at_places : (R : ℕ → ℕ → Type 0) (xs : List ℕ) → Rises R xs → (i j d : ℕ) → i < j → j < length xs →
    R (get_or xs i d) (get_or xs j d)
at_places R [] rises i j d less below = absurd (omega arith)
at_places R (x ∷ xs) rises zero zero d less below = absurd (omega arith)
at_places R (x ∷ xs) rises zero (suc j) d less below = rises.0 (get_or xs j d) (Contains-get_or xs j d (omega arith))
at_places R (x ∷ xs) rises (suc i) zero d less below = absurd (omega arith)
at_places R (x ∷ xs) rises (suc i) (suc j) d less below = at_places R xs rises.1 i j d (omega arith) (omega arith)

-- the first k elements of a list that rises by a rank are those below the k-th
module _ (rank : ℕ → ℕ) (xs : List ℕ) (rises : Rises (λ a b. rank a < rank b) xs) (k : ℕ) (inside : k < length xs) where
  -- each of the first k elements has a lower rank than the k-th
  pub below_first : (y : ℕ) → Contains (take k xs) y → rank y < rank (get_or xs k 0)
  below_first y among_first =
      let length_taken = length-take k xs in
      let earlier : among_first.0 < k = omega (arith, among_first.1) in
      let at : get_or xs among_first.0 0 ≡ y = get_or_default xs among_first.0 0 y (omega arith)
      ∙ sym (get_or-take k xs among_first.0 y earlier) ∙ among_first.2 in
      subst (λ z. rank z < rank (get_or xs k 0)) at (at_places (λ a b. rank a < rank b)
      xs rises among_first.0 k 0 earlier inside)

  -- Each element with a lower rank than the k-th is one of the first k.
  -- Its place isn't k or later, since ranks rise along the list.
  pub in_first : (y : ℕ) → Contains xs y → rank y < rank (get_or xs k 0) → Contains (take k xs) y
  in_first y among less =
      let at : get_or xs among.0 0 ≡ y = get_or_default xs among.0 0 y among.1 ∙ among.2 in
      elim (cases_order among.0 k) [
        | inl equal ↦ absurd (omega (arith, ap (λ i. rank (get_or xs i 0)) equal, ap rank at))
        | inr (inl less) ↦ (among.0, omega (arith, length-take k xs), get_or-take k xs among.0 y less ∙ among.2)
        | inr (inr greater) ↦ absurd (omega (
          arith,
          at_places (λ a b. rank a < rank b)
              xs rises k among.0 0 greater among.1,
          ap rank at,
        ))
      ]

module _ (g : Graph) where
  -- the rank of the item that has this number
  abbrev pub rank_at : ℕ → ℕ
  rank_at x = rank_of_item (item_at g x)

  -- an item that a process makes and that goes over the bus
  pub record IsSentOf (p x : ℕ) : Type 0 where
    -- it is an item of the graph
    pub within : x < item_count g
    -- it is no start
    pub above : process_count g ≤ x
    -- it goes over the bus
    pub sent : is_sent g x ≡ true
    -- the process makes it
    pub by : producer g x ≡ p

  -- ---- what is in it

  -- The broadcast of a process is that of its condition, and there is more than one node.
  -- A process without a condition, or on the only node, has no broadcast.
  a_broadcast : (p x : ℕ) (o : Option ℕ) → condition_of g p ≡ o → Contains (broadcasts_of g o) x →
      (c : ℕ) × (c < condition_count g) × (x ≡ broadcast_item g c) × (process_of g c ≡ p) ×
      (ltb 1 (length g.nodes) ≡ true)
  a_broadcast p x None p_is among = absurd (Contains-nil x among)
  a_broadcast p x (Some c) p_is among = elim (cases_Bool (ltb 1 (length g.nodes))) [
    | inl many ↦
        elim (Contains-cases (broadcast_item g c) [] x (subst (λ xs. Contains xs x) (cond-true _ _ _ many) among)) [
          | inl is ↦ (c, condition_of_below g p c p_is, sym is, process_of_condition_of g p c p_is, many)
          | inr none ↦ absurd (Contains-nil x none)
        ]
    | inr one ↦ absurd (Contains-nil x (subst (λ xs. Contains xs x) (cond-false _ _ _ one) among))
  ]

  -- the messages of a process are those of its outputs that go over the bus
  a_message : (p x : ℕ) → Contains (map (message_item g) (filter (is_message g) (outputs g p))) x →
      (e : ℕ) × (e < edge_count g) × (x ≡ message_item g e) × (source g e ≡ p) × (is_message g e ≡ true)
  a_message p x among =
      let of_output = Contains-map_parts (message_item g) (filter (is_message g) (outputs g p)) x among in
      let on_bus = Contains-filter_parts (is_message g) (outputs g p) of_output.0 of_output.1 in
      let output_parts = outputs_parts g p of_output.0 on_bus.0 in
      (of_output.0, output_parts.0, sym of_output.2, output_parts.1, on_bus.1)

  -- All that a process sends is made by it and goes over the bus.
  -- It is the broadcast of its condition, or a message of one of its outputs.
  pub in_queue : (p x : ℕ) → Contains (queue_of g p) x → IsSentOf p x
  in_queue p x among = elim (Contains-append_cases (broadcasts_of g (condition_of g p))
      (map (message_item g) (filter (is_message g) (outputs g p))) x among) [
        | inl broadcast ↦ let its_parts = a_broadcast p x (condition_of g p) refl broadcast in
            let is = ap (item_at g) its_parts.2 ∙ item_at-broadcast g its_parts.0 in
            record {
              within = omega (arith, its_parts.1, its_parts.2);
              above = omega (arith, its_parts.2);
              sent = ap (is_sent_item g) is ∙ its_parts.4;
              by = ap (producer_of_item g) is ∙ its_parts.3;
            }
        | inr message ↦ let its_parts = a_message p x message in
            let is = ap (item_at g) its_parts.2 ∙ item_at-message g its_parts.0 its_parts.1 in
            record {
              within = omega (arith, its_parts.1, its_parts.2);
              above = omega (arith, its_parts.2);
              sent = ap (is_sent_item g) is ∙ its_parts.4;
              by = ap (producer_of_item g) is ∙ its_parts.3;
            }
      ]

  -- Each item that goes over the bus is among what its producer sends.
  -- By the kind of the item: a start isn't sent, and a message or a broadcast is in its part of the list.
  to_queue : (x : ℕ) → x < item_count g → is_sent g x ≡ true → Contains (queue_of g (producer g x)) x
  to_queue x below sent = elim (item_cases g x below) [
    | inl of_start ↦ absurd (true≢false (sym sent ∙ ap (is_sent_item g) of_start.1))
    | inr (inl of_message) ↦ subst (λ p. Contains (queue_of g p) x) (sym (ap (producer_of_item g) of_message.3))
        (Contains-append_right (broadcasts_of g (condition_of g (source g of_message.0)))
        (map (message_item g) (filter (is_message g) (outputs g (source g of_message.0)))) x
        (subst (Contains (map (message_item g) (filter (is_message g) (outputs g (source g of_message.0)))))
        (sym of_message.2)
        (Contains-map (message_item g) (filter (is_message g) (outputs g (source g of_message.0))) of_message.0
        (Contains-filter (is_message g) (outputs g (source g of_message.0)) of_message.0
        (sym (ap (is_sent_item g) of_message.3) ∙ sent)
        (outputs-Contains g of_message.0 of_message.1)))))
    | inr (inr of_broadcast) ↦ subst (λ p. Contains (queue_of g p) x) (sym (ap (producer_of_item g) of_broadcast.3))
        (Contains-append_left (broadcasts_of g (condition_of g (process_of g of_broadcast.0)))
        (map (message_item g) (filter (is_message g) (outputs g (process_of g of_broadcast.0)))) x
        (subst (λ o. Contains (broadcasts_of g o) x) (sym (condition_of_process_of g of_broadcast.0 of_broadcast.1))
        (subst (λ xs. Contains xs x) (sym (cond-true _ _ _ (sym (ap (is_sent_item g) of_broadcast.3) ∙ sent)))
        (subst (λ y. Contains (broadcast_item g of_broadcast.0 ∷ []) y) (sym of_broadcast.2)
        (Contains-first (broadcast_item g of_broadcast.0) [])))))
  ]

  -- each item that a process makes and that goes over the bus is among what it sends
  pub queue-Contains : (p x : ℕ) → x < item_count g → is_sent g x ≡ true → producer g x ≡ p → Contains (queue_of g p) x
  queue-Contains p x below sent by = subst (λ q. Contains (queue_of g q) x) by (to_queue x below sent)

  -- ---- in which order

  -- The messages and the broadcast of a process rise by rank.
  -- The outputs rise by number, and so do the ranks of their messages.
  messages_rise : (p : ℕ) →
      Rises (λ a b. rank_at a < rank_at b) (map (message_item g) (filter (is_message g) (outputs g p)))
  messages_rise p = Rises-map (λ a b. rank_at a < rank_at b) (message_item g) (filter (is_message g) (outputs g p))
      (Rises-weaker (λ a b. a < b) (λ a b. rank_at (message_item g a) < rank_at (message_item g b))
      (filter (is_message g) (outputs g p))
      (λ a b i j l. omega (
        arith,
        l,
        ap rank_of_item
            (item_at-message g a (outputs_parts g p a (Contains-filter_parts (is_message g) (outputs g p) a i).0).0),
        ap rank_of_item
            (item_at-message g b (outputs_parts g p b (Contains-filter_parts (is_message g) (outputs g p) b j).0).0),
      ))
      (Rises-all_pairs (λ a b. a < b) (filter (is_message g) (outputs g p))
      (AllPairs-from_increasing (filter (is_message g) (outputs g p))
      (IsStrictlyIncreasing-filter (is_message g) (outputs g p)
      (IsStrictlyIncreasing-filter (λ e. source g e == p) (numbers_below (edge_count g))
      (numbers_rise (edge_count g)))))))

  -- a process has one broadcast at most
  broadcasts_rise : (o : Option ℕ) → Rises (λ a b. rank_at a < rank_at b) (broadcasts_of g o)
  broadcasts_rise None = tt
  broadcasts_rise (Some c) = go (ltb 1 (length g.nodes))
    where
      -- the broadcast goes only if there is another node
      go : (b : Bool) → Rises (λ a b. rank_at a < rank_at b) (if b then broadcast_item g c ∷ [] else [])
      go true = (λ y k. absurd (Contains-nil y k), tt)
      go false = tt

  -- What a process sends rises by rank.
  -- The broadcast has rank 0, and each message a rank above that.
  pub queue_rises : (p : ℕ) → Rises (λ a b. rank_at a < rank_at b) (queue_of g p)
  queue_rises p = Rises-append (λ a b. rank_at a < rank_at b) (broadcasts_of g (condition_of g p))
      (map (message_item g) (filter (is_message g) (outputs g p)))
      (broadcasts_rise (condition_of g p)) (messages_rise p)
      (λ a b is_broadcast message_there.
      let of_broadcast = a_broadcast p a (condition_of g p) refl is_broadcast in
      let of_message = a_message p b message_there in
      omega (
        arith,
        ap rank_at of_broadcast.2,
        ap rank_of_item (item_at-broadcast g of_broadcast.0),
        ap rank_at of_message.2,
        ap rank_of_item (item_at-message g of_message.0 of_message.1),
      ))
