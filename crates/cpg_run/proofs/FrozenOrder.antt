-- Along a topological order the frozen items rise in moment, and there are no others.
use Rattle.std.proofs.Common.{◌≡◌, ◌∙◌, ℕ, zero, suc, ◌+◌, ◌*◌, ◌<◌, true, List, [], ◌∷◌, filter, length, get_or}
use Rattle.std.proofs.Common.{Contains, arith, refl, sym, ap, subst, inl, inr}
use Rattle.std.proofs.lemmas.Bool.{and_parts, true≢false}
use Rattle.std.proofs.lemmas.List.Elements.{Contains-get_or}
use Rattle.cpg_base.specs.Graph.{Graph, process_count, item_count, item_at, producer, producer_of_item, is_sent}
use Rattle.cpg_base.specs.Graph.{is_sent_item, is_frozen, is_frozen_item}
use Rattle.cpg_base.proofs.Items.{item_cases, ItemCases, item_at-start}
use Rattle.cpg_base.proofs.Lists.{Contains-first, Contains-rest, Contains-cases, Contains-filter, Contains-filter_parts}
use Rattle.cpg_base.proofs.Lists.{Contains-flat_map, Contains-flat_map_parts}
use Rattle.cpg_base.proofs.Ordered.{Rises, Rises-all_pairs, Rises-filter, Rises-flat_map, Rises-weaker}
use Rattle.cpg_base.proofs.Pairs.{order_apart}
use Rattle.cpg_base.specs.Order.{IsOrder, place}
use Rattle.cpg_order.specs.Urgency.{IsTopological}
use Rattle.cpg_order.proofs.Moments.{moment, phase, phases, phase_below, phase_is_rank, moment_of_start}
use Rattle.cpg_order.proofs.Moments.{producer_in_range, sooner}
use Rattle.cpg_base.proofs.Places.{Contains-order, from_order, places_rise}
use Rattle.cpg_bus.specs.Plan.{queue_of}
use Rattle.cpg_bus.proofs.Queued.{rank_at, in_queue, queue-Contains, queue_rises}
use Rattle.cpg_run.specs.FrozenItems.{frozen_items_of, frozen_along}

-- a process of an order is one of the graph
pub within_order : (g : Graph) (order processes : List ℕ) (i : ℕ) → processes ≡ order → IsOrder order →
    length order ≡ process_count g → i < length processes →
    get_or processes i 0 < process_count g
within_order g order processes i is is_order count inside =
    let process = get_or processes i 0 in
    subst (λ n. process < n) count
    (from_order (length order) order is_order.all process (subst (λ ps. Contains ps process) is
    (Contains-get_or processes i 0 inside)))

-- if each element of `xs` is related by R to all later ones, so are the elements at any two places, i and then j
rises_at : {X : Type 0} (R : X → X → Type 0) (xs : List X) → Rises R xs → (i j : ℕ) (d : X) → i < j → j < length xs →
    R (get_or xs i d) (get_or xs j d)
rises_at R [] rises i j d less below = absurd (omega arith)
rises_at R (x ∷ xs) rises zero zero d less below = absurd (omega arith)
rises_at R (x ∷ xs) rises zero (suc j) d less below = rises.0 (get_or xs j d) (Contains-get_or xs j d (omega arith))
rises_at R (x ∷ xs) rises (suc i) zero d less below = absurd (omega arith)
rises_at R (x ∷ xs) rises (suc i) (suc j) d less below = rises_at R xs rises.1 i j d (omega arith) (omega arith)

module _ (g : Graph) (order : List ℕ) (topological : IsTopological g order) where
  -- x has an earlier moment than y
  abbrev Sooner : ℕ → ℕ → Type 0
  Sooner x y = moment g order x < moment g order y

  -- x is an item of the graph with the producer p
  record IsMadeBy (p x : ℕ) : Type 0 where
    -- x is an item of the graph
    within : x < item_count g
    -- p produces it
    by : producer g x ≡ p

  -- the start of a process and the items of its queue are made by it
  made_by : (p x : ℕ) → p < process_count g → Contains (p ∷ queue_of g p) x → IsMadeBy p x
  made_by p x below made_x = elim (Contains-cases p (queue_of g p) x made_x) [
    | inl is_start ↦
        subst (IsMadeBy p) is_start
        (record { within = omega (arith, below); by = ap (producer_of_item g) (item_at-start g p below) })
    | inr queued_x ↦ let sent_x = in_queue g p x queued_x in record { within = sent_x.within; by = sent_x.by }
  ]

  -- the moment of an item that a process sends is the sum of the process's first moment, the item's rank, and 2
  moment_of_sent : (p x : ℕ) → Contains (queue_of g p) x →
      moment g order x ≡ place order p * phases g + (rank_at g x + 2)
  moment_of_sent p x queued_x =
      let sent_x = in_queue g p x queued_x in
      ap (λ r. place order r * phases g + phase (item_at g x)) sent_x.by
      ∙ ap (λ n. place order p * phases g + n) (phase_is_rank g (item_at g x) sent_x.sent)

  -- the frozen items of a process rise in moment
  items_rise : (p : ℕ) → p < process_count g → Rises Sooner (frozen_items_of g p)
  items_rise p below = Rises-filter Sooner (is_frozen g) (p ∷ queue_of g p) (
    λ x c. omega (arith, moment_of_start g order topological p below, moment_of_sent p x c),
    Rises-weaker (λ a b. rank_at g a < rank_at g b) Sooner (queue_of g p)
        (λ a b k m l. omega (arith, l, moment_of_sent p a k, moment_of_sent p b m)) (queue_rises g p),
  )

  -- a frozen item that is listed for a process is made by it
  listed : (p x : ℕ) → Contains order p → Contains (frozen_items_of g p) x → IsMadeBy p x
  listed p x p_among x_among = made_by p x (from_order (process_count g) order topological.all p p_among)
      (Contains-filter_parts (is_frozen g) (p ∷ queue_of g p) x x_among).0

  -- the frozen items along the order rise in moment: those of one process by `items_rise`, those of different ones by their places
  all_rise : Rises Sooner (frozen_along g order)
  all_rise = Rises-flat_map Sooner (frozen_items_of g) order
      (λ p c. items_rise p (from_order (process_count g) order topological.all p c))
      (Rises-weaker (λ p q. place order p < place order q)
      (λ p q. (x y : ℕ) → Contains (frozen_items_of g p) x → Contains (frozen_items_of g q) y → Sooner x y) order
      (λ p q p_in_order q_in_order p_before_q x y x_of_p y_of_q.
      let x_listed = listed p x p_in_order x_of_p in
      let y_listed = listed q y q_in_order y_of_q in
      let earlier : place order (producer g x) < place order (producer g y) =
      omega (arith, p_before_q, ap (place order) x_listed.by, ap (place order) y_listed.by) in
      omega (
        arith,
        sooner (place order (producer g x)) (place order (producer g y)) (phase (item_at g x)) (phases g) earlier
            (phase_below g x x_listed.within),
      ))
      (Rises-all_pairs (λ p q. place order p < place order q) order
      (places_rise order (order_apart (process_count g) order topological.all))))

  -- of two listed items the later one has the later moment
  pub later_moment : (items : List ℕ) → items ≡ frozen_along g order → (i j : ℕ) → i < j → j < length items →
      moment g order (get_or items i 0) < moment g order (get_or items j 0)
  later_moment items is i j less below = rises_at Sooner items (subst (Rises Sooner) (sym is) all_rise) i j 0 less below

  -- each listed item is a frozen item of the graph
  pub frozen_listed : (x : ℕ) → Contains (frozen_along g order) x → (x < item_count g) × (is_frozen g x ≡ true)
  frozen_listed x listed_x =
      let of_process = Contains-flat_map_parts (frozen_items_of g) order x listed_x in (
        (listed of_process.0 x of_process.1 of_process.2).within,
        (Contains-filter_parts (is_frozen g) (of_process.0 ∷ queue_of g of_process.0) x of_process.2).1,
      )

  -- a frozen item is its producer's start or in its queue: no broadcast is frozen
  among : (x : ℕ) → x < item_count g → is_frozen g x ≡ true → ItemCases g x →
      Contains (producer g x ∷ queue_of g (producer g x)) x
  among x below frozen_one (inl c) = subst (λ p. Contains (p ∷ queue_of g (producer g x)) x)
      (sym (ap (producer_of_item g) c.1))
      (Contains-first x (queue_of g (producer g x)))
  among x below frozen_one (inr (inl c)) =
      let sent : is_sent g x ≡ true =
      ap (is_sent_item g) c.3 ∙ (and_parts _ _ (sym (ap (is_frozen_item g) c.3) ∙ frozen_one)).0 in
      Contains-rest (producer g x) (queue_of g (producer g x)) x (queue-Contains g (producer g x) x below sent refl)
  among x below frozen_one (inr (inr c)) = absurd (true≢false (sym frozen_one ∙ ap (is_frozen_item g) c.3))

  -- every frozen item of the graph is listed along the order
  pub lists_frozen : (x : ℕ) → x < item_count g → is_frozen g x ≡ true → Contains (frozen_along g order) x
  lists_frozen x below frozen_one =
      Contains-flat_map (frozen_items_of g) order (producer g x) x (Contains-order (process_count g) order
      topological.all (producer g x) (producer_in_range g order topological x below))
      (Contains-filter (is_frozen g) (producer g x ∷ queue_of g (producer g x)) x frozen_one
      (among x below frozen_one (item_cases g x below)))
