-- When a process's next item is sent follows from when the slots of its node are free after what was sent before.
use Rattle.std.proofs.Common.{◌≡◌, ◌∙◌, ℕ, suc, ◌+◌, ◌<◌, ◌≤◌, max, true, false, ◌&&◌, ◌==◌, ltb, List, [], ◌∷◌, ◌++◌}
use Rattle.std.proofs.Common.{length, get_or, set, take, drop, Contains, Option, Some, None, option_to_list}
use Rattle.std.proofs.Common.{arith, refl, sym, ap, ap₂, inl, inr, ◌⊎◌, ⊎_elim, subst, eq-eqb, eqb-true, lt-ltb}
use Rattle.std.proofs.Common.{ltb-true, true≢false, get_or-set_same, get_or-set_other}
use Rattle.std.proofs.Math.Seq.{take-suc}
use Rattle.std.proofs.lemmas.Bool.{and_parts, and_from, or_cases, or_left, or_right, cond-false, cases_eq}
use Rattle.std.proofs.lemmas.List.{take-append-drop}
use Rattle.std.proofs.lemmas.List.Elements.{Contains-append_left, Contains-append_right, Contains-append_cases}
use Rattle.std.proofs.lemmas.List.Elements.{Contains-get_or}
use Rattle.cpg_base.specs.Numbers.{numbers_below, greatest}
use Rattle.cpg_base.specs.Graph.{Graph, process_count, item_count, item_at, producer, node_of, home}
use Rattle.cpg_base.specs.Activity.{item_active}
use Rattle.cpg_base.specs.Bus.{round, next_slot}
use Rattle.cpg_base.proofs.Lists.{greatest-cons, Contains-first, Contains-cases, Contains-nil, Contains-filter_parts}
use Rattle.cpg_base.proofs.Lists.{numbers-Contains}
use Rattle.cpg_order.specs.Urgency.{IsTopological}
use Rattle.cpg_base.specs.Order.{place, comes_before}
use Rattle.cpg_order.specs.Queue.{is_queued_before, queued_before, rank_of_item}
use Rattle.cpg_base.specs.Scenario.{Scenario}
use Rattle.cpg_order.proofs.Moments.{producer_in_range}
use Rattle.cpg_base.proofs.Places.{Contains-order, places_from_comes_before, comes_before_from_places}
use Rattle.cpg_order.proofs.Queues.{queued_from}
use Rattle.cpg_latest.specs.Timed.{IsTimed}
use Rattle.cpg_run.specs.Run.{Times, time_in, end_in, send_bounds, unfrozen_time}
use Rattle.cpg_latest.proofs.Timed.{time_is, time_in_active, has_time, producer_below, queue_below, unfrozen_sent}
use Rattle.cpg_run.specs.Known.{frozen_in}
use Rattle.cpg_run.specs.Most.{IsMost}
use Rattle.cpg_bus.specs.Plan.{queue_of}
use Rattle.cpg_run.specs.Progress.{IsSentBefore, IsSentBy, free_after, CanSend, HasSent}
use Rattle.cpg_run.proofs.Bounded.{send_bounds_le}
use Rattle.cpg_run.proofs.Mosts.{most_same}
use Rattle.cpg_bus.proofs.Queued.{in_queue, queue-Contains, queue_rises, below_first, in_first, rank_at}
use Rattle.cpg_latest.proofs.TimedStarts.{greatest_option, both_ways_equal}

-- one of the first k + 1 elements is one of the first k, or that at place k
pub take_next : (xs : List ℕ) (k y : ℕ) → k < length xs → Contains (take (k + 1) xs) y →
    Contains (take k xs) y ⊎ (y ≡ get_or xs k 0)
take_next xs k y within there =
    let is : take (k + 1) xs ≡ take k xs ++ get_or xs k 0 ∷ [] =
    ap (λ n. take n xs) (let more : k + 1 ≡ suc k = omega arith in more) ∙ take-suc xs k 0 within in
    elim (Contains-append_cases (take k xs) (get_or xs k 0 ∷ []) y (subst (λ ys. Contains ys y) is there)) [
      | inl earlier ↦ inl earlier
      | inr here ↦
          elim (Contains-cases (get_or xs k 0) [] y here) [
            | inl e ↦ inr (sym e)
            | inr none ↦
                absurd (Contains-nil y none)
          ]
    ]

-- one of the first k elements, or that at place k, is one of the first k + 1
pub in_next : (xs : List ℕ) (k y : ℕ) → k < length xs → Contains (take k xs) y ⊎ (y ≡ get_or xs k 0) →
    Contains (take (k + 1) xs) y
in_next xs k y within there =
    let is : take (k + 1) xs ≡ take k xs ++ get_or xs k 0 ∷ [] =
    ap (λ n. take n xs) (let more : k + 1 ≡ suc k = omega arith in more) ∙ take-suc xs k 0 within in
    subst (λ ys. Contains ys y) (sym is) (elim there [
      | inl earlier ↦ Contains-append_left (take k xs) (get_or xs k 0 ∷ []) y earlier
      | inr e ↦ subst (Contains (take k xs ++ get_or xs k 0 ∷ [])) (sym e)
          (Contains-append_right (take k xs) (get_or xs k 0 ∷ []) (get_or xs k 0) (Contains-first (get_or xs k 0) []))
    ])

-- one of the first n elements is one of the list
pub Contains-take : (n : ℕ) (xs : List ℕ) (x : ℕ) → Contains (take n xs) x → Contains xs x
Contains-take n xs x there =
    subst (λ ys. Contains ys x) (take-append-drop n xs) (Contains-append_left (take n xs) (drop n xs) x there)

-- given: a process p of a topological order, and a scenario s
module _ (g : Graph) (order : List ℕ) (topological : IsTopological g order) (s : Scenario) (p : ℕ)
    (within : p < process_count g) where
  -- ---- what a node has sent before an item

  module _ (k : ℕ) (inside : k < length (queue_of g p)) where
    -- the item at place k of what the process sends
    abbrev here : ℕ
    here = get_or (queue_of g p) k 0

    -- the item at a place of the queue is one that the process sends
    pub here_sent : Contains (queue_of g p) here
    here_sent = Contains-get_or (queue_of g p) k 0 inside

    -- an active item queued before this one is sent for an earlier process, or is one of the first k of p
    queued_is_by : (y : ℕ) → Contains (queued_before g order here) y → item_active g s.values (item_at g y) ≡ true →
        IsSentBy g order s p k y
    queued_is_by y before acts =
        let kept = Contains-filter_parts (λ y. is_queued_before g order y here)
        (numbers_below (item_count g)) y before in
        let below : y < item_count g = numbers-Contains (item_count g) y kept.0 in
        let parts = and_parts _ _ kept.1 in
        let sent_and_home = and_parts _ _ parts.0 in
        let own_item = in_queue g p here here_sent in (
          record {
            within = below;
            sent = sent_and_home.0;
            home = eqb-true _ _ sent_and_home.1
                ∙ ap (node_of g) own_item.by;
            active = acts;
          },
          ⊎_elim
              (λ (e : comes_before order (producer g y) (producer g here) ≡ true).
              inl (let less = places_from_comes_before order (producer g y) (producer g here) e in
              omega (arith, ap (place order) own_item.by)))
              (λ (e : ((producer g y == producer g here) && ltb (rank_of_item (item_at g y)) (rank_of_item (item_at g here))) ≡ true).
              let same_and_less = and_parts (producer g y == producer g here) _ e in
              inr (in_first (rank_at g) (queue_of g p) (queue_rises g p) k inside y
              (queue-Contains g p y below sent_and_home.0 (eqb-true _ _ same_and_less.0 ∙ own_item.by))
              (ltb-true _ _ same_and_less.1)))
              (or_cases _ _ parts.1),
        )

    -- and conversely: an active item that the node sends for an earlier process, or that is one of the first k of p, is queued
    -- before this one
    by_is_queued : (y : ℕ) → IsSentBy g order s p k y → Contains (queued_before g order here) y
    by_is_queued y sent =
        let own_item = in_queue g p here here_sent in
        let same : (home g y == home g here) ≡ true = eq-eqb _ _ (sent.0.home ∙ sym (ap (node_of g) own_item.by)) in
        queued_from g order topological here y sent.0.within
        (and_from _ _ (and_from _ _ sent.0.sent same) (elim sent.1 [
          | inl less ↦ or_left _ _ (comes_before_from_places order (producer g y) (producer g here)
              (Contains-order (process_count g) order topological.all (producer g y)
              (producer_in_range g order topological y sent.0.within)) (omega (arith, ap (place order) own_item.by)))
          | inr among ↦
              let inq : Contains (queue_of g p) y = Contains-take k (queue_of g p) y among in
              or_right _ _ (and_from _ _ (eq-eqb _ _ ((in_queue g p y inq).by ∙ sym own_item.by))
              (lt-ltb _ _ (below_first (rank_at g) (queue_of g p) (queue_rises g p) k inside y among)))
        ]))

    -- the item at place k is not among the first k
    pub not_among : Contains (take k (queue_of g p)) here → ⊥
    not_among there = let less = below_first (rank_at g) (queue_of g p) (queue_rises g p) k inside
        here there in omega arith

    -- ---- when it is sent

    -- given: an active item, and from when on the slots of its node are free
    module _ (frozen : List (Option ℕ)) (t : Times) (run : IsTimed g order frozen s t) (free : ℕ)
        (is_free : IsMost (IsSentBy g order s p k) (free_after g t) free)
        (acts : item_active g s.values (item_at g here) ≡ true) where
      -- the time found: the next free slot, or the frozen time if that is later
      abbrev found : ℕ
      found = max (max (next_slot g (node_of g p) (end_in t p)) free) (frozen_in frozen here)

      -- the item waits for a slot of its process's node after that process's end
      at_producer : next_slot g (home g here) (end_in t (producer g here)) ≡ next_slot g (node_of g p) (end_in t p)
      at_producer = ap (λ q. next_slot g (node_of g q) (end_in t q)) (in_queue g p here here_sent).by

      -- the time of the item is the greatest of its bounds and its frozen time
      item_time : time_in t here ≡ max (greatest (send_bounds g order s t here)) (frozen_in frozen here)
      item_time = let own_item = in_queue g p here here_sent in
          time_in_active g order frozen s t run here own_item.within acts
          ∙ greatest-cons (unfrozen_time g order s t here) (option_to_list (get_or frozen here None))
          ∙ ap₂ max (unfrozen_sent g order frozen s t run here own_item.sent)
          (greatest_option (get_or frozen here None))

      -- the slots are free by the item's time, since it waits for a round after each active item queued before it
      free_by : free ≤ time_in t here
      free_by = let own_item = in_queue g p here here_sent in
          is_free.least (time_in t here)
          (λ y h. queue_below g order frozen s t run here y own_item.within acts own_item.sent
          (by_is_queued y h) h.0.active)

      -- no bound of the item is above the time found: the slot after the producer's end isn't, nor is a round after an item before
      bounds_found : greatest (send_bounds g order s t here) ≤ found
      bounds_found = send_bounds_le g order s t here found (omega (arith, at_producer))
          (λ y there is_active. omega (arith, is_free.above y (queued_is_by y there is_active)))

      -- the time that is found is that of the times t: each is at most the other
      pub send_is : max (max (next_slot g (node_of g p) (end_in t p)) free) (frozen_in frozen here) ≡ time_in t here
      send_is = let own_item = in_queue g p here here_sent in
          both_ways_equal found (time_in t here)
          (omega (
            arith,
            free_by,
            item_time,
            at_producer,
            producer_below g order frozen s t run here
                own_item.within acts own_item.sent,
          ))
          (omega (arith, item_time, bounds_found))

      -- once the item is sent, the slots of the node are free a round after it
      pub free_next : IsMost (IsSentBy g order s p (k + 1)) (free_after g t) (time_in t here + round g)
      free_next = let own_item = in_queue g p here here_sent in record {
        above = λ y h. elim h.1 [
          | inl less ↦ omega (arith, free_by, is_free.above y (h.0, inl less))
          | inr there ↦ elim (take_next (queue_of g p) k y inside there) [
            | inl among ↦ omega (arith, free_by, is_free.above y (h.0, inr among))
            | inr e ↦ omega (arith, ap (time_in t) e)
          ]
        ];
        least = λ b h. h here (
          record { within = own_item.within; sent = own_item.sent; home = ap (node_of g) own_item.by; active = acts },
          inr (in_next (queue_of g p) k here inside (inr refl)),
        );
      }

    -- after an inactive item the slots are free when they were, since no item more is sent
    pub free_same : (t : Times) (free : ℕ) → item_active g s.values (item_at g here) ≡ false →
        IsMost (IsSentBy g order s p k) (free_after g t) free →
        IsMost (IsSentBy g order s p (k + 1)) (free_after g t) free
    free_same t free idle most = most_same (free_after g t) (IsSentBy g order s p k) (IsSentBy g order s p (k + 1)) free
        (λ y h. (h.0, elim h.1 [ inl less ↦ inl less | inr c ↦ inr (in_next (queue_of g p) k y inside (inl c)) ]))
        (λ y h. (
          h.0,
          elim h.1 [
            | inl less ↦ inl less
            | inr there ↦ elim (take_next (queue_of g p) k y inside there) [
              | inl among ↦ inr among
              | inr e ↦ absurd (true≢false (sym h.0.active ∙ ap (λ z. item_active g s.values (item_at g z)) e ∙ idle))
            ]
          ],
        ))
        most

  -- ---- one item more has its time

  -- a process that has begun has sent none of its items
  pub nothing_sent : (t known : Times) (free : ℕ) → CanSend g order s t p known free →
      HasSent g order s t p 0 known known free
  nothing_sent t known free can = record {
    sent = λ x there. absurd (Contains-nil x there);
    others = λ x c. refl;
    slots_free =
        most_same (free_after g t) (IsSentBefore g order s (node_of g p) (place order p)) (IsSentBy g order s p 0) free
        (λ y h. (h.0, inl h.1))
        (λ y h. (h.0, elim h.1 [ inl less ↦ less | inr there ↦ absurd (Contains-nil y there) ]))
        can.slots_free;
  }

  -- given: what is known once the first k items are sent
  module _ (frozen : List (Option ℕ)) (t : Times) (run : IsTimed g order frozen s t) (old known : Times) (k free : ℕ)
      (inside : k < length (queue_of g p))
      (has : HasSent g order s t p k old known free) where
    -- the item at place k of what the process sends
    abbrev item : ℕ
    item = get_or (queue_of g p) k 0

    -- an inactive item counts as sent: it has no time, in what is known and in the times t
    pub sent_idle : ((x : ℕ) → Contains (queue_of g p) x → get_or old.times x None ≡ None) →
        item_active g s.values (item_at g item) ≡ false →
        HasSent g order s t p (k + 1) old known free
    sent_idle none idle =
        let own_item = in_queue g p item (here_sent k inside) in
        let no_time : get_or t.times item None ≡ None =
        time_is g order frozen s t run item own_item.within ∙ cond-false _ _ _ idle in
        record {
          sent = λ y there. elim (take_next (queue_of g p) k y inside there) [
            | inl among ↦ has.sent y among
            | inr e ↦ subst (λ z. get_or known.times z None ≡ get_or t.times z None) (sym e)
                (has.others item (not_among k inside) ∙ none item (here_sent k inside) ∙ sym no_time)
          ];
          others = λ y c. has.others y (λ among. c (in_next (queue_of g p) k y inside (inl among)));
          slots_free = free_same k inside t free idle has.slots_free;
        }

    -- an active item counts as sent once its time is set to the one found, which is its time in t
    pub sent_active : (new : Times) (time : ℕ) → item < length known.times →
        new.times ≡ set known.times item (Some time) →
        item_active g s.values (item_at g item) ≡ true
        → time ≡ max (max (next_slot g (node_of g p) (end_in t p)) free) (frozen_in frozen item) →
        HasSent g order s t p (k + 1) old new (time + round g)
    sent_active new time long is acts at =
        let own_item = in_queue g p item (here_sent k inside) in
        let right : time ≡ time_in t item = at ∙ send_is k inside frozen t run free has.slots_free acts in
        record {
          -- the item's place of the list is set, and the first k keep their times
          sent = λ y there. elim (cases_eq y item) [
            | inl e ↦ subst (λ z. get_or new.times z None ≡ get_or t.times z None) (sym e)
                (ap (λ ts. get_or ts item None) is ∙ get_or-set_same known.times item (Some time) None long
                ∙ ap Some right ∙ sym (has_time g order frozen s t run item own_item.within acts))
            | inr other ↦ ap (λ ts. get_or ts y None) is ∙ get_or-set_other known.times item y (Some time) None other
                ∙ elim (take_next (queue_of g p) k y inside there) [
                  | inl among ↦ has.sent y among
                  | inr e ↦ absurd (other e)
                ]
          ];
          others = λ y c. ap (λ ts. get_or ts y None) is
              ∙ get_or-set_other known.times item y (Some time) None
              (λ e. c (in_next (queue_of g p) k y inside (inr e)))
              ∙ has.others y (λ among. c (in_next (queue_of g p) k y inside (inl among)));
          -- the item is the last that was sent, so the slots are free a round after it
          slots_free = subst (IsMost (IsSentBy g order s p (k + 1)) (free_after g t))
              (ap (λ n. n + round g) (sym right)) (free_next k inside frozen t run free has.slots_free acts);
        }

-- the equation of the time that is found, with the node, the end and the item replaced by equal ones
pub found_is : (g : Graph) (frozen : List (Option ℕ)) (time free node sender end last item x : ℕ) →
    time ≡ max (max (next_slot g node end) free) (frozen_in frozen item)
    → node ≡ sender → end ≡ last → item ≡ x → time ≡ max (max (next_slot g sender last) free) (frozen_in frozen x)
found_is g frozen time free node sender end last item x is n e i =
    is ∙ ap₂ (λ a b. max (max (next_slot g a b) free) (frozen_in frozen item)) n e ∙
    ap (λ y. max (max (next_slot g sender last) free) (frozen_in frozen y)) i
