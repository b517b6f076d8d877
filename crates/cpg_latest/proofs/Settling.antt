-- With one item more that is done, the frozen times are settled with it; and which items are done along the order.
use Rattle.std.proofs.Common.{ℕ, ◌+◌, ◌*◌, ◌<◌, ◌≤◌, ◌≡◌, ◌≢◌, Bool, true, false, List, length, get_or, Option, None}
use Rattle.std.proofs.Common.{Contains, ◌⊎◌, arith, refl, sym, ap, ap₂, ◌∙◌, subst, inl, inr, take_all}
use Rattle.std.proofs.lemmas.Bool.{and_parts, cases_eq, cases_lt, true≢false}
use Rattle.std.proofs.lemmas.List.Elements.{Contains-get_or}
use Rattle.cpg_base.specs.Graph.{Graph, process_count, item_count, item_at, is_frozen, is_frozen_item, is_sent}
use Rattle.cpg_base.specs.Graph.{is_sent_item, producer, producer_of_item}
use Rattle.cpg_base.specs.Limits.{IsWithinLimits}
use Rattle.cpg_base.specs.Order.{place}
use Rattle.cpg_base.proofs.Items.{item_cases, ItemCases, item_at-start}
use Rattle.cpg_base.proofs.Lists.{Contains-nil}
use Rattle.cpg_base.proofs.Places.{get_or-place, Contains-order}
use Rattle.cpg_bus.specs.Plan.{queue_of}
use Rattle.cpg_bus.proofs.Queued.{in_queue, below_first, rank_at, queue_rises, queue-Contains}
use Rattle.cpg_order.specs.Queue.{rank_of_item}
use Rattle.cpg_order.specs.Urgency.{IsTopological}
use Rattle.cpg_order.proofs.Moments.{phase, phases, phase_below, phase_is_rank, moment, moment_of_start}
use Rattle.cpg_order.proofs.Moments.{producer_in_range, sooner}
use Rattle.cpg_run.specs.Frozen.{IsFrozenTime}
use Rattle.cpg_run.specs.Known.{AreEarly}
use Rattle.cpg_run.specs.Latest.{IsUnfrozenTime}
use Rattle.cpg_run.specs.Run.{Times}
use Rattle.cpg_run.proofs.EarlyTimes.{early_from_low}
use Rattle.cpg_run.proofs.Rising.{bound, unfrozen_low}
use Rattle.cpg_run.proofs.Settled.{frozen_time_kept, frozen_time_set}
use Rattle.cpg_latest.specs.Course.{AreSettledOf, ForLatest, IsDone, IsEarlier}
use Rattle.cpg_latest.proofs.TimedSends.{Contains-take, in_next, take_next}

module _ (g : Graph) (order : List ℕ) (topological : IsTopological g order) (within : IsWithinLimits g) where
  -- settled frozen times are below 2 ^ 58, as they are no later than their items could be
  pub early_of : (Done : ℕ → Type 0) (frozen : List (Option ℕ)) → AreSettledOf g order Done frozen → AreEarly frozen
  early_of Done frozen s = early_from_low g order frozen within topological s.count s.low

  module _ (Done More : ℕ → Type 0) (frozen : List (Option ℕ)) (settled : AreSettledOf g order Done frozen) where
    -- if the same frozen items are done by `More` as by `Done`, the frozen times stay settled
    pub settled_as : ((y : ℕ) → y < item_count g → is_frozen g y ≡ true → More y → Done y) →
        ((y : ℕ) → y < item_count g → Done y → More y) →
        AreSettledOf g order More frozen
    settled_as less more = record {
      count = settled.count;
      each = λ y h f m. settled.each y h f (less y h f m);
      others = λ y no. settled.others y (λ h fails d. no h fails (more y h d));
      low = settled.low;
    }

    -- given: one item x more is done
    -- `later`: all items done so far have earlier moments; `grows`, `one`, `only`: by `More` just these and x are done
    module _ (x : ℕ) (inside : x < item_count g) (later : (y : ℕ) → y < item_count g → Done y →
        moment g order y < moment g order x) (grows : (y : ℕ) → Done y → More y) (one : More x)
        (only : (y : ℕ) → More y → Done y ⊎ (y ≡ x)) where
      -- if the item is not frozen, the frozen times stay settled with it
      pub settled_idle : is_frozen g x ≡ false → AreSettledOf g order More frozen
      settled_idle thawed = settled_as
          (λ y h f m. elim (only y m) [ inl d ↦ d | inr e ↦ absurd (true≢false (sym f ∙ ap (is_frozen g) e ∙ thawed)) ])
          (λ y h d. grows y d)

      -- the item isn't done yet, so it has no frozen time
      pub not_yet : get_or frozen x None ≡ None
      not_yet = settled.others x (λ below is_one done. let after = later x below done in absurd (omega (arith, after)))

      -- If the item is frozen, and its frozen time is set to the greatest that it would have if it were not, the frozen times are
      -- settled with it. An item done before keeps its frozen time, as it rests on earlier moments.
      pub settled_more : is_frozen g x ≡ true → (more : List (Option ℕ)) →
          IsUnfrozenTime g order frozen x (get_or more x None) →
          ((y : ℕ) → y ≢ x → get_or more y None ≡ get_or frozen y None) →
          length more ≡ length frozen → AreSettledOf g order More more
      settled_more is_one more is same count = record {
        count = count ∙ settled.count;
        each = λ y h f done. elim (cases_eq y x) [
          -- the item itself has the time that was set; others keep theirs
          | inl same_item ↦ subst (IsFrozenTime g order more) (sym same_item)
              (frozen_time_set g order topological frozen more x inside
              (λ z w m. sym (same z (λ e. omega (arith, ap (moment g order) e)))) is)
          | inr apart ↦ elim (only y done) [
            | inr e ↦ absurd (apart e)
            | inl d ↦ frozen_time_kept g order topological frozen more y h
                (λ z w m. sym (same z (λ e. omega (arith, ap (moment g order) e, later y h d)))) (sym (same y apart))
                (settled.each y h f d)
          ]
        ];
        -- an item that isn't settled has no time
        others = λ y no. same y
            (λ e. no (subst (λ z. z < item_count g) (sym e) inside) (ap (is_frozen g) e ∙ is_one)
            (subst More (sym e) one))
            ∙ settled.others y (λ h fails done. no h fails (grows y done));
        -- the time that was set is that of a run, so it is low
        low = record {
          low = λ y time w e. elim (cases_eq y x) [
            | inl same_item ↦
                let reached = is.reached time (ap (λ z. get_or more z None) (sym same_item) ∙ e) in
                subst (λ z. time ≤ bound 0 (moment g order z) + 32000000000) (sym same_item)
                (omega (
                  arith,
                  reached.has,
                  unfrozen_low 0 g order frozen reached.scenario reached.times within topological reached.lawful
                      settled.low reached.run x inside,
                ))
            | inr apart ↦ settled.low.low y time w (sym (same y apart) ∙ e)
          ];
        };
      }

-- P holds of the latest times whatever frozen times follow for the items that aren't `Done`. If more items are done (`More`)
-- and `new` has the frozen times of those that were, it holds whatever follows for the items that aren't `More`.
pub for_more : (g : Graph) (order : List ℕ) (Done More : ℕ → Type 0) (frozen new : List (Option ℕ)) (values : List Bool)
    (P : (ℕ → Times) → Type 0) →
    ((y : ℕ) → y < item_count g → Done y → More y)
    → ((y : ℕ) → y < item_count g → Done y → get_or new y None ≡ get_or frozen y None) →
    ForLatest g order Done frozen values P → ForLatest g order More new values P
for_more g order Done More frozen new values P grows same f more goes late are =
    f more (λ y h d. goes y h (grows y h d) ∙ same y h d) late are

-- given: a process of the order
module _ (g : Graph) (order : List ℕ) (topological : IsTopological g order) (p : ℕ) (l : p < process_count g) where
  -- ---- the start of a process

  -- the start of p doesn't come from an earlier process
  pub own_place : IsEarlier g order (place order p) p → ⊥
  own_place earlier = let is = ap (λ i. place order (producer_of_item g i)) (item_at-start g p l) in
      absurd (omega (arith, earlier, is))

  -- each item of an earlier process has an earlier moment than the start of p
  pub start_later : (y : ℕ) → y < item_count g → IsEarlier g order (place order p) y →
      moment g order y < moment g order p
  start_later y within earlier =
      let own = moment_of_start g order topological p l in
      let less : moment g order y < place order p * phases g =
      sooner (place order (producer g y)) (place order p) (phase (item_at g y)) (phases g) earlier
      (phase_below g y within) in
      omega (arith, own, less)

  -- with the start of p, items of earlier processes are done
  pub start_grows : (y : ℕ) → IsEarlier g order (place order p) y → IsDone g order p 0 y
  start_grows y earlier = inl earlier

  -- the start itself is done then
  pub start_one : IsDone g order p 0 p
  start_one = inr (inl refl)

  -- what is done with the start of p is an item of an earlier process, or that start
  pub start_only : (y : ℕ) → IsDone g order p 0 y → IsEarlier g order (place order p) y ⊎ (y ≡ p)
  start_only y (inl e) = inl e
  start_only y (inr (inl e)) = inr e
  start_only y (inr (inr there)) = absurd (Contains-nil y there)

  -- ---- what it sends

  -- the moment of an item that a process sends, by the process's place and the item's rank
  moment_of_sent : (x : ℕ) → Contains (queue_of g p) x →
      moment g order x ≡ place order p * phases g + (rank_of_item (item_at g x) + 2)
  moment_of_sent x there = let own_item = in_queue g p x there in
      ap₂ (λ r f. place order r * phases g + f) own_item.by (phase_is_rank g (item_at g x) own_item.sent)

  module _ (k : ℕ) (inside : k < length (queue_of g p)) where
    -- the item at place k of what the process sends
    abbrev here : ℕ
    here = get_or (queue_of g p) k 0

    -- the item at the place is one that the process sends
    in_here : Contains (queue_of g p) here
    in_here = Contains-get_or (queue_of g p) k 0 inside

    -- the next item that is sent is one of the graph
    pub here_within : here < item_count g
    here_within = (in_queue g p here in_here).within

    -- what is done before it has an earlier moment: an item of an earlier process, the start of p, or an earlier item of p
    pub send_later : (y : ℕ) → y < item_count g → IsDone g order p k y → moment g order y < moment g order here
    send_later y within (inl e) =
        let at = moment_of_sent here in_here in
        let less : moment g order y < place order p * phases g = sooner (place order (producer g y)) (place order p)
        (phase (item_at g y)) (phases g) e (phase_below g y within) in
        omega (arith, at, less)
    send_later y within (inr (inl e)) =
        let at = moment_of_sent here in_here in
        let own = ap (moment g order) e ∙ moment_of_start g order topological p l in
        omega (arith, at, own)
    send_later y within (inr (inr c)) =
        let at = moment_of_sent here in_here in
        let own = moment_of_sent y (Contains-take k (queue_of g p) y c) in
        let less : rank_of_item (item_at g y) < rank_of_item (item_at g here) =
        below_first (rank_at g) (queue_of g p) (queue_rises g p) k inside y c in
        omega (arith, at, own, less)

    -- with the item, what was done stays done
    pub send_grows : (y : ℕ) → IsDone g order p k y → IsDone g order p (k + 1) y
    send_grows y (inl e) = inl e
    send_grows y (inr (inl e)) = inr (inl e)
    send_grows y (inr (inr c)) = inr (inr (in_next (queue_of g p) k y inside (inl c)))

    -- the item itself is done then
    pub send_one : IsDone g order p (k + 1) here
    send_one = inr (inr (in_next (queue_of g p) k here inside (inr refl)))

    -- what is done with the item was done before, or is the item
    pub send_only : (y : ℕ) → IsDone g order p (k + 1) y → IsDone g order p k y ⊎ (y ≡ here)
    send_only y (inl e) = inl (inl e)
    send_only y (inr (inl e)) = inl (inr (inl e))
    send_only y (inr (inr there)) =
        elim (take_next (queue_of g p) k y inside there) [ inl a ↦ inl (inr (inr a)) | inr e ↦ inr e ]

  -- ---- the next place

  -- a frozen item of p is its start or one of the items that it sends, so it is among those that are done
  among : (x : ℕ) → x < item_count g → is_frozen g x ≡ true → producer g x ≡ p → ItemCases g x →
      IsDone g order p (length (queue_of g p)) x
  among x within it_is_frozen by (inl c) = inr (inl (sym (ap (producer_of_item g) c.1) ∙ by))
  among x within it_is_frozen by (inr (inl c)) =
      let sent : is_sent g x ≡ true =
      ap (is_sent_item g) c.3 ∙ (and_parts _ _ (sym (ap (is_frozen_item g) c.3) ∙ it_is_frozen)).0 in
      inr (inr (subst (λ xs. Contains xs x) (sym (take_all (length (queue_of g p)) (queue_of g p) (omega arith)))
      (queue-Contains g p x within sent by)))
  among x within it_is_frozen by (inr (inr c)) = absurd (true≢false (sym it_is_frozen ∙ ap (is_frozen_item g) c.3))

  -- once p has sent all, each frozen item from a process before the next place is done: an earlier one's, or one of p
  pub next_done : (x : ℕ) → x < item_count g → is_frozen g x ≡ true → IsEarlier g order (place order p + 1) x →
      IsDone g order p (length (queue_of g p)) x
  next_done x within it_is_frozen earlier = elim (cases_lt (place order (producer g x)) (place order p)) [
    | inl less ↦ inl less
    | inr more ↦
        let same : place order (producer g x) ≡ place order p = omega (arith, earlier, more) in
        let by : producer g x ≡ p = sym (get_or-place order (producer g x) 0 (Contains-order (process_count g) order
        topological.all (producer g x) (producer_in_range g order topological x within)))
        ∙ ap (λ i. get_or order i 0) same
        ∙ get_or-place order p 0 (Contains-order (process_count g) order topological.all p l) in
        among x within it_is_frozen by (item_cases g x within)
  ]

  -- once p has sent all, each item that is done comes from a process before the next place
  pub next_earlier : (x : ℕ) → x < item_count g → IsDone g order p (length (queue_of g p)) x →
      IsEarlier g order (place order p + 1) x
  next_earlier x within (inl e) = omega (arith, e)
  next_earlier x within (inr (inl e)) =
      let is = ap (λ i. place order (producer_of_item g i)) (ap (item_at g) e ∙ item_at-start g p l) in
      omega (arith, is)
  next_earlier x within (inr (inr sent)) = let own_item = in_queue g p x
      (Contains-take (length (queue_of g p)) (queue_of g p) x sent) in
      omega (arith, ap (place order) own_item.by)
