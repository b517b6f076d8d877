-- Once a process has sent its whole queue, the trees are grown up to the place behind it.
use Rattle.std.proofs.Common.{ℕ, ◌+◌, ◌<◌, ◌≤◌, ◌≡◌, ◌≢◌, ◌&&◌, Bool, true, false, List, [], length, take, get_or}
use Rattle.std.proofs.Common.{flat_map, Option, None, Contains, ◌⊎◌, arith, refl, sym, ap, ◌∙◌, subst, inl, inr}
use Rattle.std.proofs.lemmas.Bool.{and_parts, cases_Bool, cases_eq, cases_lt, cond-false}
use Rattle.std.proofs.lemmas.List.{take_all}
use Rattle.std.proofs.lemmas.List.Elements.{Contains-append_cases}
use Rattle.cpg_base.specs.Graph.{Graph, process_count, item_count, item_at, edge_at, is_message, is_sent, is_sent_item}
use Rattle.cpg_base.specs.Graph.{is_frozen, is_frozen_item, node_of, producer, producer_of_item, process_of}
use Rattle.cpg_base.specs.Activity.{active, live, item_active}
use Rattle.cpg_base.proofs.Items.{item_cases, ItemCases, item_at-start}
use Rattle.cpg_base.proofs.Lists.{Contains-nil, Contains-flat_map, Contains-flat_map_parts}
use Rattle.cpg_bus.specs.Plan.{queue_of}
use Rattle.cpg_bus.proofs.Queued.{in_queue, queue-Contains}
use Rattle.cpg_base.specs.Scenario.{Scenario}
use Rattle.cpg_order.specs.Urgency.{IsTopological}
use Rattle.cpg_base.specs.Order.{place}
use Rattle.cpg_order.proofs.Moments.{producer_in_range}
use Rattle.cpg_base.proofs.Places.{Contains-order, same_place}
use Rattle.cpg_cube.specs.declared.column.Column.{Column}
use Rattle.cpg_reach.specs.Walked.{on_node}
use Rattle.cpg_run.specs.Run.{Times, IsRun}
use Rattle.cpg_run.specs.Carried.{carried, queued}
use Rattle.cpg_run.proofs.Runs.{time_is}
use Rattle.cpg_run.proofs.Sends.{Contains-take}
use Rattle.cpg_run.proofs.Steps.{free_here, free_other}
use Rattle.cpg_expand.specs.Agreeing.{HasValueFrom}
use Rattle.cpg_expand.specs.Forest.{ForestState, times_of}
use Rattle.cpg_expand.specs.Grown.{RowsHold, IsFreeLine, Lines, SendLines, IsEarlier, IsDone, AreSettledOf, IsGrown}
use Rattle.cpg_expand.specs.Grown.{IsSending}
use Rattle.cpg_expand.specs.Sent.{IsFreeOnce, sent_before, sent_so_far}
use Rattle.cpg_expand.specs.Waited.{IsQueuedFor}
use Rattle.cpg_expand.specs.Waiting.{free_of}
use Rattle.cpg_expand.proofs.AgreeingTrees.{agrees_constant, agrees_weaker}
use Rattle.cpg_expand.proofs.NextPlace.{kept_on, here_on}

-- ---- which items have times

-- a frozen item is a start or is sent
frozen_kind : (g : Graph) (x : ℕ) → ItemCases g x → is_frozen g x ≡ true → (x < process_count g) ⊎ (is_sent g x ≡ true)
frozen_kind g x (inl as_start) frozen = inl as_start.0
frozen_kind g x (inr (inl as_message)) frozen = inr (ap (is_sent_item g) as_message.3
    ∙ (and_parts (is_message g as_message.0) (edge_at g as_message.0).frozen
    (sym (ap (is_frozen_item g) as_message.3) ∙ frozen)).0)
frozen_kind g x (inr (inr as_broadcast)) frozen = absurd (apart (sym (ap (is_frozen_item g) as_broadcast.3) ∙ frozen))
  where
    -- false isn't true: no broadcast is frozen
    apart : false ≡ true → ⊥
    apart equal = cc

-- an item that is no start and is never sent is active in no scenario
unsent_idle : (g : Graph) (values : List Bool) (x : ℕ) → process_count g ≤ x → ItemCases g x → is_sent g x ≡ false →
    item_active g values (item_at g x) ≡ false
unsent_idle g values x big (inl as_start) unsent = absurd (let below = as_start.0 in omega (arith, big, below))
unsent_idle g values x big (inr (inl as_message)) unsent =
    ap (item_active g values) as_message.3
    ∙ ap (λ b. b && live g values as_message.0) (sym (ap (is_sent_item g) as_message.3) ∙ unsent)
unsent_idle g values x big (inr (inr as_broadcast)) unsent = ap (item_active g values) as_broadcast.3
    ∙ ap (λ b. b && active g values (process_of g as_broadcast.0)) (sym (ap (is_sent_item g) as_broadcast.3) ∙ unsent)

-- given: trees that are grown up to a process that has sent all its items
-- `p`, `l`: a process of the order; `frozen`, `f`, `sending`: the frozen times and trees once all its items are added
module _ (g : Graph) (order : List ℕ) (topological : IsTopological g order) (p : ℕ) (l : p < process_count g)
    (frozen : List (Option ℕ)) (f : ForestState)
    (sending : IsSending g order p (length (queue_of g p)) frozen f) where
  -- an item of p or of an earlier process is done, if it is a start or is sent
  done : (x : ℕ) → x < item_count g → (x < process_count g) ⊎ (is_sent g x ≡ true) →
      IsEarlier g order (place order p + 1) x →
      IsDone g order p (length (queue_of g p)) x
  done x below kind sooner = elim (cases_lt (place order (producer g x)) (place order p)) [
    | inl less ↦ inl less
    | inr more ↦ inr (by kind (same_place order (producer g x) p (Contains-order (process_count g) order topological.all
        (producer g x) (producer_in_range g order topological x below))
        (Contains-order (process_count g) order topological.all p l) (omega (arith, sooner, more))))
  ]
    where
      -- an item of p itself is its start, or one of all that it sends
      by : (x < process_count g) ⊎ (is_sent g x ≡ true) → producer g x ≡ p →
          (x ≡ p) ⊎ Contains (take (length (queue_of g p)) (queue_of g p)) x
      by (inl is_start) by_p = inl (sym (ap (producer_of_item g) (item_at-start g x is_start)) ∙ by_p)
      by (inr sent) by_p = inr (subst (λ ys. Contains ys x)
          (sym (take_all (length (queue_of g p)) (queue_of g p) (omega arith))) (queue-Contains g p x below sent by_p))

  -- what is done is of p or an earlier process
  its_place : (x : ℕ) → IsDone g order p (length (queue_of g p)) x → IsEarlier g order (place order p + 1) x
  its_place x (inl less) = omega (arith, less)
  its_place x (inr (inl is_p)) = let at = ap (λ y. place order (producer g y)) is_p in
      let own = ap (place order) (ap (producer_of_item g) (item_at-start g p l)) in
      omega (arith, at, own)
  its_place x (inr (inr queued)) = let its_queue =
      in_queue g p x (Contains-take (length (queue_of g p)) (queue_of g p) x queued) in
      let at = ap (place order) its_queue.by in
      omega (arith, at)

  -- the frozen times of all items up to p are settled
  settled_next : AreSettledOf g order (IsEarlier g order (place order p + 1)) frozen
  settled_next = record {
    count = sending.settled.count;
    each = λ x below is sooner. sending.settled.each x below is
        (done x below (frozen_kind g x (item_cases g x below) is) sooner);
    others = λ x no. sending.settled.others x (λ h is was_done. no h is (its_place x was_done));
    low = sending.settled.low;
  }

  -- given: rows that hold what the trees list, and lines of one scenario with its run
  -- `rows`, `hold`: the rows that hold the trees; `s`, `t`, `run`: a scenario with its run; `lines`: what the trees
  -- say there
  module _ (rows : List (List Column)) (hold : RowsHold g order (place order p + 1) f rows) (s : Scenario) (t : Times)
      (run : IsRun g order frozen s t)
      (lines : SendLines g order rows s t p (length (queue_of g p)) f) where
    -- what isn't sent has no time, and its tree has none
    unsent_line : (x : ℕ) → process_count g ≤ x → x < item_count g → is_sent g x ≡ false →
        HasValueFrom s (carried g order rows s x) (get_or t.times x None) (times_of g f x)
    unsent_line x big below not_sent = agrees_weaker s (times_of g f x) [] (carried g order rows s x) (λ z. z ≡ None)
        (λ z. z ≡ get_or t.times x None) (λ y listed. absurd (Contains-nil y listed))
        (λ z equal. equal ∙ sym (time_is g order frozen s t run x below
        ∙ cond-false _ _ _ (unsent_idle g s.values x big (item_cases g x below) not_sent)))
        (agrees_constant s None g.faults (times_of g f x) (λ z. z ≡ None) refl (sending.unsent x big below not_sent))

    -- the trees give the times of all items up to p, whether they are starts, are sent or aren't
    time_line : (x : ℕ) → x < item_count g → IsEarlier g order (place order p + 1) x →
        HasValueFrom s (carried g order rows s x) (get_or t.times x None) (times_of g f x)
    time_line x below sooner = elim (cases_lt x (process_count g)) [
      | inl is_start ↦ lines.times x below (done x below (inl is_start) sooner)
      | inr big ↦ elim (cases_Bool (is_sent g x)) [
        | inl sent ↦ lines.times x below (done x below (inr sent) sooner)
        | inr not_sent ↦ unsent_line x big below not_sent
      ]
    ]

    -- an item that waits for slots behind p waits for them at p's place, too
    queued_before_it : (node : ℕ) → IsQueuedFor g order (place order p + 1) node →
        IsQueuedFor g order (place order p) node
    queued_before_it node waited = record {
      other = waited.other;
      within = waited.within;
      sent = waited.sent;
      there = waited.there;
      later = omega (arith, waited.later);
      thawed = waited.thawed;
    }

    -- the slots of p's node are free behind p from the same time on as behind all that p sends
    free_line_here : IsFreeOnce g order rows s t p (length (queue_of g p)) f →
        IsFreeLine g order rows s t (place order p + 1) (node_of g p) (free_of g f (node_of g p))
    free_line_here once = record {
      time = once.time;
      is = free_here g order topological frozen s t run (place order p) p l refl once.time once.is;
      has_value = agrees_weaker s (free_of g f (node_of g p))
          (flat_map (queued g order rows s) (sent_so_far g order p (length (queue_of g p))))
          (flat_map (queued g order rows s) (sent_before g order (place order p + 1) (node_of g p)))
          (λ z. z ≡ once.time) (λ z. z ≡ once.time)
          (λ literal listed. let source =
          Contains-flat_map_parts (queued g order rows s) (sent_so_far g order p (length (queue_of g p))) literal
          listed in
          Contains-flat_map (queued g order rows s) (sent_before g order (place order p + 1) (node_of g p)) source.0
          literal
          (sent_still source.0 source.1) source.2)
          (λ z equal. equal) once.has_value;
    }
      where
        -- what the node has sent up to the last item of p, it has sent before the next place
        sent_still : (y : ℕ) → Contains (sent_so_far g order p (length (queue_of g p))) y →
            Contains (sent_before g order (place order p + 1) (node_of g p)) y
        -- an item sent before p's place stays among those sent, and one of p's queue is p's
        sent_still y sent = elim (Contains-append_cases (sent_before g order (place order p) (node_of g p))
            (take (length (queue_of g p)) (queue_of g p)) y sent) [
              | inl in_first ↦ let sender =
                  Contains-flat_map_parts (queue_of g) (on_node g order (place order p) (node_of g p)) y in_first in
                  Contains-flat_map (queue_of g) (on_node g order (place order p + 1) (node_of g p)) sender.0 y
                  (kept_on g order topological (place order p) p l refl (node_of g p) sender.0 sender.1) sender.2
              | inr in_second ↦ Contains-flat_map (queue_of g) (on_node g order (place order p + 1) (node_of g p)) p y
                  (here_on g order topological (place order p) p l refl)
                  (Contains-take (length (queue_of g p)) (queue_of g p) y in_second)
            ]

    -- the slots of another node are free when they were before
    free_line_other : (node : ℕ) → node < length g.nodes → node ≢ node_of g p →
        IsQueuedFor g order (place order p) node →
        IsFreeLine g order rows s t (place order p + 1) node (free_of g f node)
    -- the node has no process at p's place, so the items sent from it before the next place are the same
    free_line_other node below other waited =
        let line = lines.free node below other waited in
        record {
          time = line.time;
          is = free_other g order topological frozen s t run (place order p) p l refl node line.time other line.is;
          has_value = agrees_weaker s (free_of g f node)
              (flat_map (queued g order rows s) (sent_before g order (place order p) node))
              (flat_map (queued g order rows s) (sent_before g order (place order p + 1) node)) (λ z. z ≡ line.time)
              (λ z. z ≡ line.time)
              (λ literal listed. let source =
              Contains-flat_map_parts (queued g order rows s) (sent_before g order (place order p) node) literal
              listed in
              let sender = Contains-flat_map_parts (queue_of g) (on_node g order (place order p) node) source.0
              source.1 in
              Contains-flat_map (queued g order rows s) (sent_before g order (place order p + 1) node) source.0 literal
              (Contains-flat_map (queue_of g) (on_node g order (place order p + 1) node) sender.0 source.0
              (kept_on g order topological (place order p) p l refl node sender.0 sender.1) sender.2) source.2)
              (λ z equal. equal) line.has_value;
        }

    -- the trees give the lines of the run up to the next place
    next_lines : Lines g order rows s t (place order p + 1) f
    next_lines = record {
      times = time_line;
      ends = lines.ends;
      ready = lines.ready;
      free = λ node below waited. elim (cases_eq node (node_of g p)) [
        | inl is_here ↦ subst (λ n. IsFreeLine g order rows s t (place order p + 1) n (free_of g f n)) (sym is_here)
            (free_line_here (lines.here
            (subst (IsQueuedFor g order (place order p)) is_here (queued_before_it node waited))))
        | inr other ↦ free_line_other node below other (queued_before_it node waited)
      ];
    }

  -- rows that hold the trees up to the next place hold them up to p's
  rows_before : (rows : List (List Column)) → RowsHold g order (place order p + 1) f rows →
      RowsHold g order (place order p) f rows
  rows_before rows hold =
      record {
        sends = λ x below big sooner path time listed is.
            hold.sends x below big (omega (arith, sooner)) path time listed is;
      }

  -- the trees are grown up to the next place
  pub sent_grown : IsGrown g order (place order p + 1) frozen f
  sent_grown = record {
    trees = sending.trees;
    unsent = sending.unsent;
    settled = settled_next;
    lines =
        λ rows hold s law t run. next_lines rows hold s t run (sending.lines rows (rows_before rows hold) s law t run);
  }
