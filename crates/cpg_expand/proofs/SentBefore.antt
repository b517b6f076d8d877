-- The items before an item in its node's queue are those that the node has sent so far.
use Rattle.std.proofs.Common.{ℕ, ◌+◌, ◌<◌, ◌≡◌, ◌&&◌, ◌==◌, ltb, true, List, ◌++◌, length, flat_map, take, get_or}
use Rattle.std.proofs.Common.{Contains, ⊎_elim, arith, eq-eqb, eqb-true, lt-ltb, ltb-true, refl, sym, ap, ◌∙◌, inl}
use Rattle.std.proofs.Common.{inr}
use Rattle.std.proofs.lemmas.Bool.{and_parts, and_from, or_cases, or_left, or_right}
use Rattle.std.proofs.lemmas.List.Elements.{Contains-append_cases, Contains-append_left, Contains-append_right}
use Rattle.cpg_base.specs.Numbers.{numbers_below}
use Rattle.cpg_base.specs.Graph.{Graph, process_count, item_count, item_at, home, producer, node_of}
use Rattle.cpg_base.proofs.Lists.{Contains-filter, Contains-filter_parts, Contains-flat_map, Contains-flat_map_parts}
use Rattle.cpg_base.proofs.Lists.{numbers-Contains}
use Rattle.cpg_bus.specs.Plan.{queue_of}
use Rattle.cpg_bus.proofs.Queued.{in_queue, queue-Contains, queue_rises, below_first, in_first, rank_at}
use Rattle.cpg_cube.specs.declared.literal.Literal.{Literal}
use Rattle.cpg_order.specs.Queue.{is_queued_before, queued_before, rank_of_item}
use Rattle.cpg_base.specs.Scenario.{Scenario}
use Rattle.cpg_order.specs.Urgency.{IsTopological}
use Rattle.cpg_base.specs.Order.{place, before, before_on_node, comes_before}
use Rattle.cpg_order.proofs.Moments.{producer_in_range}
use Rattle.cpg_base.proofs.Places.{Contains-order, Contains-before, on_node_before, places_from_comes_before}
use Rattle.cpg_base.proofs.Places.{comes_before_from_places}
use Rattle.cpg_order.proofs.Queues.{queued_from}
use Rattle.cpg_run.specs.Carried.{queued}
use Rattle.cpg_run.proofs.Sends.{here_sent, in_next, Contains-take}
use Rattle.cpg_cube.specs.declared.column.Column.{Column}
use Rattle.cpg_tree.specs.Tree.{TreeState}
use Rattle.cpg_expand.specs.Agreeing.{HasValueFrom}
use Rattle.cpg_expand.specs.Sent.{sent_before, sent_so_far}
use Rattle.cpg_expand.proofs.AgreeingTrees.{agrees_weaker}

-- given: an item that a process sends
-- `order`, `topological`, `s`: an order and a scenario; `p`, `l`, `k`, `inside`: the k-th item that process p sends
module _ (g : Graph) (order : List ℕ) (topological : IsTopological g order) (s : Scenario) (p : ℕ)
    (l : p < process_count g) (k : ℕ) (inside : k < length (queue_of g p)) where
  -- the k-th item that p sends
  abbrev here : ℕ
  here = get_or (queue_of g p) k 0

  -- it is in p's queue
  in_here : Contains (queue_of g p) here
  in_here = here_sent g order topological s p l k inside

  -- what the node has sent so far stands before the item in the queue
  pub so_far_queued : (y : ℕ) → Contains (sent_so_far g order p k) y → Contains (queued_before g order here) y
  so_far_queued y is_sent =
      let here_queued = in_queue g p here in_here in
      elim (Contains-append_cases (sent_before g order (place order p) (node_of g p))
      (take k (queue_of g p)) y is_sent) [
        -- sent for an earlier process of the node
        | inl in_first ↦
            let sender = Contains-flat_map_parts (queue_of g) (before_on_node g order p) y in_first in
            let its_queue = in_queue g sender.0 y sender.2 in
            let before_p = on_node_before g order p sender.0 sender.1 in
            let same_node : node_of g sender.0 ≡ node_of g p = eqb-true _ _
            (Contains-filter_parts (λ (u : ℕ). node_of g u == node_of g p) (before order p) sender.0 sender.1).1 in
            let same : (home g y == home g here) ≡ true =
            eq-eqb _ _ (ap (node_of g) its_queue.by ∙ same_node ∙ sym (ap (node_of g) here_queued.by)) in
            queued_from g order topological here y its_queue.within
            (and_from _ _ (and_from _ _ its_queue.sent same)
            (or_left _ _ (comes_before_from_places order (producer g y) (producer g here)
            (Contains-order (process_count g) order topological.all (producer g y)
            (producer_in_range g order topological y its_queue.within))
            (omega (arith, before_p.1, ap (place order) its_queue.by, ap (place order) here_queued.by)))))
        -- sent before it by the same process
        | inr among ↦
            let its_queue = in_queue g p y (Contains-take k (queue_of g p) y among) in
            let same : (home g y == home g here) ≡ true =
            eq-eqb _ _ (ap (node_of g) (its_queue.by ∙ sym here_queued.by)) in
            queued_from g order topological here y its_queue.within
            (and_from _ _ (and_from _ _ its_queue.sent same) (or_right _ _
            (and_from _ _ (eq-eqb _ _ (its_queue.by ∙ sym here_queued.by))
            (lt-ltb _ _ (below_first (rank_at g) (queue_of g p) (queue_rises g p) k inside y among)))))
      ]

  -- only what the node has sent so far stands before the item in the queue
  pub queued_so_far : (y : ℕ) → Contains (queued_before g order here) y → Contains (sent_so_far g order p k) y
  queued_so_far y is_before =
      let parts = Contains-filter_parts (λ y. is_queued_before g order y here) (numbers_below (item_count g)) y
      is_before in
      -- y is an item of the node that is sent, and stands before this one
      let below : y < item_count g = numbers-Contains (item_count g) y parts.0 in
      let tests = and_parts _ _ parts.1 in
      let sent_here = and_parts _ _ tests.0 in
      let here_queued = in_queue g p here in_here in
      ⊎_elim
      -- by the place of its producer
      (λ (e : comes_before order (producer g y) (producer g here) ≡ true).
      let less = places_from_comes_before order (producer g y) (producer g here) e in
      let in_order = Contains-order (process_count g) order topological.all (producer g y)
      (producer_in_range g order topological y below) in
      Contains-append_left (sent_before g order (place order p) (node_of g p)) (take k (queue_of g p)) y
      (Contains-flat_map (queue_of g) (before_on_node g order p) (producer g y) y
      (Contains-filter (λ (u : ℕ). node_of g u == node_of g p) (before order p) (producer g y)
      (eq-eqb _ _ (eqb-true _ _ sent_here.1 ∙ ap (node_of g) here_queued.by))
      (Contains-before order (producer g y) p in_order (omega (arith, less, ap (place order) here_queued.by))))
      (queue-Contains g (producer g y) y below sent_here.0 refl)))
      -- or by its own rank, if they have one producer
      (λ (e : ((producer g y == producer g here) && ltb (rank_of_item (item_at g y)) (rank_of_item (item_at g here))) ≡ true).
      let same_sender = and_parts (producer g y == producer g here) _ e in
      Contains-append_right (sent_before g order (place order p) (node_of g p)) (take k (queue_of g p)) y
      (in_first (rank_at g) (queue_of g p) (queue_rises g p) k inside y
      (queue-Contains g p y below sent_here.0 (eqb-true _ _ same_sender.0 ∙ here_queued.by))
      (ltb-true _ _ same_sender.1)))
      (or_cases _ _ tests.1)

  -- given: rows
  module _ (rows : List (List Column)) where
    -- all that some items leave to those behind them
    abbrev support_all : List ℕ → List Literal
    support_all = flat_map (queued g order rows s)

    -- a tree that says no more than what all items so far leave says no more than what is left to the next item
    pub has_value_before : (y : ℕ) (tree : TreeState ℕ) →
        HasValueFrom s (flat_map (queued g order rows s) (sent_so_far g order p k)) y tree →
        HasValueFrom s (flat_map (queued g order rows s) (queued_before g order here)) y tree
    has_value_before y tree = agrees_weaker s tree (support_all (sent_so_far g order p k))
        (support_all (queued_before g order here)) (λ z. z ≡ y) (λ z. z ≡ y)
        (λ literal listed. let source = Contains-flat_map_parts (queued g order rows s)
        (sent_so_far g order p k) literal listed in
        Contains-flat_map (queued g order rows s) (queued_before g order here) source.0 literal
        (so_far_queued source.0 source.1) source.2)
        (λ z equal. equal)

    -- a tree that says no more than what is left to the next item and what that one leaves says no more than what all
    -- items sent by then leave
    pub has_value_after : (y : ℕ) (tree : TreeState ℕ) →
        HasValueFrom s
        (flat_map (queued g order rows s) (queued_before g order here) ++ queued g order rows s here) y tree →
        HasValueFrom s (flat_map (queued g order rows s) (sent_so_far g order p (k + 1))) y tree
    has_value_after y tree =
        agrees_weaker s tree (support_all (queued_before g order here) ++ queued g order rows s here)
        (support_all (sent_so_far g order p (k + 1))) (λ z. z ≡ y) (λ z. z ≡ y)
        within (λ z equal. equal)
      where
        -- what is sent before the item is sent before the next one, too
        grown : (z : ℕ) → Contains (sent_so_far g order p k) z → Contains (sent_so_far g order p (k + 1)) z
        grown z was_sent = elim (Contains-append_cases (sent_before g order (place order p) (node_of g p))
            (take k (queue_of g p)) z was_sent) [
              | inl in_first ↦
                  Contains-append_left (sent_before g order (place order p) (node_of g p))
                  (take (k + 1) (queue_of g p)) z in_first
              | inr in_second ↦ Contains-append_right (sent_before g order (place order p) (node_of g p))
                  (take (k + 1) (queue_of g p)) z (in_next (queue_of g p) k z inside (inl in_second))
            ]

        -- what the items before it and the item itself leave is left by all that is sent by then
        within : (m : Literal) → Contains (support_all (queued_before g order here) ++ queued g order rows s here) m →
            Contains (support_all (sent_so_far g order p (k + 1))) m
        -- a literal is left by what stands before the item, or by the item itself
        within literal listed =
            elim (Contains-append_cases (support_all (queued_before g order here)) (queued g order rows s here) literal
            listed) [
              | inl in_first ↦ let source = Contains-flat_map_parts (queued g order rows s) (queued_before g order here)
                  literal in_first in
                  Contains-flat_map (queued g order rows s) (sent_so_far g order p (k + 1)) source.0 literal
                  (grown source.0 (queued_so_far source.0 source.1)) source.2
              | inr in_second ↦ Contains-flat_map (queued g order rows s) (sent_so_far g order p (k + 1)) here literal
                  (Contains-append_right (sent_before g order (place order p) (node_of g p))
                  (take (k + 1) (queue_of g p)) here (in_next (queue_of g p) k here inside (inr refl))) in_second
            ]
