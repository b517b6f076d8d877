-- The trees of an item that is added give its time in the run, and from when on the slots of its node are free after
-- it.
use Rattle.std.proofs.Common.{ℕ, ◌+◌, ◌<◌, ◌≡◌, Bool, true, false, if◌then◌else◌, List, [], ◌++◌, length, flat_map}
use Rattle.std.proofs.Common.{get_or, set, Option, Some, None, unwrap_or, Contains, ◌⊎◌, arith, refl, sym, ap}
use Rattle.std.proofs.Common.{◌∙◌, subst, inl, inr, get_or-set_same}
use Rattle.std.proofs.lemmas.Bool.{cond-false, cases_Bool}
use Rattle.std.proofs.lemmas.List.Elements.{Contains-append_cases}
use Rattle.cpg_base.specs.Bus.{round}
use Rattle.cpg_base.specs.Limits.{IsWithinLimits}
use Rattle.cpg_base.specs.Scenario.{IsScenario, Scenario}
use Rattle.cpg_base.specs.Graph.{Graph, process_count, item_count, item_at, node_of, home, producer, is_frozen}
use Rattle.cpg_base.specs.Activity.{active, item_active}
use Rattle.cpg_base.proofs.Bounds.{round-le}
use Rattle.cpg_base.proofs.Lists.{Contains-nil}
use Rattle.cpg_bus.specs.Plan.{queue_of}
use Rattle.cpg_bus.specs.Share.{share_of}
use Rattle.cpg_bus.proofs.Queued.{in_queue}
use Rattle.cpg_cube.specs.declared.literal.Literal.{Literal}
use Rattle.cpg_order.specs.Queue.{queued_before}
use Rattle.cpg_base.specs.Order.{place}
use Rattle.cpg_order.specs.Urgency.{IsTopological}
use Rattle.cpg_cube.specs.declared.column.Column.{Column}
use Rattle.cpg_run.specs.Run.{Times, IsRun, unfrozen_time}
use Rattle.cpg_run.specs.Carried.{decided, sent_by_value, carried_at_end, carried_at_send, queued}
use Rattle.cpg_run.specs.Frozen.{IsFrozenTime, WouldHave}
use Rattle.cpg_run.specs.Known.{AreSmall}
use Rattle.cpg_run.specs.Most.{IsMost}
use Rattle.cpg_run.specs.Progress.{IsSentBy, free_after}
use Rattle.cpg_run.proofs.Runs.{time_is}
use Rattle.cpg_run.proofs.SameSends.{producer_active}
use Rattle.cpg_run.proofs.Sends.{here_sent, free_next, free_same}
use Rattle.cpg_tree.specs.Space.{HasAtMostFaults}
use Rattle.cpg_tree.specs.Tree.{TreeState}
use Rattle.cpg_expand.specs.Agreeing.{HasValueFrom}
use Rattle.cpg_expand.specs.Forest.{ForestState, HasTrees, times_of, ends_of}
use Rattle.cpg_tree.specs.GraphTrees.{no_tree}
use Rattle.cpg_expand.specs.Sent.{IsFreeOnce, IsItemAdded, IsSentFor, sent_so_far}
use Rattle.cpg_expand.specs.Sending.{IsSentTree, IsFreeTree}
use Rattle.cpg_tree_times.specs.Values.{slot_from}
use Rattle.cpg_tree.specs.Later.{time_later}
use Rattle.cpg_expand.specs.Waited.{IsQueuedFor}
use Rattle.cpg_expand.specs.Waiting.{free_of}
use Rattle.cpg_expand.proofs.FrozenFound.{set_here}
use Rattle.cpg_expand.proofs.FrozenSend.{frozen_send_line, frozen_send_value}
use Rattle.cpg_expand.proofs.SendLine.{send_line, free_line}
use Rattle.cpg_expand.proofs.SendValue.{send_value}
use Rattle.cpg_expand.proofs.SentBefore.{has_value_before, has_value_after}
use Rattle.cpg_expand.proofs.StartTimes.{later_exact}

-- given: one scenario with its run, and an item that a process sends
-- `s`, `law`, `few`: a scenario; `frozen`, `t`, `run`, `small`: its run under frozen times, with small times
-- `p`, `l`, `k`, `inside`: the k-th item that process p sends
module _ (g : Graph) (limits : IsWithinLimits g) (order : List ℕ) (topological : IsTopological g order)
    (rows : List (List Column)) (s : Scenario) (law : IsScenario g s)
    (few : HasAtMostFaults g.faults s)
    (frozen : List (Option ℕ)) (t : Times) (run : IsRun g order frozen s t) (small : AreSmall t) (p : ℕ)
    (l : p < process_count g) (k : ℕ) (inside : k < length (queue_of g p)) where
  -- the k-th item that p sends
  abbrev here : ℕ
  here = get_or (queue_of g p) k 0

  -- it is in p's queue
  in_here : Contains (queue_of g p) here
  in_here = here_sent g order topological s p l k inside

  -- it is an item of the graph
  within : here < item_count g
  within = (in_queue g p here in_here).within

  -- p sends it
  by : producer g here ≡ p
  by = (in_queue g p here in_here).by

  -- whether it goes in this scenario
  abbrev Sent : Bool
  Sent = item_active g s.values (item_at g here)

  -- if it goes, its producer is active
  acts : item_active g s.values (item_at g here) ≡ true → active g s.values (producer g here) ≡ true
  acts = producer_active g s.values (item_at g here)

  -- given: an item that is added to the trees, with what the trees said before
  -- `old`, `frozen_old`, `trees`: trees and frozen times without the item; `new`, `frozen_new`, `added`: those with it
  -- `on_node`: p is on a node of the graph; `chosen`: the chooser says where p is active; `ended`: the old trees have
  -- p's end
  -- `once`: they have when its slots are free, if an item waits for that
  -- `same`, `long`, `unset`: the item had no frozen time, and has that of the run now
  -- `settled`: a frozen item's time is the greatest that it would have
  module _ (chooser : TreeState Bool) (old new : ForestState) (frozen_old frozen_new : List (Option ℕ))
      (trees : HasTrees g old)
      (added : IsItemAdded g order chooser here old new frozen_old frozen_new)
      (on_node : node_of g p < length g.nodes)
      (chosen : HasValueFrom s (decided g s p) (active g s.values p) chooser)
      (ended : active g s.values p ≡ true →
      HasValueFrom s (carried_at_end g order rows s p) (get_or t.ends p None) (ends_of g old p))
      (once : IsQueuedFor g order (place order p) (node_of g p) → IsFreeOnce g order rows s t p k old)
      (same : get_or frozen here None ≡ get_or frozen_new here None)
      (long : here < length frozen_old)
      (unset : get_or frozen_old here None ≡ None)
      (settled : is_frozen g here ≡ true → IsFrozenTime g order frozen here) where
    -- the literals of the value by which an active producer sends it
    value_part : List Literal
    value_part = if active g s.values (producer g here) then sent_by_value g s here else []

    -- what says whether it goes: what decides its producer, and the value by which that sends it
    abbrev says : List Literal
    says = decided g s (producer g here) ++ (if active g s.values (producer g here) then sent_by_value g s here else [])

    -- the tree of where it goes agrees with these literals
    of_goes : HasValueFrom s says (item_active g s.values (item_at g here)) added.goes
    of_goes = added.goes_where s few (decided g s (producer g here))
        (subst (λ q. HasValueFrom s (decided g s q) (active g s.values q) chooser) (sym by) chosen)

    -- each of them decides the producer, or is of a value by which an active producer sends it
    at_most : (m : Literal) → Contains says m →
        Contains (decided g s (producer g here)) m ⊎
        ((active g s.values (producer g here) ≡ true) × Contains (sent_by_value g s here) m)
    at_most m listed = elim (Contains-append_cases (decided g s (producer g here))
        (if active g s.values (producer g here) then sent_by_value g s here else []) m listed) [
          | inl in_first ↦ inl in_first
          | inr in_second ↦ inr (of_value (active g s.values (producer g here)) refl in_second)
        ]
      where
        -- by whether the producer is active: only then are there literals of a value
        of_value : (b : Bool) → active g s.values (producer g here) ≡ b →
            Contains (if b then sent_by_value g s here else []) m →
            (active g s.values (producer g here) ≡ true) ×
            Contains (sent_by_value g s here) m
        of_value true on listed = (on, listed)
        of_value false is_b listed = absurd (Contains-nil m listed)

    -- if it goes, the old trees give the end of its producer
    ends_valued : item_active g s.values (item_at g here) ≡ true →
        HasValueFrom s (carried_at_end g order rows s (producer g here)) (get_or t.ends p None)
        (ends_of g old (producer g here))
    ends_valued on =
        subst (λ q. HasValueFrom s (carried_at_end g order rows s q) (get_or t.ends p None) (ends_of g old q)) (sym by)
        (ended (ap (active g s.values) (sym by) ∙ acts on))

    -- the old tree of free slots says when what is queued before it leaves them free
    waits : (o : IsFreeOnce g order rows s t p k old) →
        HasValueFrom s (flat_map (queued g order rows s) (queued_before g order here)) o.time
        (free_of g old (home g here))
    waits before = subst (λ q. HasValueFrom s (flat_map (queued g order rows s) (queued_before g order here))
        before.time
        (free_of g old (node_of g q))) (sym by)
        (has_value_before g order topological s p l k inside rows before.time (free_of g old (node_of g p))
        before.has_value)

    -- ---- its times

    -- the tree of an item that is not frozen gives its time in the run
    of_thawed : IsFreeOnce g order rows s t p k old → is_frozen g here ≡ false → frozen_new ≡ frozen_old →
        IsSentTree g.faults (share_of g (home g here)) added.goes (ends_of g old (producer g here))
        (free_of g old (home g here)) added.sent →
        HasValueFrom s (carried_at_send g order rows s here) (get_or t.times here None) added.sent
    -- `send_value` says that the item's time is its first free slot, and `send_line` that the tree gives that slot
    of_thawed o thawed kept slots =
        let share = ap (λ q. share_of g (node_of g q)) by in
        let value = ap (λ h. if item_active g s.values (item_at g here) then slot_from h o.time (get_or t.ends p None)
        else None) share
        ∙ send_value g order topological s p l frozen t run k inside o.time o.is (same
        ∙ ap (λ f. get_or f here None) kept ∙ unset) small (λ on. ap (active g s.values) (sym by) ∙ acts on) in
        subst (λ (o : Option ℕ). HasValueFrom s (carried_at_send g order rows s here) o added.sent) value
        (send_line g order rows s few here acts says added.goes of_goes at_most thawed (share_of g (home g here))
        (ends_of g old (producer g here)) (free_of g old (home g here)) added.sent
        (get_or t.ends p None) o.time slots ends_valued (waits o))

    -- if it goes, it would have its unfrozen time in this run
    would : item_active g s.values (item_at g here) ≡ true →
        WouldHave g order frozen here (unfrozen_time g order s t here)
    would on = record { scenario = s; lawful = law; times = t; run = run; active = on; has = refl }

    -- if it is frozen, its frozen time where it goes, and none elsewhere, is its time in the run
    frozen_time : is_frozen g here ≡ true → (latest : Option ℕ) → get_or frozen here None ≡ latest →
        (if item_active g s.values (item_at g here) then Some (unwrap_or latest 0) else None) ≡ get_or t.times here None
    frozen_time here_frozen (Some time) is = frozen_send_value g order frozen s t run here within time is
        (λ on. (settled here_frozen).greatest time (unfrozen_time g order s t here) is (would on))
    frozen_time here_frozen None is = elim (cases_Bool (item_active g s.values (item_at g here))) [
      | inl on ↦ absurd ((settled here_frozen).none is (unfrozen_time g order s t here) (would on))
      | inr off ↦ cond-false _ _ _ off ∙ sym (time_is g order frozen s t run here within ∙ cond-false _ _ _ off)
    ]

    -- if the item isn't frozen, it is itself one that waits for the slots of p's node
    queued_here : is_frozen g here ≡ false → IsQueuedFor g order (place order p) (node_of g p)
    queued_here thawed = record {
      other = here;
      within = within;
      sent = (in_queue g p here in_here).sent;
      there = ap (node_of g) by;
      later = (let same_place = ap (place order) by in omega (arith, same_place));
      thawed = thawed;
    }

    -- the tree of its send gives its time in the run
    sends_valued : HasValueFrom s (carried_at_send g order rows s here) (get_or t.times here None) added.sent
    sends_valued = by added.sends
      where
        -- by whether it isn't frozen, or is sent at its frozen time
        by : IsSentFor g order added.goes here old frozen_old frozen_new added.sent →
            HasValueFrom s (carried_at_send g order rows s here) (get_or t.times here None) added.sent
        by (inl thawed) = of_thawed (once (queued_here thawed.0)) thawed.0 thawed.1 thawed.2
        by (inr frozen_send) = subst
            (λ (o : Option ℕ). HasValueFrom s (carried_at_send g order rows s here) o added.sent)
            (frozen_time frozen_send.0 frozen_send.1.latest
            (same ∙ ap (λ h. get_or h here None) frozen_send.1.frozen.set
            ∙ set_here frozen_old here frozen_send.1.latest long unset))
            (frozen_send_line g order rows s few here says added.goes of_goes at_most frozen_send.0 added.sent
            (unwrap_or frozen_send.1.latest 0) added.goes_tree frozen_send.1.frozen.made)

    -- the new forest has this tree at the item
    times_is : times_of g new here ≡ added.sent
    times_is = ap (λ (f : ForestState). times_of g f here) added.is
        ∙ get_or-set_same old.times here added.sent (no_tree g.faults) (omega (arith, within, trees.times))

    -- the tree of the item gives its time in the run
    pub item_valued : HasValueFrom s (carried_at_send g order rows s here) (get_or t.times here None)
        (times_of g new here)
    item_valued = subst (λ (u : TreeState (Option ℕ)).
        HasValueFrom s (carried_at_send g order rows s here) (get_or t.times here None) u) (sym times_is) sends_valued

    -- ---- when the slots are free then

    -- the new forest has the new tree of free slots at p's node
    free_is : free_of g new (node_of g p) ≡ added.freed
    free_is = ap (λ (f : ForestState). free_of g f (node_of g p)) added.is
        ∙ ap (λ n. get_or (set old.free n added.freed) (node_of g p) (no_tree g.faults)) (ap (node_of g) by)
        ∙ get_or-set_same old.free (node_of g p) added.freed (no_tree g.faults) (omega (arith, on_node, trees.free))

    -- when the slots are free with it: a round after its time if it goes, and else as before
    abbrev free_then : IsFreeOnce g order rows s t p k old → ℕ
    free_then before = if item_active g s.values (item_at g here)
        then time_later (round g) (get_or t.times here None) else before.time

    -- the new tree of free slots is made of the old one and the send, if a later item waits for it
    frees_here : IsQueuedFor g order (place order p) (node_of g p) →
        IsFreeTree g.faults (round g) added.goes added.sent (free_of g old (home g here)) added.freed
    frees_here waited = added.frees (subst (λ r. IsQueuedFor g order (place order r) (node_of g r)) (sym by) waited)

    -- the new tree of free slots agrees with what all items sent by then leave
    free_has_value : (o : IsFreeOnce g order rows s t p k old) → IsQueuedFor g order (place order p) (node_of g p) →
        HasValueFrom s (flat_map (queued g order rows s) (sent_so_far g order p (k + 1))) (free_then o) added.freed
    free_has_value before waited =
        has_value_after g order topological s p l k inside rows (free_then before) added.freed
        (free_line g order rows s few here acts says added.goes of_goes at_most (round g) added.sent
        (free_of g old (home g here)) added.freed (get_or t.times here None) before.time
        (frees_here waited) sends_valued (waits before))

    -- the slots are free by the new item if it goes, and else as before
    most_then : (o : IsFreeOnce g order rows s t p k old) (b : Bool) → item_active g s.values (item_at g here) ≡ b →
        IsMost (IsSentBy g order s p (k + 1)) (free_after g t)
        (if b then time_later (round g) (get_or t.times here None) else o.time)
    most_then before true on = subst (IsMost (IsSentBy g order s p (k + 1)) (free_after g t))
        (sym (later_exact (get_or t.times here None) (round g) (small.times here) (round-le g limits)))
        (free_next g order topological s p l k inside frozen t run before.time before.is on)
    most_then before false off = free_same g order topological s p l k inside t before.time off before.is

    -- with the item the tree still says when the slots are free
    pub free_once : IsQueuedFor g order (place order p) (node_of g p) → IsFreeOnce g order rows s t p (k + 1) new
    free_once waited = record {
      time = free_then (once waited);
      is = most_then (once waited) (item_active g s.values (item_at g here)) refl;
      has_value =
          subst (λ (u : TreeState ℕ). HasValueFrom s (flat_map (queued g order rows s) (sent_so_far g order p (k + 1)))
          (free_then (once waited)) u) (sym free_is) (free_has_value (once waited) waited);
    }
