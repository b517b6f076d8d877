-- One item after another is added, until the whole queue of the process is sent.
use Rattle.std.proofs.Common.{ℕ, ◌+◌, suc, ◌<◌, ◌≡◌, ◌≢◌, ◌&&◌, ◌==◌, nat_lt, Bool, true, false, List, [], ◌∷◌, ◌++◌}
use Rattle.std.proofs.Common.{length, filter, take, get_or, Option, Some, None, unwrap_or, Contains, ◌⊎◌, arith}
use Rattle.std.proofs.Common.{⊎_elim, lt-ltb, ltb-true, refl, sym, ap, ◌∙◌, subst, inl, inr}
use Rattle.std.proofs.Math.Seq.{take-suc}
use Rattle.std.proofs.lemmas.List.Elements.{Contains-append_cases}
use Rattle.cpg_base.specs.Graph.{Graph, process_count, item_count, item_at, node_of, home, producer, is_sent}
use Rattle.cpg_base.specs.Graph.{is_sent_item}
use Rattle.std.proofs.lemmas.Bool.{and_from, and_parts, or_cases, or_left, or_right}
use Rattle.cpg_base.specs.Bus.{round}
use Rattle.cpg_base.specs.Numbers.{numbers_below}
use Rattle.cpg_base.proofs.Bounds.{round-le}
use Rattle.cpg_base.proofs.Places.{Contains-order, on_node_before, places_from_comes_before, comes_before_from_places}
use Rattle.cpg_order.specs.Queue.{is_queued_before, queued_before}
use Rattle.cpg_order.proofs.Queues.{queued_from}
use Rattle.cpg_base.specs.Activity.{active, is_active, item_active}
use Rattle.cpg_base.specs.declared.activation.Activation.{Activation}
use Rattle.cpg_base.specs.declared.item.Item.{Item}
use Rattle.cpg_base.specs.declared.item.Item.TheVariants.{Start, Message, Broadcast}
use Rattle.cpg_base.specs.Limits.{IsWithinLimits}
use Rattle.cpg_base.proofs.Lists.{greatest_above, numbers-Contains, Contains-cases, Contains-rest, Contains-nil}
use Rattle.cpg_base.proofs.Lists.{Contains-filter, Contains-filter_parts, Contains-flat_map_parts, Contains-numbers}
use Rattle.cpg_base.proofs.Lists.{Contains-map, Contains-map_parts}
use Rattle.cpg_bus.specs.Plan.{queue_of}
use Rattle.cpg_bus.proofs.Queued.{in_queue}
use Rattle.cpg_rules.proofs.Ways.{ways_are_deciding}
use Rattle.cpg_order.specs.Counting.{conditions_along}
use Rattle.cpg_order.specs.Deciding.{decides, deciding}
use Rattle.cpg_order.specs.Guard.{Guard, way, outcome_at, IsGuardOf}
use Rattle.cpg_base.specs.Scenario.{Scenario, IsScenario}
use Rattle.cpg_order.specs.Urgency.{IsTopological, IsUrgencyOrder}
use Rattle.cpg_base.specs.Order.{place, before_on_node, comes_before}
use Rattle.cpg_order.proofs.Along.{from_along}
use Rattle.cpg_order.proofs.Moments.{moment, producer_in_range}
use Rattle.cpg_cube.specs.declared.column.Column.{Column}
use Rattle.cpg_run.specs.Run.{Times, IsRun, end_in, time_in, send_bounds}
use Rattle.cpg_run.specs.Carried.{decided, carried, carried_by_item, carried_at_end, carried_at_send}
use Rattle.cpg_run.specs.Known.{AreEarly, AreSmall}
use Rattle.cpg_run.proofs.EarlyTimes.{early_from_low}
use Rattle.cpg_run.proofs.RunExists.{a_run}
use Rattle.cpg_run.proofs.Runs.{has_end, has_time, time_parts, unfrozen_sent}
use Rattle.cpg_run.proofs.RunUnique.{agree_before}
use Rattle.cpg_run.proofs.SameSends.{producer_active}
use Rattle.cpg_run.proofs.Sends.{here_sent, in_next}
use Rattle.cpg_run.proofs.Small.{run_small}
use Rattle.cpg_tree.specs.Tree.{TreeState, IsConstant}
use Rattle.cpg_tree.specs.GraphTrees.{IsTree}
use Rattle.cpg_expand.specs.Agreeing.{HasValueFrom}
use Rattle.cpg_expand.specs.Forest.{ForestState, HasTrees, times_of, ends_of}
use Rattle.cpg_expand.specs.Grown.{RowsHold, IsReadyLine, IsFreeLine, SendLines, LeavesUnsent, IsDone, AreSettledOf}
use Rattle.cpg_expand.specs.Grown.{IsSending}
use Rattle.cpg_expand.specs.Guarded.{IsActiveTree, value_known, values_known}
use Rattle.cpg_expand.specs.Sent.{IsFrozenSend, IsItemAdded, IsSentFor, AreItemsAdded, IsFreeOnce, sent_before}
use Rattle.cpg_expand.specs.Waited.{IsQueuedFor, stands_before}
use Rattle.cpg_tree.proofs.OnePath.{scenario_few, the_path}
use Rattle.cpg_expand.proofs.AgreeingTrees.{agrees_weaker}
use Rattle.cpg_expand.proofs.Begun.{own_rows, own_rows_hold}
use Rattle.cpg_expand.proofs.FreeRead.{has_put}
use Rattle.cpg_expand.proofs.FrozenFound.{IsFound, frozen_found}
use Rattle.cpg_expand.proofs.ItemKept.{other_times, same_ends, same_ready, other_free}
use Rattle.cpg_expand.proofs.LatestSend.{IsSendByTrees, send_above, send_reached}
use Rattle.cpg_expand.proofs.NextPlace.{settled_idle, settled_more}
use Rattle.cpg_expand.proofs.SendingOver.{done_sooner, send_lines_over}
use Rattle.cpg_expand.proofs.SentBefore.{queued_so_far}
use Rattle.cpg_expand.proofs.StartTimes.{later_exact}
use Rattle.cpg_expand.proofs.SentOne.{item_valued, free_once}
use Rattle.cpg_expand.proofs.GuardTrees.{ends_tree, times_tree}

-- the tree of a guard says where its process is active, and its path says no more than what decides the process
pub chosen_valued : (g : Graph) (urgency : List ℕ) → IsUrgencyOrder g urgency → IsTopological g urgency →
    (p : ℕ) (guard : Guard) → IsGuardOf g urgency p guard →
    (chooser : TreeState Bool) →
    IsActiveTree g.faults guard chooser →
    (s : Scenario) → IsScenario g s → HasValueFrom s (decided g s p) (active g s.values p) chooser
chosen_valued g urgency is_urgency urgent p guard is_guard chooser actives s law =
    agrees_weaker s chooser (values_known s (way guard s.values)) (decided g s p)
    (λ z. z ≡ is_active (outcome_at guard s.values)) (λ z. z ≡ active g s.values p)
    (λ literal says. let condition = Contains-map_parts (value_known s) (way guard s.values) literal says in
    subst (Contains (decided g s p)) condition.2
    (Contains-map (value_known s) (deciding g s.values p) condition.0 (decides_it condition.0 condition.1)))
    (λ z equal. equal ∙ ap (λ (a : Activation). is_active a) (is_guard.is s.values law.values))
    (actives s (scenario_few g s law))
  where
    -- each of the graph's conditions that decides the process, in the urgency order, is one that decides it
    decides_it : (c : ℕ) → Contains (way guard s.values) c → Contains (deciding g s.values p) c
    decides_it c on_way =
        let parts = Contains-filter_parts (decides g s.values p) (conditions_along g urgency) c
        (subst (λ cs. Contains cs c)
        (ways_are_deciding g urgency p guard s.values is_urgency urgent is_guard law.values) on_way) in
        Contains-filter (decides g s.values p) _ c parts.1 (Contains-numbers _ c (from_along g urgency c parts.0).0)

-- what is carried beside item x, which is sent, is what is carried at its send
carried_sent : (g : Graph) (order : List ℕ) (rows : List (List Column)) (s : Scenario) (x : ℕ) (i : Item) →
    is_sent_item g i ≡ true →
    carried_by_item g order rows s x i ≡ carried_at_send g order rows s x
carried_sent g order rows s x (Start p) is = cc
carried_sent g order rows s x (Message e) is = refl
carried_sent g order rows s x (Broadcast c) is = refl

-- given: a process that has begun, and the tree of where it is active
-- `p`, `l`, `on_node`: a process on a node of the graph; `chooser`, `chosen`: the tree of where p is active
module _ (g : Graph) (limits : IsWithinLimits g) (order : List ℕ) (topological : IsTopological g order) (p : ℕ)
    (l : p < process_count g) (on_node : node_of g p < length g.nodes)
    (chooser : TreeState Bool)
    (chosen : (s : Scenario) → IsScenario g s → HasValueFrom s (decided g s p) (active g s.values p) chooser) where
  -- given: one of its items, and the trees before and after that one is added
  -- `k`, `inside`: the k-th item that p sends; `old`, `frozen_old`, `sending`: trees and frozen times with the k items
  -- before it
  -- `new`, `frozen_new`, `added`: those with this item too
  module _ (k : ℕ) (inside : k < length (queue_of g p)) (old new : ForestState)
      (frozen_old frozen_new : List (Option ℕ))
      (sending : IsSending g order p k frozen_old old)
      (added : IsItemAdded g order chooser (get_or (queue_of g p) k 0) old new frozen_old frozen_new) where
    -- the item that is sent next
    abbrev here : ℕ
    here = get_or (queue_of g p) k 0

    -- it is in p's queue
    in_here : Contains (queue_of g p) here
    in_here = here_sent g order topological (record { faults = []; values = [] }) p l k inside

    -- it is an item of the graph
    within : here < item_count g
    within = (in_queue g p here in_here).within

    -- p sends it
    by_p : producer g here ≡ p
    by_p = (in_queue g p here in_here).by

    -- it is sent over the bus
    goes_over : is_sent g here ≡ true
    goes_over = (in_queue g p here in_here).sent

    -- with its two new trees the forest still has all its trees
    trees : HasTrees g new
    trees = has_put g old new here
        (home g here) added.sent added.freed sending.trees added.sent_tree added.freed_tree added.is

    -- what is done by then has an earlier moment than it
    later : (y : ℕ) → y < item_count g → IsDone g order p k y → moment g order y < moment g order here
    later = done_sooner g order topological p l k inside

    -- it has no frozen time yet
    unset : get_or frozen_old here None ≡ None
    unset = sending.settled.others here (λ h f done. let sooner = later here within done in
        absurd (omega (arith, sooner)))

    -- it isn't among what is done
    apart : (y : ℕ) → y < item_count g → IsDone g order p k y → y ≢ here
    apart y below done e = let sooner = later y below done in let same = ap (moment g order) e in
        absurd (omega (arith, sooner, same))

    -- what is done stays done
    grows : (y : ℕ) → IsDone g order p k y → IsDone g order p (k + 1) y
    grows y (inl e) = inl e
    grows y (inr (inl e)) = inr (inl e)
    grows y (inr (inr c)) = inr (inr (in_next (queue_of g p) k y inside (inl c)))

    -- then it is done itself
    one_more : IsDone g order p (k + 1) here
    one_more = inr (inr (in_next (queue_of g p) k here inside (inr refl)))

    -- the first k + 1 items of the queue are the first k and this one
    last_of : (y : ℕ) → Contains (take (k + 1) (queue_of g p)) y → Contains (take k (queue_of g p)) y ⊎ (y ≡ here)
    last_of y among =
        let one_longer : take (k + 1) (queue_of g p) ≡ take k (queue_of g p) ++ here ∷ [] =
        ap (λ n. take n (queue_of g p)) (let equal : k + 1 ≡ suc k = omega arith in equal)
        ∙ take-suc (queue_of g p) k 0 inside in
        elim (Contains-append_cases (take k (queue_of g p)) (here ∷ []) y
        (subst (λ ys. Contains ys y) one_longer among)) [
          | inl in_first ↦ inl in_first
          | inr in_last ↦ elim (Contains-cases here [] y in_last) [
            | inl is_first ↦ inr (sym is_first)
            | inr in_none ↦ absurd (Contains-nil y in_none)
          ]
        ]

    -- so what is done then was done before, or is this item
    only : (y : ℕ) → IsDone g order p (k + 1) y → IsDone g order p k y ⊎ (y ≡ here)
    only y (inl ended) = inl (inl ended)
    only y (inr (inl sent_earlier)) = inl (inr (inl sent_earlier))
    only y (inr (inr among)) =
        elim (last_of y among) [ inl done_before ↦ inl (inr (inr done_before)) | inr is_here ↦ inr is_here ]

    -- it is active only if p is
    acts : (s : Scenario) → item_active g s.values (item_at g here) ≡ true → active g s.values p ≡ true
    acts s on = ap (active g s.values) (sym by_p) ∙ producer_active g s.values (item_at g here) on

    -- p stands before the next place
    p_ends : place order p < place order p + 1
    p_ends = omega arith

    -- each frozen time so far is below 2^58
    early_before : AreEarly frozen_old
    early_before = early_from_low g order frozen_old limits topological sending.settled.count sending.settled.low

    -- what is queued before it is done
    done_before : (y : ℕ) → Contains (queued_before g order here) y → IsDone g order p k y
    -- such an item is sent for a process before p, or is one of the first k of p's queue
    done_before y is_before =
        elim (Contains-append_cases (sent_before g order (place order p) (node_of g p)) (take k (queue_of g p)) y
        (queued_so_far g order topological (record { faults = []; values = [] }) p l k inside y is_before)) [
          | inl in_first ↦
              let sender = Contains-flat_map_parts (queue_of g) (before_on_node g order p) y in_first in
              let in_its_queue = in_queue g sender.0 y sender.2 in
              inl (omega (arith, (on_node_before g order p sender.0 sender.1).1, ap (place order) in_its_queue.by))
          | inr in_second ↦ inr (inr in_second)
        ]

    -- what is queued before it is an item of the graph
    within_before : (y : ℕ) → Contains (queued_before g order here) y → y < item_count g
    within_before y is_before = numbers-Contains (item_count g) y
        (Contains-filter_parts (λ y. is_queued_before g order y here) (numbers_below (item_count g)) y is_before).0

    -- what is queued before it is sent by the same node, and stands before it
    by_places : (y : ℕ) → Contains (queued_before g order here) y → stands_before g order y here ≡ true
    by_places y is_before =
        let parts = and_parts (is_sent g y && (home g y == home g here)) _
        (Contains-filter_parts (λ y. is_queued_before g order y here) (numbers_below (item_count g)) y is_before).1 in
        and_from (is_sent g y && (home g y == home g here)) _ parts.0 (⊎_elim
        (λ (earlier : comes_before order (producer g y) (producer g here) ≡ true).
        or_left _ _ (lt-ltb _ _ (places_from_comes_before order (producer g y) (producer g here) earlier)))
        (λ same_producer. or_right _ _ same_producer)
        (or_cases _ _ parts.1))

    -- the other way: an item that stands before it is queued before it
    from_places : (y : ℕ) → y < item_count g → stands_before g order y here ≡ true →
        Contains (queued_before g order here) y
    -- its producer has an earlier place, or the same one and it has a lesser rank
    from_places y below stands =
        let parts = and_parts (is_sent g y && (home g y == home g here)) _ stands in
        queued_from g order topological here y below
        (and_from (is_sent g y && (home g y == home g here)) _ parts.0 (⊎_elim
        (λ (earlier : nat_lt (place order (producer g y)) (place order (producer g here)) ≡ true). or_left _ _
        (comes_before_from_places order (producer g y) (producer g here) (Contains-order (process_count g) order
        topological.all (producer g y) (producer_in_range g order topological y below))
        (ltb-true _ _ earlier)))
        (λ same_producer. or_right _ _ same_producer)
        (or_cases _ _ parts.1)))

    -- in each run under the frozen times so far, the trees say what the send waits for
    valued_send : (s : Scenario) → IsScenario g s → (t : Times) → IsRun g order frozen_old s t →
        IsSendByTrees g order old added.goes (ends_of g old (producer g here)) here s t
    valued_send s law t run =
        let rows : List (List Column) = own_rows old in
        let few = scenario_few g s law in
        -- what the trees so far say of the run, whose times are below 2^59
        let lines = sending.lines rows (own_rows_hold g order (place order p) old sending.trees) s law t run in
        let small = run_small g order frozen_old s t limits topological law early_before run in
        -- where the item goes, and when its producer ends
        let goes = added.goes_where s few (decided g s (producer g here))
        (subst (λ q. HasValueFrom s (decided g s q) (active g s.values q) chooser) (sym by_p) (chosen s law)) in
        let ends =
        subst (λ q. HasValueFrom s (carried_at_end g order rows s q) (get_or t.ends q None) (ends_of g old q))
        (sym by_p) (lines.ends p l p_ends) in
        record {
          -- the item is active where the tree says that it goes
          acts = λ path on. goes.value path on;
          ends = λ path on. ends.value path on;
          -- its producer has ended then
          ended = λ on. subst (λ q. get_or t.ends q None ≡ Some (end_in t q)) (sym by_p)
              (let has_its_end = has_end g order frozen_old s t run p l (acts s on) in
              has_its_end ∙ ap (λ n. Some n) (sym (ap (λ o. unwrap_or o 0) has_its_end)));
          early = small.ends (producer g here);
          value = unfrozen_sent g order frozen_old s t run here goes_over;
          -- each active item before it in the queue has its time by its tree
          sent = λ y is_before y_acts.
              let below = within_before y is_before in
              let its_path = the_path g.faults (times_of g old y).paths (times_tree g old sending.trees y below).each s
              few in (
                time_in t y,
                (
                  its_path.0,
                  its_path.1,
                  (lines.times y below (done_before y is_before)).value its_path.0 its_path.1
                      ∙ has_time g order frozen_old s t run y below y_acts,
                ),
                sym (later_exact (Some (time_in t y)) (round g) (small.times y) (round-le g limits)),
                below,
                by_places y is_before,
              );
          -- the other way: such a time is one of those that the send waits for
          came = λ y time below stands its_value.
              let is_before = from_places y below stands in
              let parts = time_parts g order frozen_old s t run y time
              (sym ((lines.times y below (done_before y is_before)).value its_value.0 its_value.1) ∙ its_value.2) in
              let bound = greatest_above (send_bounds g order s t here) (time_in t y + round g)
              (Contains-rest _ _ _ (Contains-map (λ z. time_in t z + round g)
              (filter (λ z. item_active g s.values (item_at g z)) (queued_before g order here)) y
              (Contains-filter (λ z. item_active g s.values (item_at g z)) (queued_before g order here) y parts.1
              is_before))) in
              omega (arith, parts.2, bound);
        }

    -- the ends of its producer have a tree of the graph
    of_ends : IsTree g (ends_of g old (producer g here))
    of_ends = subst (λ q. IsTree g (ends_of g old q)) (sym by_p) (ends_tree g old sending.trees p l)

    -- if it is frozen, its time in `frozen_new` is the greatest that it would have in the runs so far
    found : IsFrozenSend g order added.goes here old frozen_old frozen_new added.sent →
        IsFound g order frozen_old here frozen_new
    found frozen_send = frozen_found g order topological frozen_old here (omega (arith, within, sending.settled.count))
        unset frozen_send.latest
        (send_above g order frozen_old topological old added.goes added.goes_tree
        (ends_of g old (producer g here)) of_ends here valued_send frozen_send.latest frozen_send.top)
        (send_reached g order frozen_old topological old added.goes added.goes_tree
        (ends_of g old (producer g here)) of_ends here valued_send frozen_send.latest frozen_send.top) frozen_new
        frozen_send.frozen.set

    -- ---- the frozen times

    -- the frozen times stay settled with it
    settled_then : AreSettledOf g order (IsDone g order p (k + 1)) frozen_new
    settled_then = by added.sends
      where
        -- an unfrozen item leaves them as they are, and a frozen one adds its latest time
        by : IsSentFor g order added.goes here old frozen_old frozen_new added.sent →
            AreSettledOf g order (IsDone g order p (k + 1)) frozen_new
        by (inl unfrozen) = subst (AreSettledOf g order (IsDone g order p (k + 1))) (sym unfrozen.1)
            (settled_idle g order topological limits (IsDone g order p k)
            (IsDone g order p (k + 1)) frozen_old sending.settled here within later grows one_more only unfrozen.0)
        by (inr frozen) =
            let result = found frozen.1 in
            settled_more g order topological limits (IsDone g order p k) (IsDone g order p (k + 1)) frozen_old
            sending.settled here within later grows one_more only frozen.0 frozen_new result.is result.same result.long

    -- all other items keep their frozen times
    same_others : (x : ℕ) → x ≢ here → get_or frozen_old x None ≡ get_or frozen_new x None
    same_others x other = by added.sends
      where
        -- by whether it isn't frozen, so that none changes, or is, so that its own alone does
        by : IsSentFor g order added.goes here old frozen_old frozen_new added.sent →
            get_or frozen_old x None ≡ get_or frozen_new x None
        by (inl unfrozen) = sym (ap (λ fs. get_or fs x None) unfrozen.1)
        by (inr frozen) = let result = found frozen.1 in sym (result.same x other)

    -- each of the new frozen times is below 2^58
    early_after : AreEarly frozen_new
    early_after = early_from_low g order frozen_new limits topological settled_then.count settled_then.low

    -- ---- the lines

    -- rows that hold what the new trees list hold what the old ones list
    hold_old : (rows : List (List Column)) → RowsHold g order (place order p) new rows →
        RowsHold g order (place order p) old rows
    hold_old rows hold = record {
      sends = λ x below sent sooner path time listed is. hold.sends x below sent sooner path time
          (subst (λ (tree : TreeState (Option ℕ)). Contains tree.paths path)
          (sym (other_times g order chooser here old new frozen_old frozen_new added x (apart x below (inl sooner))))
          listed) is;
    }

    -- given: rows that hold what the new trees list, and one scenario with its run
    -- `rows`, `hold`: the rows that hold the new trees; `s`, `law`, `t`, `run`: a scenario and its run
    module _ (rows : List (List Column)) (hold : RowsHold g order (place order p) new rows) (s : Scenario)
        (law : IsScenario g s) (t : Times) (run : IsRun g order frozen_new s t) where
      -- the old trees give the lines of this run, since its times agree before the item with those under the old frozen
      -- times
      old_lines : SendLines g order rows s t p k old
      old_lines =
          let old_run = a_run g order frozen_old s topological in
          send_lines_over g order topological p l k inside s old_run.0 t
          (agree_before g order topological s old_run.0 t frozen_old frozen_new old_run.1 run (moment g order here)
          (λ x below sooner. same_others x (λ is_here. let same = ap (moment g order) is_here in
          absurd (omega (arith, sooner, same)))))
          rows old (sending.lines rows (hold_old rows hold) s law old_run.0 old_run.1)

      -- each time of the run is below 2^59
      small : AreSmall t
      small = run_small g order frozen_new s t limits topological law early_after run

      -- the new tree of the item gives its time, with the literals that its row carries
      valued_here : HasValueFrom s (carried g order rows s here) (get_or t.times here None) (times_of g new here)
      valued_here = subst (λ ls. HasValueFrom s ls (get_or t.times here None) (times_of g new here))
          (sym (carried_sent g order rows s here (item_at g here) goes_over))
          (item_valued g limits order topological rows s law (scenario_few g s law) frozen_new t run small p l k inside
          chooser old new frozen_old frozen_new sending.trees added on_node (chosen s law)
          (λ on. old_lines.ends p l p_ends) old_lines.here refl (omega (arith, within, sending.settled.count)) unset
          (λ is. settled_then.each here within is one_more))

      -- the new tree of free slots says when they are free once it is sent, if a later item waits for that
      freed : IsQueuedFor g order (place order p) (node_of g p) → IsFreeOnce g order rows s t p (k + 1) new
      freed waited = free_once g limits order topological rows s law (scenario_few g s law) frozen_new t run small p l k
          inside
          chooser old new frozen_old frozen_new sending.trees added on_node (chosen s law)
          (λ on. old_lines.ends p l p_ends) old_lines.here refl (omega (arith, within, sending.settled.count)) unset
          (λ is. settled_then.each here within is one_more) waited

      -- the lines of the run with k + 1 items: those of before for other items and for all ends, and for this item
      -- the time that is put
      send_lines : SendLines g order rows s t p (k + 1) new
      send_lines = record {
        -- another item's tree is as before, and this one's has its time
        times = λ x below done. elim (only x done) [
          | inl was_done ↦ subst
              (λ (tree : TreeState (Option ℕ)). HasValueFrom s (carried g order rows s x) (get_or t.times x None) tree)
              (sym (other_times g order chooser here old new frozen_old frozen_new added x (apart x below was_done)))
              (old_lines.times x below was_done)
          | inr is_here ↦ subst (λ z. HasValueFrom s (carried g order rows s z) (get_or t.times z None)
              (times_of g new z))
              (sym is_here) valued_here
        ];
        -- the ends, and when nodes are ready, are as before
        ends = λ q below less. subst (λ (tree : TreeState (Option ℕ)).
            HasValueFrom s (carried_at_end g order rows s q) (get_or t.ends q None) tree)
            (sym (same_ends g order chooser here old new frozen_old frozen_new added q)) (old_lines.ends q below less);
        ready = λ node below waited. subst
            (λ (tree : TreeState ℕ). IsReadyLine g order rows s t (place order p + 1) node tree)
            (sym (same_ready g order chooser here old new frozen_old frozen_new added node))
            (old_lines.ready node below waited);
        here = freed;
        -- the slots of other nodes are free as before
        free = λ node below other waited. subst
            (λ (tree : TreeState ℕ). IsFreeLine g order rows s t (place order p) node tree)
            (sym (other_free g order chooser here old new frozen_old frozen_new added node
            (λ same_node. other (same_node ∙ ap (node_of g) by_p)))) (old_lines.free node below other waited);
      }

    -- items that no process sends still have a tree without times
    unsent_then : LeavesUnsent g new
    unsent_then x big below not_sent =
        subst (λ (tree : TreeState (Option ℕ)). IsConstant None g.faults tree)
        (sym (other_times g order chooser here old new frozen_old frozen_new added x
        (λ is_here. absurd (not_both (sym (ap (is_sent g) is_here ∙ goes_over) ∙ not_sent)))))
        (sending.unsent x big below not_sent)
      where
        -- what is excluded: an item that is sent and isn't
        not_both : true ≡ false → ⊥
        not_both equal = cc

    -- with the item added, the first k + 1 items are sent
    pub next_sent : IsSending g order p (k + 1) frozen_new new
    next_sent = record {
      trees = trees;
      unsent = unsent_then;
      settled = settled_then;
      lines = λ rows hold s law t run. send_lines rows hold s law t run;
    }

  -- if p has sent the first k items of its queue, and `xs`, the items that are left, are added, it has sent the whole
  -- queue
  rest_sent : (xs : List ℕ) (k : ℕ) → k + length xs ≡ length (queue_of g p) →
      ((i : ℕ) → i < length xs → get_or xs i 0 ≡ get_or (queue_of g p) (k + i) 0) →
      (old new : ForestState) (frozen_old frozen_new : List (Option ℕ)) →
      IsSending g order p k frozen_old old → AreItemsAdded g order chooser xs old new frozen_old frozen_new →
      IsSending g order p (length (queue_of g p)) frozen_new new
  -- by induction on the list
  rest_sent [] k count are_last old new frozen_old frozen_new sending none =
      -- all that the process sends is sent
      let all : k ≡ length (queue_of g p) = omega (arith, count) in
      subst (λ n. IsSending g order p n frozen_new new) all (subst (λ f. IsSending g order p k frozen_new f) (sym none.0)
      (subst (λ frozen. IsSending g order p k frozen old) (sym none.1) sending))
  rest_sent (x ∷ xs) k count are_last old new frozen_old frozen_new sending more =
      -- the next item is the one at place k of its queue
      let inside : k < length (queue_of g p) = omega (arith, count) in
      let is_head : x ≡ get_or (queue_of g p) k 0 =
      are_last 0 (omega arith) ∙ ap (λ n. get_or (queue_of g p) n 0) (let equal : k + 0 ≡ k = omega arith in equal) in
      rest_sent xs (k + 1) (omega (arith, count)) (λ i below. are_last (suc i) (omega (arith, below))
      ∙ ap (λ n. get_or (queue_of g p) n 0) (let equal : k + suc i ≡ k + 1 + i = omega arith in equal))
      more.0 new more.1
      frozen_new
      (next_sent k inside old more.0 frozen_old more.1 sending
      (subst (λ y. IsItemAdded g order chooser y old more.0 frozen_old more.1) is_head more.2)) more.3

  -- once all that a process sends is added, the trees are grown up to its place, with all its items sent
  pub all_sent : (old new : ForestState) (frozen_old frozen_new : List (Option ℕ)) →
      IsSending g order p 0 frozen_old old →
      AreItemsAdded g order chooser (queue_of g p) old new frozen_old frozen_new →
      IsSending g order p (length (queue_of g p)) frozen_new new
  all_sent old new frozen_old frozen_new sending added = rest_sent (queue_of g p) 0 (omega arith)
      (λ i below. let place_0 : ℕ = 0 in
      ap (λ n. get_or (queue_of g p) n 0) (let equal : i ≡ place_0 + i = omega arith in equal))
      old new frozen_old frozen_new sending added
