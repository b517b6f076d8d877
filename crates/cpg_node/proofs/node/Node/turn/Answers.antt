-- Proof of `Node::turn`: takes the turn of the next instant.
use Rattle.std.proofs.Common.{ap₂, ℕ, ◌-◌, take, drop, map, filter, slice_get, ap, sym, ◌∙◌, ◌≡◌, ◌++◌, length, subst}
use Rattle.std.proofs.Common.{arith, List, Option, Some}
use Rattle.std.specs.Prelude.{All}
use Rattle.std.specs.List.{flat_map}
use Rattle.std.specs.Vec.{with_items}
use Rattle.std.proofs.lemmas.List.{with_items_is}
use Rattle.cpg_table.specs.declared.own.Own.{Own}
use Rattle.cpg_node.specs.Dispatcher.{Running, Range, least_of, is_after, possible_ends, due_reports_of, turn}
use Rattle.cpg_node.specs.Dispatcher.{acts_of_turn, zip_with, running_after}
use Rattle.cpg_node.specs.Sound.{dispatcher_of}
use Rattle.cpg_node.specs.State.{AreTimed, earlier}
use Rattle.cpg_node.specs.Plan.{IsPlaceAfter, act_of, takes}
use Rattle.cpg_node.proofs.Next.{next_is}
use Rattle.cpg_node.proofs.Lines.{moves_on_seen}
use Rattle.cpg_node.proofs.TableBounds.{AreShort, times_short}
use Rattle.cpg_node.proofs.Turning.{length_zip, acts_are, place_moves, early_turn, timed_turn, next_found, turn_is}
use Rattle.cpg_node.proofs.Turning.{returned_turn, returned_acts}
use Rattle.cpg_node.proofs.node.Node.turn.Goals as goal

-- durations of a lawful table are below 2 ^ 60
pub gather_due-requires-clause-times : goal.gather_due-requires-clause-times
gather_due-requires-clause-times c =
    subst (All AreShort) (sym c.own.ensures.own) (times_short c.self.inside.table c.own.ensures.made)

-- durations of a lawful table are below 2 ^ 60
pub earliest_end-end-requires-clause-times : goal.earliest_end-end-requires-clause-times
earliest_end-end-requires-clause-times c =
    subst (All AreShort) (sym c.own-3.ensures.own) (times_short c.self.inside.table c.own.ensures.made)

-- what runs when the next end is looked for: what the turn leaves running
runs-8 : (c : goal.After-as_slice-8) → (with_items c.self.inside.running c.turn_executions.new.running).items
    ≡ zip_with (running_after (c.args.ended.now ++ c.gather_due.new.due.items) c.gather_acts.new.acts.items
    c.in-Some.time) c.self.inside.table.own c.self.inside.running.items
runs-8 c = with_items_is c.self.inside.running c.turn_executions.new.running (omega arith) ∙ cc

-- what runs after the turn has started below 2 ^ 60: it ran before, or started at the time of an entry
timed-8 : (c : goal.After-as_slice-8) → AreTimed (with_items c.self.inside.running c.turn_executions.new.running).items
timed-8 c =
    let inside = c.self.inside in
    let invariant = c.self.invariant in
    subst AreTimed (sym (runs-8 c))
    (timed_turn (c.args.ended.now ++ c.gather_due.new.due.items) c.gather_acts.new.acts.items c.in-Some.time
    (early_turn inside.table inside.heard.items inside.running.items inside.last c.in-Some.time inside.plan.items
    c.as_slice-3.result.now c.deref.result.now inside.plan_place c.past_entries-plan_end.result invariant.planned
    invariant.entries (sym invariant.next ∙ c.in-Some.is)
    c.as_slice-3.ensures.value c.deref.ensures.value c.past_entries-plan_end.ensures.within
    c.past_entries-plan_end.ensures.before c.past_entries-plan_end.ensures.here c.as_slice-4.result.now
    c.gather_acts.new.acts.items c.gather_acts.ensures.acts invariant.early)
    inside.table.own inside.running.items invariant.starts)

-- each start is below 2^60 after the turn (`timed-8`), so a duration can be added to it
pub earliest_end-end-requires-clause-starts : goal.earliest_end-end-requires-clause-starts
earliest_end-end-requires-clause-starts c = subst AreTimed (sym c.as_slice-8.ensures.value) (timed-8 c)

-- what runs at the end of the call is the same as when the next end is looked for (`runs-8`)
runs : (c : goal.After-self-6-1) → (with_items c.self.inside.running c.turn_executions.new.running).items
    ≡ zip_with (running_after (c.args.ended.now ++ c.gather_due.new.due.items) c.gather_acts.new.acts.items
    c.in-Some.time) c.self.inside.table.own c.self.inside.running.items
runs c = with_items_is c.self.inside.running c.turn_executions.new.running (omega arith) ∙ cc

-- hearing keeps the number of ranges
heard_length : (c : goal.After-self-6-1) →
    length (with_items c.self.inside.heard c.hear_all.new.heard).items ≡ length c.self.inside.heard.items
heard_length c = ap length (with_items_is c.self.inside.heard c.hear_all.new.heard (omega arith))
    ∙ omega (arith, ap length c.as_mut_slice.ensures.value)

-- the place of the times moves on to the first after the instant of the turn
instants : (c : goal.After-self-6-1) →
    IsPlaceAfter (λ t. t) (Some c.in-Some.time) c.self.inside.times.items c.past_times-self-inside.result
instants c = moves_on_seen (λ t. t) c.self.inside.last c.self.inside.times.items c.as_slice-7.result.now
    c.self.inside.times_place c.past_times-self-inside.result c.in-Some.time
    c.self.invariant.instants
    (next_is (dispatcher_of c.self.inside) c.in-Some.time (sym c.self.invariant.next ∙ c.in-Some.is)).after
    c.as_slice-7.ensures.value c.past_times-self-inside.ensures.within
    c.past_times-self-inside.ensures.before c.past_times-self-inside.ensures.here

-- the time at that place is the first of the table's times that is left
left : (c : goal.After-self-6-1) →
    c.time_at-time.result ≡ slice_get c.self.inside.times.items c.past_times-self-inside.result
left c =
    c.time_at-time.ensures ∙ ap (λ (l : List ℕ). slice_get l c.past_times-self-inside.result) c.as_slice-9.ensures.value

-- the plan, the times and the room are as before; the places move on, and the next instant is found anew
pub invariant_of-self : goal.invariant_of-self
invariant_of-self c =
    let inside = c.self.inside in
    let invariant = c.self.invariant in
    record {
      made = invariant.made;
      -- there is one execution, or none, for each process, with starts below 2 ^ 60
      count = ap length (runs c) ∙ length_zip (running_after (c.args.ended.now ++ c.gather_due.new.due.items)
          c.gather_acts.new.acts.items c.in-Some.time) inside.table.own inside.running.items invariant.count;
      mirror = heard_length c ∙ invariant.mirror;
      starts = subst AreTimed (sym (runs c))
          (timed_turn (c.args.ended.now ++ c.gather_due.new.due.items) c.gather_acts.new.acts.items c.in-Some.time
          (early_turn inside.table inside.heard.items inside.running.items inside.last c.in-Some.time inside.plan.items
          c.as_slice-3.result.now c.deref.result.now inside.plan_place c.past_entries-plan_end.result invariant.planned
          invariant.entries (sym invariant.next ∙ c.in-Some.is)
          c.as_slice-3.ensures.value c.deref.ensures.value c.past_entries-plan_end.ensures.within
          c.past_entries-plan_end.ensures.before c.past_entries-plan_end.ensures.here c.as_slice-4.result.now
          c.gather_acts.new.acts.items c.gather_acts.ensures.acts invariant.early)
          inside.table.own inside.running.items invariant.starts);
      planned = invariant.planned;
      early = invariant.early;
      -- the places of the plan and of the times move on to what is after the instant
      entries =
          place_moves inside.table inside.heard.items inside.running.items inside.last c.in-Some.time inside.plan.items
          c.as_slice-3.result.now c.deref.result.now inside.plan_place c.past_entries-plan_end.result invariant.planned
          invariant.entries (sym invariant.next ∙ c.in-Some.is)
          c.as_slice-3.ensures.value c.deref.ensures.value c.past_entries-plan_end.ensures.within
          c.past_entries-plan_end.ensures.before c.past_entries-plan_end.ensures.here;
      times = invariant.times;
      instants = instants c;
      -- the next instant is the earlier of the next end and the next time
      next = c.earlier-self-inside.ensures ∙ ap₂ earlier (left c) (c.earliest_end-end.ensures
          ∙ ap₂ (λ (os : List Own) (rs : List (Option Running)). least_of (filter (is_after (Some c.in-Some.time))
          (flat_map (λ ends. ends) (zip_with possible_ends os rs)))) c.own-3.ensures.own
          c.as_slice-8.ensures.value)
          ∙ sym (next_found inside.table (with_items inside.heard c.hear_all.new.heard).items
          (with_items inside.running c.turn_executions.new.running).items c.in-Some.time inside.times.items
          c.past_times-self-inside.result invariant.times (instants c));
      room = omega (arith, invariant.room, c.gather_acts.ensures.room);
      due_room = omega (arith, invariant.due_room, c.gather_due.ensures.room);
    }

-- the fields after the turn make the dispatcher after it, and the acts are those of the turn
turned : (c : goal.After-self-6-1) → let inside = c.self.inside in
    (record {
      table = inside.table;
      heard = (with_items inside.heard c.hear_all.new.heard).items;
      running = (with_items inside.running c.turn_executions.new.running).items;
      last = Some c.in-Some.time;
    } ≡ turn (dispatcher_of inside) c.in-Some.time c.args.ended.now c.args.frames.now)
    × (c.gather_acts.new.acts.items
    ≡ acts_of_turn (dispatcher_of inside) c.in-Some.time c.args.ended.now c.args.frames.now)
turned c =
    let inside = c.self.inside in
    let invariant = c.self.invariant in
    -- the reports are those due (`gather_due`), the acts those of the entries of this instant (`acts_are`)
    turn_is inside.table inside.heard.items inside.running.items inside.last c.in-Some.time
    c.args.ended.now c.gather_due.new.due.items c.args.frames.now
    (with_items inside.heard c.hear_all.new.heard).items c.gather_acts.new.acts.items
    (with_items inside.running c.turn_executions.new.running).items
    (c.gather_due.ensures.reports ∙ ap₂ (λ (os : List Own) (rs : List (Option Running)).
    flat_map (λ es. es) (zip_with (due_reports_of c.in-Some.time) os rs)) c.own.ensures.own
    c.as_slice.ensures.value)
    (with_items_is inside.heard c.hear_all.new.heard (omega arith) ∙ cc)
    (acts_are inside.table inside.heard.items inside.running.items inside.last c.in-Some.time inside.plan.items
    c.as_slice-3.result.now c.deref.result.now inside.plan_place c.past_entries-plan_end.result invariant.planned
    invariant.entries (sym invariant.next ∙ c.in-Some.is)
    c.as_slice-3.ensures.value c.deref.ensures.value c.past_entries-plan_end.ensures.within
    c.past_entries-plan_end.ensures.before c.past_entries-plan_end.ensures.here
    (with_items inside.heard c.hear_all.new.heard).items c.gather_acts.new.acts.items
    (c.gather_acts.ensures.acts ∙ ap (λ (h : List Range). map act_of
    (filter (takes (inside.table.sends ++ inside.table.starts) h)
    (take (c.past_entries-plan_end.result - inside.plan_place)
    (drop inside.plan_place c.deref.result.now)))) c.as_slice-4.ensures.value))
    (runs c)

-- the next instant is that of the dispatcher, so its turn leads to this state
pub returns-clause-turn : goal.returns-clause-turn
returns-clause-turn c = returned_turn c.args.self.now (dispatcher_of c.self.inside) c.self.inside.acts.items
    c.in-Some.time _ c.args.ended.now c.args.frames.now c.self.view_is
    (sym c.self.invariant.next ∙ c.in-Some.is) (turned c).0

-- the next instant is that of the dispatcher, so its turn does these acts
pub returns-clause-acts : goal.returns-clause-acts
returns-clause-acts c = returned_acts c.args.self.now (dispatcher_of c.self.inside) c.self.inside.acts.items
    c.in-Some.time _ c.args.ended.now c.args.frames.now c.self.view_is
    (sym c.self.invariant.next ∙ c.in-Some.is) (turned c).1
