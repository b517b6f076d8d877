-- The latest time that is found for an item that is sent, by looking at each thing that it waits for alone, is the
-- greatest unfrozen time that it would have in a run.
use Rattle.std.proofs.Common.{ℕ, ◌+◌, ◌*◌, ◌^◌, ◌<◌, ◌≤◌, ◌≡◌, Bool, true, List, get_or, Option, Some, None, Contains}
use Rattle.std.proofs.Common.{arith, lt-ltb, refl, sym, ap, ◌∙◌, subst, inl, inr, mul-le-mul_right}
use Rattle.std.proofs.lemmas.Bool.{cases_lt, cond-true}
use Rattle.cpg_base.specs.Bus.{round, offset, first_from, next_slot}
use Rattle.cpg_base.specs.Graph.{Graph, item_count, item_at, home, producer}
use Rattle.cpg_base.specs.Numbers.{greatest}
use Rattle.cpg_base.proofs.Lists.{greatest_above, Contains-first}
use Rattle.cpg_order.specs.Queue.{queued_before}
use Rattle.cpg_base.specs.Activity.{item_active}
use Rattle.cpg_base.specs.Scenario.{Scenario, IsScenario}
use Rattle.cpg_base.proofs.Slots.{next_slot_above, first_from_least}
use Rattle.cpg_bus.specs.Share.{share_of}
use Rattle.cpg_order.specs.Urgency.{IsTopological}
use Rattle.cpg_run.specs.Run.{Times, IsRun, end_in, time_in, send_bounds, unfrozen_time}
use Rattle.cpg_run.proofs.Bounded.{send_bounds_le}
use Rattle.cpg_run.proofs.RunExists.{a_run}
use Rattle.cpg_tree_columns.specs.Greatest.{HasValueAt}
use Rattle.cpg_tree_columns.specs.Meeting.{HasWhere}
use Rattle.cpg_tree.specs.Space.{HasAtMostFaults}
use Rattle.cpg_tree.specs.Tree.{Path, TreeState, IsOnPath}
use Rattle.cpg_tree.proofs.OnePath.{scenario_few, the_path}
use Rattle.cpg_tree.specs.GraphTrees.{IsTree}
use Rattle.cpg_expand.specs.Forest.{ForestState, times_of}
use Rattle.cpg_expand.specs.Latest.{HasQueuedOf, IsLatestSend, IsSlotAt}
use Rattle.cpg_tree_times.specs.Values.{slot_at}
use Rattle.cpg_tree.specs.Later.{time_later}
use Rattle.cpg_expand.specs.Waited.{stands_before}
use Rattle.cpg_expand.proofs.FrozenFound.{some_same}

-- ---- later times have later slots

-- if a round takes no time, all slots are at the same time
no_turn : (j k turn off : ℕ) → turn ≡ 0 → j * turn + off ≤ k * turn + off
no_turn j k turn off no_time = subst (λ n. j * n + off ≤ k * n + off) (sym no_time) (omega arith)

-- a slot of a later round is later
more_turns : (j k turn off : ℕ) → j ≤ k → j * turn + off ≤ k * turn + off
more_turns j k turn off no_more = omega (arith, mul-le-mul_right turn no_more)

-- the first slot from a later time on is no earlier
next_slot_later : (g : Graph) (node earlier later : ℕ) → earlier ≤ later →
    next_slot g node earlier ≤ next_slot g node later
next_slot_later g node earlier later no_later = elim (cases_lt 0 (round g)) [
  | inl takes_time ↦ more_turns (first_from g node earlier) (first_from g node later) (round g) (offset g node)
      (first_from_least g node earlier takes_time (first_from g node later)
      (omega (arith, no_later, next_slot_above g node later takes_time)))
  | inr no_time ↦ no_turn (first_from g node earlier) (first_from g node later) (round g) (offset g node)
      (let is_none : round g ≡ 0 = omega (arith, no_time) in is_none)
]

-- what the trees say of the send of x in scenario s, with its run t
pub record IsSendByTrees (g : Graph) (order : List ℕ) (f : ForestState) (goes : TreeState Bool)
    (end : TreeState (Option ℕ)) (x : ℕ) (s : Scenario) (t : Times) : Type 0 where
  -- `goes` says whether x is active
  pub acts : (path : Path Bool) → IsOnPath goes.paths s path → path.1 ≡ item_active g s.values (item_at g x)
  -- `end` has the end of x's producer
  pub ends : (path : Path (Option ℕ)) → IsOnPath end.paths s path → path.1 ≡ get_or t.ends (producer g x) None
  -- the producer ends where x is active
  pub ended : item_active g s.values (item_at g x) ≡ true →
      get_or t.ends (producer g x) None ≡ Some (end_in t (producer g x))
  -- that is before 2 ^ 59, so a slot is looked for
  pub early : end_in t (producer g x) < 2 ^ 59
  -- the unfrozen time is the greatest of what the send waits for
  pub value : unfrozen_time g order s t x ≡ greatest (send_bounds g order s t x)
  -- each active item before x in the queue has a time in its tree, and x isn't sent before a round after it
  pub sent : (y : ℕ) → Contains (queued_before g order x) y → item_active g s.values (item_at g y) ≡ true →
      (time : ℕ) × HasValueAt (times_of g f y).paths (Some time) s ×
      (time_in t y + round g ≡ time_later (round g) (Some time)) × (y < item_count g) ×
      (stands_before g order y x ≡ true)
  -- a round after any item that stands before x, by its tree, is no later than the greatest of these bounds
  pub came : (y time : ℕ) → y < item_count g → stands_before g order y x ≡ true →
      HasValueAt (times_of g f y).paths (Some time) s →
      time_later (round g) (Some time) ≤ greatest (send_bounds g order s t x)

-- given: trees that say in each run what the send waits for, and the latest time by each of these alone
-- `goes`, `of_goes`: where item x goes; `end`, `of_end`: the ends of its producer
-- `valued`: in each run, these trees and the forest give what the send waits for
-- `latest`, `top`: the latest time, as it is found by each thing alone
module _ (g : Graph) (order : List ℕ) (frozen : List (Option ℕ)) (topological : IsTopological g order) (f : ForestState)
    (goes : TreeState Bool) (of_goes : IsTree g goes) (end : TreeState (Option ℕ))
    (of_end : IsTree g end) (x : ℕ)
    (valued : (s : Scenario) → IsScenario g s → (t : Times) → IsRun g order frozen s t →
    IsSendByTrees g order f goes end x s t) (latest : Option ℕ)
    (top : IsLatestSend g order f (share_of g (home g x)) goes end x latest) where
  -- ---- in one scenario

  -- given: the run t of a scenario s
  module _ (s : Scenario) (law : IsScenario g s) (t : Times) (run : IsRun g order frozen s t) where
    -- what the trees say of the send in this run
    here : IsSendByTrees g order f goes end x s t
    here = valued s law t run

    -- the scenario has at most the graph's faults
    few : HasAtMostFaults g.faults s
    few = scenario_few g s law

    -- the latest time that an unfrozen send waits for
    abbrev bounds : ℕ
    bounds = greatest (send_bounds g order s t x)

    -- if the tree says that the item goes, it is active
    acts : HasValueAt goes.paths true s → item_active g s.values (item_at g x) ≡ true
    acts chosen = sym (here.acts chosen.0 chosen.1) ∙ chosen.2

    -- if the item is active, the tree says that it goes
    goes_there : item_active g s.values (item_at g x) ≡ true → HasValueAt goes.paths true s
    goes_there on = let path = the_path g.faults goes.paths of_goes.each s few in
        (path.0, path.1, here.acts path.0 path.1 ∙ on)

    -- then the tree of its producer's ends has the end where it goes
    end_there : item_active g s.values (item_at g x) ≡ true → HasWhere end goes (end_in t (producer g x)) s
    end_there on =
        let path = the_path g.faults end.paths of_end.each s few in
        record { has = (path.0, path.1, here.ends path.0 path.1 ∙ here.ended on); there = goes_there on }

    -- an end that this tree has there is the run's
    end_is : (last : ℕ) → HasWhere end goes last s → last ≡ end_in t (producer g x)
    end_is last last_end =
        some_same last (end_in t (producer g x)) (sym last_end.has.2 ∙ here.ends last_end.has.0 last_end.has.1
        ∙ here.ended (acts last_end.there))

    -- the first slot after the end is one of the bounds
    slot_in : next_slot g (home g x) (end_in t (producer g x)) ≤ bounds
    slot_in = greatest_above (send_bounds g order s t x) (next_slot g (home g x) (end_in t (producer g x)))
        (Contains-first _ _)

    -- a time at which an item queued before it leaves the slots free is no later than the bounds
    queued_below : (m : ℕ) → HasQueuedOf g order f goes x (item_count g) m s → m ≤ bounds
    queued_below m queued = omega (
      arith,
      queued.there.there.is,
      here.came queued.item queued.there.there.time queued.below queued.there.before queued.there.there.has.has,
    )

    -- what is within the bounds is no later than the send if it weren't frozen
    by_bounds : (m : ℕ) → m ≤ bounds → m ≤ unfrozen_time g order s t x
    by_bounds m at_most = omega (arith, at_most, here.value)

  -- ---- in all

  -- given: the latest time m that is found for the send of x (`found`)
  module _ (m : ℕ) (found : IsSlotAt g order f (share_of g (home g x)) goes end x m) where
    -- the latest end is one of a run, and so less than 2^59
    last_early : found.last < 2 ^ 59
    last_early =
        let its_run = a_run g order frozen found.ends.scenario topological in
        omega (
          arith,
          end_is found.ends.scenario found.ends.lawful its_run.0 its_run.1 found.last found.ends.there,
          (here found.ends.scenario found.ends.lawful its_run.0 its_run.1).early,
        )

    -- the share of the item's node gives the first slot after it
    slot_is : slot_at (share_of g (home g x)) (Some found.last) ≡ next_slot g (home g x) found.last
    slot_is = cond-true _ (next_slot g (home g x) found.last) 0 (lt-ltb found.last (2 ^ 59) last_early)

    -- no run sends the item later than the latest time
    slot_above : (s : Scenario) → IsScenario g s → (t : Times) → IsRun g order frozen s t →
        item_active g s.values (item_at g x) ≡ true →
        greatest (send_bounds g order s t x) ≤ m
    slot_above s law t run on = send_bounds_le g order s t x m
        -- the slot from the producer's end on
        (omega (
          arith,
          next_slot_later g (home g x) (end_in t (producer g x)) found.last
              (found.ends.above (end_in t (producer g x)) s law (end_there s law t run on)),
          slot_is,
          found.raised.from,
        ))
        -- a round after each item before it
        (λ y is_before y_acts.
        let its_time = (here s law t run).sent y is_before y_acts in
        omega (
          arith,
          its_time.2,
          found.raised.above (time_later (round g) (Some its_time.0)) s law (record {
            item = y;
            below = its_time.3;
            there = record {
              before = its_time.4;
              there = record {
                time = its_time.0;
                has = record { has = its_time.1; there = goes_there s law t run on };
                is = refl;
              };
            };
          }),
        ))

    -- some scenario in which the item is active sends it no earlier than m
    abbrev Reached : Type 0
    Reached = (s : Scenario) × IsScenario g s × (item_active g s.values (item_at g x) ≡ true) ×
        ((t : Times) → IsRun g order frozen s t → m ≤ unfrozen_time g order s t x)

    -- if the tree says that the item goes in a scenario, it is active there
    acts_there : (s : Scenario) → IsScenario g s → HasValueAt goes.paths true s →
        item_active g s.values (item_at g x) ≡ true
    acts_there s law chosen = let its_run = a_run g order frozen s topological in acts s law its_run.0 its_run.1 chosen

    -- the latest time is reached by a run: that of the last queued item that raised it, or else that of the latest
    -- end
    slot_reached : Reached
    slot_reached = elim found.raised.found [
      -- a queued item has raised it: in the scenario in which that is sent as late
      | inr raised_in ↦ (
        raised_in.0,
        raised_in.1,
        acts_there raised_in.0 raised_in.1 raised_in.2.there.there.has.there,
        λ t run. by_bounds raised_in.0 raised_in.1 t run m (queued_below raised_in.0 raised_in.1 t run m raised_in.2),
      )
      -- nothing has raised it: in the scenario with the latest end
      | inl same ↦ (
        found.ends.scenario,
        found.ends.lawful,
        acts_there found.ends.scenario found.ends.lawful found.ends.there.there,
        λ t run. by_bounds found.ends.scenario found.ends.lawful t run m
            (by_slot m (slot_at (share_of g (home g x)) (Some found.last)) (next_slot g (home g x) found.last)
            (next_slot g (home g x) (end_in t (producer g x)))
            (greatest (send_bounds g order found.ends.scenario t x))
            same slot_is (ap (next_slot g (home g x))
            (end_is found.ends.scenario found.ends.lawful t run found.last found.ends.there))
            (slot_in found.ends.scenario found.ends.lawful t run)),
      )
    ]
      where
        -- from the slot of the latest end to the send: each is no later than the next
        by_slot : (m a b c all : ℕ) → m ≡ a → a ≡ b → b ≡ c → c ≤ all → m ≤ all
        by_slot m a b c all m_is_a a_is_b b_is_c c_below = omega (arith, m_is_a, a_is_b, b_is_c, c_below)

  -- no run would send the item later than the latest time
  pub send_above : (s : Scenario) → IsScenario g s → (t : Times) → IsRun g order frozen s t →
      item_active g s.values (item_at g x) ≡ true →
      (m : ℕ) × (latest ≡ Some m) ×
      (unfrozen_time g order s t x ≤ m)
  send_above s law t run on = by latest refl top
    where
      -- there is a latest time, since the item goes in this scenario, and no run sends it later
      by : (o : Option ℕ) → latest ≡ o → IsLatestSend g order f (share_of g (home g x)) goes end x o →
          (m : ℕ) × (latest ≡ Some m) × (unfrozen_time g order s t x ≤ m)
      by None is_m none = absurd (none (end_in t (producer g x)) s law (end_there s law t run on))
      by (Some m) is_m found = (m, is_m, omega (arith, (here s law t run).value, slot_above m found s law t run on))

  -- some scenario sends it no earlier than the latest time
  pub send_reached : (m : ℕ) → latest ≡ Some m →
      (s : Scenario) × IsScenario g s × (item_active g s.values (item_at g x) ≡ true) ×
      ((t : Times) → IsRun g order frozen s t → m ≤ unfrozen_time g order s t x)
  send_reached m is_m = slot_reached m (subst (IsLatestSend g order f (share_of g (home g x)) goes end x) is_m top)
