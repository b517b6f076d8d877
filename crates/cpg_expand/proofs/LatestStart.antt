-- The latest start that is found for a process, by looking at each thing that it waits for alone, is the greatest
-- unfrozen start that it would have in a run.
use Rattle.std.proofs.Common.{ℕ, ◌+◌, ◌≤◌, ◌<◌, ◌≡◌, ◌⊎◌, Bool, true, false, List, [], ◌∷◌, ◌++◌, filter, flat_map}
use Rattle.std.proofs.Common.{get_or, Option, Some, None, Contains, arith, refl, sym, ap, ◌∙◌, subst, inl, inr}
use Rattle.cpg_base.specs.Numbers.{greatest}
use Rattle.cpg_base.specs.Graph.{Graph, process_at, process_count, condition_count, node_of, inputs, is_message}
use Rattle.cpg_base.specs.Graph.{message_item}
use Rattle.cpg_base.specs.Activity.{active, live}
use Rattle.cpg_base.specs.Order.{place, before_on_node}
use Rattle.cpg_base.specs.Scenario.{Scenario, IsScenario}
use Rattle.cpg_base.proofs.Lists.{greatest_above, Contains-filter, Contains-map}
use Rattle.cpg_order.specs.Deciding.{deciding}
use Rattle.cpg_order.specs.Urgency.{IsTopological}
use Rattle.cpg_rules.specs.Guards.{Guards}
use Rattle.cpg_run.proofs.Bounded.{start_bounds_le}
use Rattle.cpg_run.proofs.RunExists.{a_run}
use Rattle.cpg_run.specs.Run.{Times, IsRun, end_in, heard_there, input_there, input_bounds, start_bounds, unfrozen_time}
use Rattle.cpg_tree_columns.specs.Greatest.{HasValueAt}
use Rattle.cpg_tree_columns.specs.Meeting.{HasWhere}
use Rattle.cpg_tree.specs.Tree.{Path, TreeState, IsOnPath}
use Rattle.cpg_tree.proofs.OnePath.{scenario_few, the_path}
use Rattle.cpg_tree.specs.GraphTrees.{IsTree}
use Rattle.cpg_expand.specs.Earlier.{IsBetween, IsAskedOf}
use Rattle.cpg_expand.specs.Forest.{ForestState, ends_of, heard_tree, heard_delay, input_tree, input_delay}
use Rattle.cpg_expand.specs.Latest.{HasEndedOf, HasHeardOf, HasInputOf, IsLatestAt, IsLatestOf, IsLatestStart}
use Rattle.cpg_tree.specs.Later.{time_later}
use Rattle.cpg_expand.proofs.AgreeingTrees.{agrees_constant}
use Rattle.cpg_expand.proofs.FrozenFound.{some_same}
use Rattle.cpg_expand.proofs.UnfrozenStart.{release_in, inputs_in}

-- In scenario s some process on p's node, at `from` or later and before p, ends at n or later, by its tree.
pub record HasEndAt (g : Graph) (order : List ℕ) (f : ForestState) (from p : ℕ) (s : Scenario) (n : ℕ) : Type 0 where
  -- the process
  pub process : ℕ
  -- it is on p's node, at `from` or later, and before p
  pub between : IsBetween g order (node_of g p) from (place order p) process
  -- its end by its tree, in this scenario
  pub time : ℕ
  -- the tree has that end in this scenario
  pub has : HasValueAt (ends_of g f process).paths (Some time) s
  -- n isn't later than that
  pub late : n ≤ time_later 0 (Some time)

-- In scenario s, with its run t, condition c is tested by a process of the span or by p, and p's node hears it at a
-- time of its tree.
pub record IsHeardAt (g : Graph) (order : List ℕ) (guards : Guards) (f : ForestState) (from p : ℕ) (s : Scenario)
    (t : Times) (c : ℕ) : Type 0 where
  -- c is a condition of the graph
  pub below : c < condition_count g
  -- the guard of such a process tests it
  pub asked : IsAskedOf g order guards (node_of g p) from (place order p + 1) c (process_count g) s.values
  -- a time of the tree from which it follows when the node hears c
  pub time : ℕ
  -- the tree has that time in this scenario
  pub has : HasValueAt (heard_tree g f (node_of g p) c).paths (Some time) s
  -- the run's time of hearing is that of the tree, with its delay
  pub is : heard_there g t (node_of g p) c ≡ time_later (heard_delay g (node_of g p) c) (Some time)

-- what the trees say of the start of p in scenario s, with its run t
pub record IsStartByTrees (g : Graph) (order : List ℕ) (guards : Guards) (f : ForestState) (chooser : TreeState Bool)
    (from p : ℕ) (s : Scenario) (t : Times) : Type 0 where
  -- `chooser` says whether p is active
  pub acts : (x : Path Bool) → IsOnPath chooser.paths s x → x.1 ≡ active g s.values p
  -- the unfrozen start is the greatest of what it waits for
  pub value : unfrozen_time g order s t p ≡ greatest (start_bounds g order s t p)
  -- no active process before p on its node ends later than one of the span does
  pub ends : (q : ℕ) → Contains (before_on_node g order p) q → active g s.values q ≡ true →
      HasEndAt g order f from p s (end_in t q)
  -- no process of the span ends, by its tree, later than the start's bounds
  pub ended : (q time : ℕ) → IsBetween g order (node_of g p) from (place order p) q →
      HasValueAt (ends_of g f q).paths (Some time) s →
      time_later 0 (Some time) ≤ greatest (start_bounds g order s t p)
  -- what decides p or one before it on the node is heard no later than one of the span ends, or it is tested in the
  -- span and heard by its tree
  pub hears : (c : ℕ) → Contains (flat_map (deciding g s.values) (before_on_node g order p ++ p ∷ [])) c →
      HasEndAt g order f from p s (heard_there g t (node_of g p) c) ⊎
      IsHeardAt g order guards f from p s t c
  -- a condition that is tested in the span or by p is heard, by its tree, no later than the start's bounds
  pub heard : (c time : ℕ) →
      IsAskedOf g order guards (node_of g p) from (place order p + 1) c (process_count g) s.values →
      HasValueAt (heard_tree g f (node_of g p) c).paths (Some time) s →
      time_later (heard_delay g (node_of g p) c) (Some time) ≤ greatest (start_bounds g order s t p)
  -- a live input from another node has a time, and is there at the end of its frame
  pub comes : (e : ℕ) → Contains (inputs g p) e → is_message g e ≡ true → live g s.values e ≡ true →
      (time : ℕ) × (get_or t.times (message_item g e) None ≡ Some time) ×
      (input_there g t e ≡ time_later (input_delay g e) (Some time))
  -- an input from another node that has a time is live
  pub lives : (e time : ℕ) → Contains (inputs g p) e → is_message g e ≡ true →
      get_or t.times (message_item g e) None ≡ Some time →
      live g s.values e ≡ true
  -- the tree of an input from another node has its time
  pub has_value : (e : ℕ) → Contains (inputs g p) e → is_message g e ≡ true →
      (x : Path (Option ℕ)) × IsOnPath (input_tree g f e).paths s x × (x.1 ≡ get_or t.times (message_item g e) None)
  -- on whatever path of that tree the scenario is
  pub valued : (e : ℕ) → Contains (inputs g p) e → is_message g e ≡ true → (x : Path (Option ℕ)) →
      IsOnPath (input_tree g f e).paths s x →
      x.1 ≡ get_or t.times (message_item g e) None
  -- a live input of the node itself is there once a process of the span has ended
  pub own : (e : ℕ) → Contains (inputs g p) e → is_message g e ≡ false → live g s.values e ≡ true →
      HasEndAt g order f from p s (input_there g t e)

-- given: trees that say in each run what the start waits for, and the latest time by each of these alone
-- `chooser`, `of_chooser`: where p is active; `from`: the place from which on the processes before p are looked at
-- `valued`: in each run, this tree and the forest give what the start waits for
-- `latest`, `top`: the latest start, as it is found by each thing alone
module _ (g : Graph) (order : List ℕ) (guards : Guards) (frozen : List (Option ℕ)) (f : ForestState)
    (chooser : TreeState Bool) (of_chooser : IsTree g chooser) (from p : ℕ)
    (topological : IsTopological g order)
    (valued : (s : Scenario) → IsScenario g s → (t : Times) → IsRun g order frozen s t →
    IsStartByTrees g order guards f chooser from p s t) (latest : Option ℕ)
    (top : IsLatestStart g order guards f (node_of g p) from (place order p) (process_at g p).release
    (inputs g p) chooser latest) where
  -- ---- in one scenario

  -- given: the run t of a scenario s
  module _ (s : Scenario) (law : IsScenario g s) (t : Times) (run : IsRun g order frozen s t) where
    -- what the trees say of the start in this run
    here : IsStartByTrees g order guards f chooser from p s t
    here = valued s law t run

    -- the latest time that an unfrozen start waits for
    abbrev bounds : ℕ
    bounds = greatest (start_bounds g order s t p)

    -- the tree of when the node is ready at the earliest has the release everywhere
    ready_value : (x : Path (Option ℕ)) → IsOnPath top.ready.paths s x → x.1 ≡ Some (process_at g p).release
    ready_value path on = (agrees_constant s (Some (process_at g p).release) g.faults top.ready
        (λ y. y ≡ Some (process_at g p).release) refl top.at).value path on

    -- if p is active, the chooser is true in this scenario
    acts_there : active g s.values p ≡ true → HasValueAt chooser.paths true s
    acts_there on = let its_path = the_path g.faults chooser.paths of_chooser.each s (scenario_few g s law) in
        (its_path.0, its_path.1, here.acts its_path.0 its_path.1 ∙ on)

    -- then the release is a time of that tree where p is active
    ready_there : active g s.values p ≡ true → HasWhere top.ready chooser (process_at g p).release s
    ready_there on =
        let its_path = the_path g.faults top.ready.paths top.each s (scenario_few g s law) in
        record { has = (its_path.0, its_path.1, ready_value its_path.0 its_path.1); there = acts_there on }

    -- if the chooser is true in this scenario, p is active
    acts : HasValueAt chooser.paths true s → active g s.values p ≡ true
    acts chosen = sym (here.acts chosen.0 chosen.1) ∙ chosen.2

    -- given: m, the latest of all that is found (`found`), and that p is active in s
    module _ (m : ℕ) (found : IsLatestAt g order guards f (node_of g p) from (place order p) top.ready
        (inputs g p) chooser m) (on : active g s.values p ≡ true) where
      -- the release is no later than m
      release_under : (process_at g p).release ≤ m
      release_under = omega (
        arith,
        found.releases.above (process_at g p).release s law (ready_there on),
        found.ends.from,
        found.hears.from,
        found.raised.from,
      )

      -- if some process before p on its node ends at n or later, by its tree, n is no later than m
      end_under : (n : ℕ) → HasEndAt g order f from p s n → n ≤ m
      -- such an end is one of those that the latest end is the greatest of, and the later steps only raise it
      end_under n ended = omega (
        arith,
        ended.late,
        found.ends.above (time_later 0 (Some ended.time)) s law
            (record {
              process = ended.process;
              below = ended.between.within;
              there =
                  record {
                    between = ended.between;
                    there = record {
                      time = ended.time;
                      has = record { has = ended.has; there = acts_there on };
                      is = refl;
                    };
                  };
            }),
        found.hears.from,
        found.raised.from,
      )

      -- a condition is heard no later than m, whether by an end before p or by its own tree
      heard_under : (c : ℕ) →
          HasEndAt g order f from p s (heard_there g t (node_of g p) c) ⊎ IsHeardAt g order guards f from p s t c →
          heard_there g t (node_of g p) c ≤ m
      -- an end is under the latest end; a tree's time is one of those that the latest hearing is the greatest of
      heard_under c (inl ended) = end_under (heard_there g t (node_of g p) c) ended
      heard_under c (inr heard) = omega (
        arith,
        heard.is,
        found.hears.above (time_later (heard_delay g (node_of g p) c) (Some heard.time)) s law
            (record {
              condition = c;
              below = heard.below;
              there = record {
                asked = heard.asked;
                acts = acts_there on;
                time = heard.time;
                has = heard.has;
                is = refl;
              };
            }),
        found.raised.from,
      )

      -- a live input is there no later than m, whether it is a message or comes from the node itself
      input_under : (e : ℕ) → Contains (inputs g p) e → live g s.values e ≡ true → (b : Bool) → is_message g e ≡ b →
          input_there g t e ≤ m
      -- a message's time is one of those that the latest input is the greatest of; any other input is there by an end
      input_under e is_input lives true sent =
          let came = here.comes e is_input sent lives in
          let its_path = here.has_value e is_input sent in
          omega (
            arith,
            came.2,
            found.raised.above (time_later (input_delay g e) (Some came.0)) s law
                (record {
                  edge = e;
                  of = is_input;
                  there = record {
                    message = sent;
                    time = came.0;
                    has = record { has = (its_path.0, its_path.1, its_path.2 ∙ came.1); there = acts_there on };
                    is = refl;
                  };
                }),
          )
      input_under e is_input lives false not_sent = end_under (input_there g t e) (here.own e is_input not_sent lives)

      -- so nothing that the start waits for is later than m
      all_under : bounds ≤ m
      all_under = start_bounds_le g order s t p m release_under
          (λ e among lives. input_under e among lives (is_message g e) refl)
          (λ q among q_acts. end_under (end_in t q) (here.ends q among q_acts))
          (λ c is_decided. heard_under c (here.hears c is_decided))

    -- an end of a process before p on its node is no later than the latest time that the start waits for
    ended_below : (m : ℕ) → HasEndedOf g order f chooser (node_of g p) from (place order p) (process_count g) m s →
        m ≤ bounds
    ended_below m ended =
        omega (
          arith,
          ended.there.there.is,
          here.ended ended.process ended.there.there.time ended.there.between ended.there.there.has.has,
        )

    -- nor is the time at which the node hears a condition that such a process or p tests
    hearing_below : (m : ℕ) →
        HasHeardOf g order guards f chooser (node_of g p) from (place order p + 1) (condition_count g) m s → m ≤ bounds
    hearing_below m heard = omega (
      arith,
      heard.there.is,
      here.heard heard.condition heard.there.time heard.there.asked heard.there.has,
    )

    -- nor is the time at which an input from another node is there
    input_below : (m : ℕ) → HasInputOf g f chooser (inputs g p) m s → m ≤ bounds
    input_below m by_input =
        let e = by_input.edge in
        let its_input = by_input.there in
        let has_its_time : get_or t.times (message_item g e) None ≡ Some its_input.time =
        sym (here.valued e by_input.of its_input.message its_input.has.has.0 its_input.has.has.1)
        ∙ its_input.has.has.2 in
        let lives = here.lives e its_input.time by_input.of its_input.message has_its_time in
        let came = here.comes e by_input.of its_input.message lives in
        let same = some_same came.0 its_input.time (sym came.1 ∙ has_its_time) in
        let bound = greatest_above (input_bounds g s t p) (input_there g t e)
        (Contains-map (input_there g t) (filter (live g s.values) (inputs g p)) e
        (Contains-filter (live g s.values) (inputs g p) e lives by_input.of)) in
        under m (input_there g t e) (time_later (input_delay g e) (Some came.0))
        (time_later (input_delay g e) (Some its_input.time)) (greatest (input_bounds g s t p)) bounds its_input.is
        came.2
        (ap (λ n. time_later (input_delay g e) (Some n)) same) bound (inputs_in g order topological s t p)
      where
        -- from the input's time to the bounds: each is no later than the next
        under : (m there a b last all : ℕ) → m ≡ b → there ≡ a → a ≡ b → there ≤ last → last ≤ all → m ≤ all
        under m there a b last all m_is_b there_is_a a_is_b there_below last_below =
            omega (arith, m_is_b, there_is_a, a_is_b, there_below, last_below)

    -- what is within the bounds is no later than the start if it weren't frozen
    by_bounds : (m : ℕ) → m ≤ bounds → m ≤ unfrozen_time g order s t p
    by_bounds m at_most = omega (arith, at_most, here.value)

  -- ---- in all

  -- no run would start the process later than the latest time
  pub latest_above : (s : Scenario) → IsScenario g s → (t : Times) → IsRun g order frozen s t →
      active g s.values p ≡ true →
      (m : ℕ) × (latest ≡ Some m) × (unfrozen_time g order s t p ≤ m)
  latest_above s law t run on = by latest refl top.is
    where
      -- there is a latest start, since p is active in this scenario, and no run starts it later
      by : (o : Option ℕ) → latest ≡ o →
          IsLatestOf g order guards f (node_of g p) from (place order p) top.ready (inputs g p) chooser o →
          (m : ℕ) × (latest ≡ Some m) ×
          (unfrozen_time g order s t p ≤ m)
      by None is_m none = absurd (none (process_at g p).release s law (ready_there s law t run on))
      by (Some m) is_m latest_at =
          (m, is_m, omega (arith, (here s law t run).value, all_under s law t run m latest_at on))

  -- some scenario starts it no earlier than the latest time
  pub latest_reached : (m : ℕ) → latest ≡ Some m →
      (s : Scenario) × IsScenario g s × (active g s.values p ≡ true) ×
      ((t : Times) → IsRun g order frozen s t → m ≤ unfrozen_time g order s t p)
  latest_reached m is_m = by
      (subst (IsLatestOf g order guards f (node_of g p) from (place order p) top.ready (inputs g p) chooser) is_m
      top.is)
    where
      -- if the chooser is true in a scenario, p is active there
      active_there : (s : Scenario) → IsScenario g s → HasValueAt chooser.paths true s → active g s.values p ≡ true
      active_there s law chosen = let its_run = a_run g order frozen s topological in
          acts s law its_run.0 its_run.1 chosen

      -- if p is active in scenario s, and its start there waits until n or later, m, which is n, is reached there
      found : (m n : ℕ) (s : Scenario) → IsScenario g s → HasValueAt chooser.paths true s → m ≡ n →
          ((t : Times) → IsRun g order frozen s t → n ≤ greatest (start_bounds g order s t p)) →
          (s : Scenario) × IsScenario g s × (active g s.values p ≡ true) ×
          ((t : Times) → IsRun g order frozen s t → m ≤ unfrozen_time g order s t p)
      found m n s law on same below =
          (s, law, active_there s law on, λ t run. by_bounds s law t run m (omega (arith, same, below t run)))

      -- the latest start is that of what raised it last: an input, a condition, an end or the release
      by : IsLatestAt g order guards f (node_of g p) from (place order p) top.ready (inputs g p) chooser m →
          (s : Scenario) × IsScenario g s × (active g s.values p ≡ true) ×
          ((t : Times) → IsRun g order frozen s t → m ≤ unfrozen_time g order s t p)
      by latest_at = elim latest_at.raised.found [
        -- an input
        | inr found_in ↦ found m m found_in.0 found_in.1 found_in.2.there.has.there refl
            (λ t run. input_below found_in.0 found_in.1 t run m found_in.2)
        | inl as_heard ↦ elim latest_at.hears.found [
          -- a condition that is heard
          | inr found_in ↦ found m latest_at.heard found_in.0 found_in.1 found_in.2.there.acts as_heard
              (λ t run. hearing_below found_in.0 found_in.1 t run latest_at.heard found_in.2)
          | inl as_ended ↦ elim latest_at.ends.found [
            -- the end of a process
            | inr found_in ↦ found m latest_at.ended found_in.0 found_in.1 found_in.2.there.there.has.there
                (as_heard ∙ as_ended)
                (λ t run. ended_below found_in.0 found_in.1 t run latest_at.ended found_in.2)
            -- when the node is ready, or the release
            | inl as_first ↦
                found m latest_at.released latest_at.releases.scenario latest_at.releases.lawful
                latest_at.releases.there.there (as_heard ∙ as_ended ∙ as_first)
                (λ t run.
                let is_release = some_same latest_at.released (process_at g p).release
                (sym latest_at.releases.there.has.2
                ∙ ready_value latest_at.releases.scenario latest_at.releases.lawful t run latest_at.releases.there.has.0
                latest_at.releases.there.has.1) in
                omega (arith, is_release, release_in g order topological latest_at.releases.scenario t p))
          ]
        ]
      ]
