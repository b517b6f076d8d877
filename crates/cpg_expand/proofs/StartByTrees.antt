-- The values of the trees give a start in one scenario: all that the start waits for in the run stands in a tree.
use Rattle.std.proofs.Common.{ℕ, ◌+◌, ◌<◌, ◌≤◌, ◌≡◌, ◌⊎◌, ◌==◌, Bool, true, false, if◌then◌else◌, List, [], ◌∷◌, ◌++◌}
use Rattle.std.proofs.Common.{length, flat_map, get_or, Option, Some, None, unwrap_or, option_map, Contains}
use Rattle.std.proofs.Common.{arith, refl, sym, ap, ◌∙◌, subst, inl, inr}
use Rattle.std.proofs.lemmas.Bool.{and_from, and_parts, cases_eq, cases_lt}
use Rattle.std.proofs.lemmas.List.Elements.{Contains-append_cases, Contains-append_left, Contains-append_right}
use Rattle.std.proofs.lemmas.Option.{none-some}
use Rattle.cpg_base.specs.Numbers.{greatest, numbers_below}
use Rattle.cpg_base.specs.Duration.{duration}
use Rattle.cpg_base.specs.Graph.{Graph, process_count, condition_count, item_count, item_at, node_of, source}
use Rattle.cpg_base.specs.Graph.{edge_count, target, inputs, is_message, message_item, process_of, broadcast_item}
use Rattle.cpg_base.specs.Graph.{producer}
use Rattle.cpg_base.specs.Activity.{active, is_active, live, item_active}
use Rattle.cpg_base.specs.Limits.{IsWithinLimits}
use Rattle.cpg_base.specs.WellFormed.{HasSingleJoins}
use Rattle.cpg_base.specs.Scenario.{Scenario, IsScenario, fault_of}
use Rattle.cpg_base.specs.Order.{place, before_on_node}
use Rattle.cpg_base.proofs.Inputs.{inputs_parts}
use Rattle.cpg_base.proofs.Items.{item_at-message, process_of_below}
use Rattle.cpg_base.proofs.Lists.{Contains-cases, Contains-first, Contains-nil, Contains-filter, Contains-filter_parts}
use Rattle.cpg_base.proofs.Lists.{Contains-flat_map, Contains-flat_map_parts, Contains-numbers, numbers-Contains}
use Rattle.cpg_base.proofs.Places.{Contains-order, same_place}
use Rattle.cpg_order.specs.Counting.{conditions_along}
use Rattle.cpg_order.specs.Deciding.{decides, deciding}
use Rattle.cpg_order.proofs.Along.{Contains-along}
use Rattle.cpg_order.proofs.DecidingLaws.{deciding_is_active}
use Rattle.cpg_order.specs.Urgency.{IsTopological, IsUrgencyOrder}
use Rattle.cpg_order.specs.Guard.{Guard, Leaf, Test, outcome_at, way, IsGuardOf}
use Rattle.cpg_order.proofs.Acyclic.{input_goes_up, source_in_order}
use Rattle.cpg_rules.specs.Guards.{Guards, tree_of}
use Rattle.cpg_rules.proofs.Ways.{ways_are_deciding}
use Rattle.cpg_run.proofs.CarriedBefore.{hears_earlier, producer_of_message}
use Rattle.cpg_cube.specs.declared.column.Column.{Column}
use Rattle.cpg_run.specs.Run.{Times, IsRun, end_in, time_in, frame_there, input_there, heard_there, start_bounds}
use Rattle.cpg_run.specs.Known.{AreSmall}
use Rattle.cpg_run.proofs.Runs.{acts_start, before_below, end_active, end_is, has_end, has_time, hearing_below}
use Rattle.cpg_run.proofs.Runs.{time_parts}
use Rattle.cpg_tree_columns.specs.Greatest.{HasValueAt}
use Rattle.cpg_tree.specs.Space.{HasAtMostFaults}
use Rattle.cpg_tree.specs.Tree.{Path, TreeState, IsOnPath, HasOnePathEach}
use Rattle.cpg_tree.proofs.OnePath.{scenario_few, the_path}
use Rattle.cpg_expand.specs.Agreeing.{HasValueFrom}
use Rattle.cpg_expand.specs.Earlier.{IsAskedOf, IsBetween, IsCut, is_always}
use Rattle.cpg_expand.specs.Forest.{ForestState, HasTrees, times_of, ends_of, heard_tree, heard_delay, input_tree}
use Rattle.cpg_expand.specs.Forest.{input_delay}
use Rattle.cpg_expand.specs.Grown.{Lines}
use Rattle.cpg_expand.specs.Guarded.{IsActiveTree}
use Rattle.cpg_expand.specs.TreeValues.{HasTreeValues}
use Rattle.cpg_tree.specs.Later.{time_later}
use Rattle.cpg_expand.proofs.LatestStart.{HasEndAt, IsHeardAt, IsStartByTrees}
use Rattle.cpg_expand.proofs.CarriedOn.{heard_support}
use Rattle.cpg_expand.proofs.StartLine.{frame_sent, heard_valued, message_at, on_way}
use Rattle.cpg_expand.proofs.StartTimes.{heard_exact, heard_time, input_exact, later_exact}
use Rattle.cpg_expand.proofs.TestedTrees.{tested_from, tested_parts}
use Rattle.cpg_expand.proofs.GuardTrees.{ends_tree, times_tree}
use Rattle.cpg_expand.proofs.UnfrozenStart.{before_in, before_parts, end_in_bounds, heard_in_bounds, unfrozen_is}

-- the tree from which it follows when a node hears a condition has one path for each scenario
heard_each : (g : Graph) (f : ForestState) → HasTrees g f → (node c : ℕ) → c < condition_count g →
    HasOnePathEach g.faults (heard_tree g f node c).paths
heard_each g f has node c low = by (node_of g (process_of g c) == node)
  where
    -- the broadcast of a condition is an item of the graph
    within : broadcast_item g c < item_count g
    within = omega (arith, low)

    -- by whether the condition's process is on the node: its ends or the frame's times are trees of the graph
    by : (b : Bool) →
        HasOnePathEach g.faults (if b then ends_of g f (process_of g c) else times_of g f (broadcast_item g c)).paths
    by true = (ends_tree g f has (process_of g c) (process_of_below g c low)).each
    by false = (times_tree g f has (broadcast_item g c) within).each

-- a guard that is always active leads to an active leaf
always_acts : (guard : Guard) (o : List Bool) → is_always guard ≡ true → is_active (outcome_at guard o) ≡ true
-- by induction on the guard
always_acts (Leaf a) o always = always
always_acts (Test c off on) o always =
    let parts = and_parts (is_always off) (is_always on) always in
    by (get_or o c false) (always_acts on o parts.1) (always_acts off o parts.0)
  where
    -- if the leaves of both sides are active, so is that of the side that the outcome takes
    by : (b : Bool) → is_active (outcome_at on o) ≡ true → is_active (outcome_at off o) ≡ true →
        is_active (if b then outcome_at on o else outcome_at off o) ≡ true
    by true high low = high
    by false high low = low

-- given: one scenario with its run, and trees that give its lines before the place of a process
-- `urgency`, `is_urgency`, `urgent`: the urgency order; `s`, `law`, `frozen`, `t`, `run`, `small`: a scenario and its
-- run
-- `f`, `has`, `valued`, `lines`: trees that give the times and literals of that run, for the processes before p's
-- place
-- `p`, `l`, `nodes`: a process; `guards`, `are`: the guards of the graph; `chooser`, `actives`: where p is active
-- `from`, `cut`: the place from which on the processes before p on its node have to be looked at
module _ (g : Graph) (limits : IsWithinLimits g) (order : List ℕ) (topological : IsTopological g order)
    (joins : HasSingleJoins g) (urgency : List ℕ) (is_urgency : IsUrgencyOrder g urgency)
    (urgent : IsTopological g urgency)
    (rows : List (List Column)) (s : Scenario) (law : IsScenario g s) (frozen : List (Option ℕ)) (t : Times)
    (run : IsRun g order frozen s t) (small : AreSmall t) (f : ForestState)
    (has : HasTrees g f)
    (p : ℕ) (l : p < process_count g) (nodes : (q : ℕ) → q < process_count g → node_of g q < length g.nodes)
    (valued : HasTreeValues g order rows s t (place order p) f)
    (lines : Lines g order rows s t (place order p) f)
    (guards : Guards) (are : (q : ℕ) → q < process_count g → IsGuardOf g urgency q (tree_of guards q))
    (chooser : TreeState Bool) (actives : IsActiveTree g.faults (tree_of guards p) chooser)
    (from : ℕ) (cut : IsCut g order guards (node_of g p) from (place order p)) where
  -- the scenario has at most the graph's faults
  few : HasAtMostFaults g.faults s
  few = scenario_few g s law

  -- ---- what ends before it on its node

  -- given: a process that stands before p
  module _ (q : ℕ) (k : q < process_count g) (sooner : place order q < place order p) where
    -- a process that has an end in the run is active
    acts_end : (time : ℕ) → get_or t.ends q None ≡ Some time → active g s.values q ≡ true
    acts_end time is = by (get_or t.times q None) refl
      where
        -- by the time of its start, which it has if it has an end
        by : (o : Option ℕ) → get_or t.times q None ≡ o → active g s.values q ≡ true
        by (Some y) is_o = acts_start g order frozen s t run q k (time_parts g order frozen s t run q y is_o).1
        by None is_o = absurd (none-some time (sym (end_is g order frozen s t run q k
            ∙ ap (option_map (λ start. start + duration g q (fault_of s q))) is_o) ∙ is))

    -- a time that the tree of its ends gives in this scenario is its end in the run
    ended_is : (time : ℕ) → HasValueAt (ends_of g f q).paths (Some time) s → get_or t.ends q None ≡ Some time
    ended_is time in_tree = sym ((lines.ends q k sooner).value in_tree.0 in_tree.1) ∙ in_tree.2

    -- if it is active, the tree gives its end
    end_path : active g s.values q ≡ true → HasValueAt (ends_of g f q).paths (Some (end_in t q)) s
    end_path on =
        let its_path = the_path g.faults (ends_of g f q).paths (ends_tree g f has q k).each s few in (
          its_path.0,
          its_path.1,
          (lines.ends q k sooner).value its_path.0 its_path.1 ∙ has_end g order frozen s t run q k on
              ∙ ap (λ n. Some n) (sym (end_active g order frozen s t run q k on)),
        )

  -- by the end of an active process between `from` and p, all is over that is over no later than that end
  end_at : (q : ℕ) → IsBetween g order (node_of g p) from (place order p) q → active g s.values q ≡ true → (n : ℕ) →
      n ≤ end_in t q →
      HasEndAt g order f from p s n
  end_at q stands on n no_later = record {
    process = q;
    between = stands;
    time = end_in t q;
    has = end_path q stands.within stands.sooner on;
    late = let exact = later_exact (Some (end_in t q)) 0 (small.ends q) (omega arith) in omega (arith, exact, no_later);
  }

  -- if a process stands before `from`, there is one between `from` and p that is active in this scenario: the one that
  -- is always active
  cut_at : (q : ℕ) → place order q < from →
      (z : ℕ) × IsBetween g order (node_of g p) from (place order p) z × (active g s.values z ≡ true) ×
      (place order q < place order z)
  -- either `from` is 0, before which nothing stands, or the cut names a process that is always active
  cut_at q less = elim cut [
    | inl none ↦ absurd (omega (arith, less, none))
    | inr cut_by ↦ (
      cut_by.0,
      cut_by.1,
      sym (ap is_active ((are cut_by.0 cut_by.1.within).is s.values law.values))
          ∙ always_acts (tree_of guards cut_by.0) s.values cut_by.2,
      omega (arith, less, cut_by.1.after),
    )
  ]

  -- in the run no active process ends before it starts
  time_before_end : (z : ℕ) → z < process_count g → active g s.values z ≡ true → time_in t z ≤ end_in t z
  time_before_end z below on = omega (arith, end_active g order frozen s t run z below on)

  -- an active process before p on its node has ended once one between `from` and p has: that process itself, or one
  -- that waits for it
  before_ended : (q : ℕ) → q < process_count g → place order q < place order p → node_of g q ≡ node_of g p →
      active g s.values q ≡ true →
      HasEndAt g order f from p s (end_in t q)
  -- by whether q stands at `from` or later, or before it
  before_ended q below sooner there on = elim (cases_lt (place order q) from) [
    | inr from_on ↦
        end_at q (record { within = below; there = there; after = from_on; sooner = sooner }) on (end_in t q)
        (omega arith)
    | inl less ↦
        let cutter = cut_at q less in
        end_at cutter.0 cutter.1 cutter.2 (end_in t q) (omega (
          arith,
          before_below g order frozen s t run cutter.0 q cutter.1.within cutter.2
              (before_in g order topological s t cutter.0 q below cutter.3 (there ∙ sym cutter.1.there)) on,
          time_before_end cutter.0 cutter.1.within cutter.2,
        ))
  ]

  -- given: an input of p
  module _ (e : ℕ) (is_input : Contains (inputs g p) e) where
    -- the edge is one of the graph, and leads to p
    edge_of : (e < edge_count g) × (target g e ≡ p)
    edge_of = inputs_parts g p e is_input

    -- its message is an item of the graph
    item_within : message_item g e < item_count g
    item_within = let below = edge_of.0 in omega arith

    -- the producer of its message stands before p
    earlier : place order (producer g (message_item g e)) < place order p
    earlier = let same_place = ap (place order) (producer_of_message g e edge_of.0) in
        omega (arith, same_place, input_goes_up g order topological p e is_input)

    -- if an input from another node is sent as a message, the input is live
    item_is : item_active g s.values (item_at g (message_item g e)) ≡ true → is_message g e ≡ true →
        live g s.values e ≡ true
    item_is acts sent = (and_parts (is_message g e) (live g s.values e)
        (subst (λ x. item_active g s.values x ≡ true) (item_at-message g e edge_of.0) acts)).1

    -- given: an input from another node
    module _ (sent : is_message g e ≡ true) where
      -- if the input is live, its message is sent
      acts : live g s.values e ≡ true → item_active g s.values (item_at g (message_item g e)) ≡ true
      acts lives = subst (λ x. item_active g s.values x ≡ true) (sym (item_at-message g e edge_of.0))
          (and_from (is_message g e) (live g s.values e) sent lives)

      -- the message of a live input has a time in the run, and the input is there a frame's length after it
      comes : live g s.values e ≡ true →
          (time : ℕ) × (get_or t.times (message_item g e) None ≡ Some time) ×
          (input_there g t e ≡ time_later (input_delay g e) (Some time))
      -- an active message has a time in a run, and the delay of such an input is its slot's length
      comes lives =
          let has_its_time = has_time g order frozen s t run (message_item g e) item_within (acts lives) in (
            time_in t (message_item g e),
            has_its_time,
            sym (input_exact g limits t small e)
                ∙ ap (time_later (input_delay g e)) (ap (λ (b : Bool). if b then get_or t.times (message_item g e) None
                else get_or t.ends (source g e) None) sent ∙ has_its_time),
          )

      -- the tree of the input gives the message's time
      its_value : (path : Path (Option ℕ)) → IsOnPath (input_tree g f e).paths s path →
          path.1 ≡ get_or t.times (message_item g e) None
      its_value path on = (lines.times (message_item g e) item_within earlier).value path
          (subst (λ (b : Bool).
          IsOnPath (if b then times_of g f (message_item g e) else ends_of g f (source g e)).paths s path) sent on)

      -- the tree has such a path in this scenario
      its_path : (x : Path (Option ℕ)) × IsOnPath (input_tree g f e).paths s x ×
          (x.1 ≡ get_or t.times (message_item g e) None)
      its_path =
          let found_path = the_path g.faults (times_of g f (message_item g e)).paths
          (times_tree g f has (message_item g e) item_within).each s (scenario_few g s law) in
          let on = subst (λ (b : Bool). IsOnPath (if b then times_of g f (message_item g e)
          else ends_of g f (source g e)).paths s found_path.0) (sym sent) found_path.1 in
          (found_path.0, on, its_value found_path.0 on)

    -- given: a live input of the node itself
    module _ (own : is_message g e ≡ false) (lives : live g s.values e ≡ true) where
      -- true isn't false
      untrue : true ≡ false → ⊥
      untrue equal = cc

      -- its source is on p's node
      same_node : node_of g (source g e) ≡ node_of g p
      same_node = elim (cases_eq (node_of g (source g e)) (node_of g p)) [
        | inl same ↦ same
        | inr other ↦ absurd (untrue (sym (message_at g p e edge_of.1 other) ∙ own))
      ]

      -- the input is there at the end of its source, and by then a process between `from` and p has ended
      own_there : HasEndAt g order f from p s (input_there g t e)
      own_there =
          let is : input_there g t e ≡ end_in t (source g e) =
          ap (λ (b : Bool). if b then frame_there g t (message_item g e) else end_in t (source g e)) own in
          subst (HasEndAt g order f from p s) (sym is)
          (before_ended (source g e) (source_in_order g order topological e edge_of.0)
          (input_goes_up g order topological p e is_input) same_node (and_parts _ _ lives).0)

  -- given: a process at p's place or before it
  module _ (q : ℕ) (below : q < process_count g) (no_later : place order q ≤ place order p) where
    -- the trees give the times of what stands before q, since that stands before p too
    valued_there : HasTreeValues g order rows s t (place order q) f
    valued_there = record {
      ends = λ z z_below less on. valued.ends z z_below (omega (arith, less, no_later)) on;
      sends = λ x h big less on. valued.sends x h big (omega (arith, less, no_later)) on;
    }

    -- a condition that decides q is tested by q's guard in this scenario
    on_its_way : (c : ℕ) → c < condition_count g → decides g s.values q c ≡ true →
        Contains (way (tree_of guards q) s.values) c
    on_its_way c low d = subst (λ cs. Contains cs c)
        (sym (ways_are_deciding g urgency q (tree_of guards q) s.values is_urgency urgent (are q below) law.values))
        (Contains-filter (decides g s.values q) (conditions_along g urgency) c d
        (Contains-along g urgency urgent c low))

  -- given: such a process, and a condition that its guard tests in this scenario
  module _ (q : ℕ) (below : q < process_count g) (no_later : place order q ≤ place order p) (c : ℕ)
      (tested : Contains (way (tree_of guards q) s.values) c) where
    -- a condition that q's guard tests on the way decides q
    decides_there : Contains (deciding g s.values q) c
    decides_there = on_way g limits order topological joins urgency is_urgency urgent rows s law.values few t small f q
        below nodes (valued_there q below no_later) (tree_of guards q) (are q below) c tested

    -- so it is one of the graph's conditions
    decides_it : (c < condition_count g) × (decides g s.values q c ≡ true)
    decides_it =
        let parts = Contains-filter_parts (decides g s.values q) (numbers_below (condition_count g)) c decides_there in
        (numbers-Contains (condition_count g) c parts.0, parts.1)

    -- the tree from which it follows when q's node hears the condition gives the run's time
    line_of : HasValueFrom s (heard_support g order topological rows s (node_of g q) c)
        (heard_time g limits t small (node_of g q) c) (heard_tree g f (node_of g q) c)
    line_of = heard_valued g limits order topological joins urgency is_urgency urgent rows s law.values few t small f q
        below nodes (valued_there q below no_later) (tree_of guards q) (are q below) c tested

    -- the node has heard the condition
    when_heard : (time : ℕ) × (heard_time g limits t small (node_of g q) c ≡ Some time)
    when_heard = by (node_of g (process_of g c) == node_of g q) refl
      where
        -- by whether the condition's process is on that node: its end or the time of its broadcast
        by : (b : Bool) → (node_of g (process_of g c) == node_of g q) ≡ b →
            (time : ℕ) ×
            ((if b then get_or t.ends (process_of g c) None else get_or t.times (broadcast_item g c) None) ≡ Some time)
        by true is_b = (
          _,
          has_end g order frozen s t run (process_of g c) (process_of_below g c decides_it.0)
              (deciding_is_active g urgency is_urgency urgent s.values q c decides_it.0 decides_it.1),
        )
        by false is_b = (
          _,
          has_time g order frozen s t run (broadcast_item g c) (hears_earlier g order topological s q c decides_there).0
              (frame_sent g s q below nodes c decides_it.0
              (deciding_is_active g urgency is_urgency urgent s.values q c decides_it.0 decides_it.1) is_b),
        )

    -- the tree has a time in this scenario, and q's node has heard the condition a delay after it
    heard_path : (time : ℕ) × HasValueAt (heard_tree g f (node_of g q) c).paths (Some time) s ×
        (heard_there g t (node_of g q) c ≡ time_later (heard_delay g (node_of g q) c) (Some time))
    -- the scenario's path in the tree has the time at which the condition was heard in the run, less the delay
    heard_path =
        let heard = when_heard in
        let path = the_path g.faults (heard_tree g f (node_of g q) c).paths
        (heard_each g f has (node_of g q) c decides_it.0) s few in (
          heard.0,
          (path.0, path.1, line_of.value path.0 path.1 ∙ heard.1),
          sym (heard_exact g limits t small (node_of g q) c) ∙ ap (time_later (heard_delay g (node_of g q) c)) heard.1,
        )

    -- a delay after any time that the tree has in this scenario, q's node has heard the condition
    heard_value : (time : ℕ) → HasValueAt (heard_tree g f (node_of g q) c).paths (Some time) s →
        heard_there g t (node_of g q) c ≡ time_later (heard_delay g (node_of g q) c) (Some time)
    heard_value time in_tree = sym (heard_exact g limits t small (node_of g q) c)
        ∙ ap (time_later (heard_delay g (node_of g q) c)) (sym (line_of.value in_tree.0 in_tree.1) ∙ in_tree.2)

  -- given: a process of p's node at p's place or before it, and a condition that decides it
  -- `q`, `k`, `there`, `no_later`: the process; `c`, `low`, `d`: a condition that decides q in this scenario
  module _ (q : ℕ) (k : q < process_count g) (there : node_of g q ≡ node_of g p)
      (no_later : place order q ≤ place order p) (c : ℕ) (low : c < condition_count g)
      (d : decides g s.values q c ≡ true) where
    -- the tree from which it follows when a node hears c has a time in this scenario, and the node has heard c a delay
    -- after it
    abbrev Heard : ℕ → Type 0
    Heard node = (time : ℕ) × HasValueAt (heard_tree g f node c).paths (Some time) s ×
        (heard_there g t node c ≡ time_later (heard_delay g node c) (Some time))

    -- if q stands at `from` or after it, q's guard tests c, and p's node hears c by the time of c's tree
    heard_at : from ≤ place order q → IsHeardAt g order guards f from p s t c
    heard_at after =
        let tests_c = on_its_way q k no_later c low d in
        let heard : Heard (node_of g p) = subst Heard there (heard_path q k no_later c tests_c) in
        record {
          below = low;
          asked = record {
            process = q;
            below = k;
            between = record { within = k; there = there; after = after; sooner = omega (arith, no_later) };
            tested =
                tested_from (tree_of guards q) s.values c tests_c;
          };
          time = heard.0;
          has = heard.1;
          is = heard.2;
        }

    -- if q stands before `from`, c is heard by the end of a process between `from` and p, which waits for it
    heard_before : place order q < from → HasEndAt g order f from p s (heard_there g t (node_of g p) c)
    heard_before less =
        let cutter = cut_at q less in
        let in_order = before_in g order topological s t cutter.0 q k cutter.3 (there ∙ sym cutter.1.there) in
        let there_too = Contains-flat_map (deciding g s.values) (before_on_node g order cutter.0 ++ cutter.0 ∷ []) q c
        (Contains-append_left (before_on_node g order cutter.0) (cutter.0 ∷ []) q in_order)
        (Contains-filter (decides g s.values q) (numbers_below (condition_count g)) c d
        (Contains-numbers (condition_count g) c low)) in
        end_at cutter.0 cutter.1 cutter.2 (heard_there g t (node_of g p) c)
        (omega (
          arith,
          subst (λ n. heard_there g t n c ≤ time_in t cutter.0) cutter.1.there
              (hearing_below g order frozen s t run cutter.0 c cutter.1.within cutter.2 there_too),
          time_before_end cutter.0 cutter.1.within cutter.2,
        ))

    -- so p's node hears c by such an end, or by the time of c's tree
    heard_either : HasEndAt g order f from p s (heard_there g t (node_of g p) c) ⊎
        IsHeardAt g order guards f from p s t c
    heard_either = elim (cases_lt (place order q) from) [
      | inl less ↦ inl (heard_before less)
      | inr after ↦ inr (heard_at after)
    ]

  -- each condition that decides p or a process before it on its node is heard in one of these two ways
  what_hears : (c : ℕ) → Contains (flat_map (deciding g s.values) (before_on_node g order p ++ p ∷ [])) c →
      HasEndAt g order f from p s (heard_there g t (node_of g p) c) ⊎
      IsHeardAt g order guards f from p s t c
  -- the condition decides a process before p on its node, or p itself
  what_hears c decides_one =
      let chosen = Contains-flat_map_parts (deciding g s.values) (before_on_node g order p ++ p ∷ []) c decides_one in
      let is_deciding = Contains-filter_parts (decides g s.values chosen.0) (numbers_below (condition_count g)) c
      chosen.2 in
      let low = numbers-Contains (condition_count g) c is_deciding.0 in
      elim (Contains-append_cases (before_on_node g order p) (p ∷ []) chosen.0 chosen.1) [
        | inl is_before ↦ let parts = before_parts g order topological s t p chosen.0 is_before in
            heard_either chosen.0 parts.0 parts.2 (omega (arith, parts.1)) c low is_deciding.1
        | inr is_p ↦ elim (Contains-cases p [] chosen.0 is_p) [
          | inl is_first ↦ heard_either p l refl (omega arith) c low
              (subst (λ o. decides g s.values o c ≡ true) (sym is_first) is_deciding.1)
          | inr none ↦ absurd (Contains-nil chosen.0 none)
        ]
      ]

  -- a process of p's node at p's place or before it is p or one of those before p on its node
  among : (q : ℕ) → q < process_count g → node_of g q ≡ node_of g p → place order q < place order p + 1 →
      Contains (before_on_node g order p ++ p ∷ []) q
  -- processes with the same place in the order are the same
  among q below there sooner = elim (cases_lt (place order q) (place order p)) [
    | inl less ↦
        Contains-append_left (before_on_node g order p) (p ∷ []) q
        (before_in g order topological s t p q below less there)
    | inr more ↦ subst (Contains (before_on_node g order p ++ p ∷ []))
        (same_place order p q (Contains-order (process_count g) order topological.all p l)
        (Contains-order (process_count g) order topological.all q below)
        (let equal : place order p ≡ place order q = omega (arith, sooner, more) in equal))
        (Contains-append_right (before_on_node g order p) (p ∷ []) p (Contains-first p []))
  ]

  -- p's start is no earlier than the time at which its node hears a condition that a process from `from` up to p
  -- tests, by that condition's tree
  heard_in : (c time : ℕ) →
      IsAskedOf g order guards (node_of g p) from (place order p + 1) c (process_count g) s.values →
      HasValueAt (heard_tree g f (node_of g p) c).paths (Some time) s →
      time_later (heard_delay g (node_of g p) c) (Some time) ≤ greatest (start_bounds g order s t p)
  -- the condition decides that process, which is among those whose hearing bounds p's start
  heard_in c time asked in_tree =
      let process = asked.process in
      let between = asked.between in
      let no_later : place order process ≤ place order p = omega (arith, between.sooner) in
      let tested_there = tested_parts (tree_of guards process) s.values c asked.tested in
      let decided = decides_it process between.within no_later c tested_there in
      let heard_then = subst (λ n. HasValueAt (heard_tree g f n c).paths (Some time) s →
      heard_there g t n c ≡ time_later (heard_delay g n c) (Some time)) between.there
      (heard_value process between.within no_later c tested_there time) in_tree in
      omega (
        arith,
        heard_then,
        heard_in_bounds g order topological s t p process c
            (among process between.within between.there between.sooner) decided.0 decided.1,
      )

  -- nor earlier than the end of a process between `from` and p, by the tree of its ends
  ended_in : (q time : ℕ) → IsBetween g order (node_of g p) from (place order p) q →
      HasValueAt (ends_of g f q).paths (Some time) s →
      time_later 0 (Some time) ≤ greatest (start_bounds g order s t p)
  ended_in q time between in_tree =
      let its_end = ended_is q between.within between.sooner time in_tree in
      let same : end_in t q ≡ time = ap (λ o. unwrap_or o 0) its_end in
      omega (
        arith,
        same,
        end_in_bounds g order topological s t p q
            (before_in g order topological s t p q between.within between.sooner between.there)
            (acts_end q between.within between.sooner time its_end),
      )

  -- in this run the trees say all that p's start waits for
  pub start_is_valued : IsStartByTrees g order guards f chooser from p s t
  -- each field is one of the facts above
  start_is_valued = record {
    acts = λ x on. (actives s few).value x on ∙ ap is_active ((are p l).is s.values law.values);
    value = unfrozen_is g order topological s t p l;
    ends =
        λ q is_before on. let parts = before_parts g order topological s t p q is_before in
        before_ended q parts.0 parts.1 parts.2 on;
    ended = ended_in;
    hears = what_hears;
    heard = heard_in;
    comes = λ e is_input sent lives. comes e is_input sent lives;
    lives = λ e time is_input sent is. item_is e is_input
        ((time_parts g order frozen s t run (message_item g e) time is).1) sent;
    has_value = λ e is_input sent. its_path e is_input sent;
    valued = λ e is_input sent x on. its_value e is_input sent x on;
    own = λ e is_input sent lives. own_there e is_input sent lives;
  }
