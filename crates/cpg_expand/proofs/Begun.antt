-- A process has begun: its start, its end and the readiness of its node are set. If the trees before its place gave
-- the runs, the new ones do, so the process is ready to send.
use Rattle.std.proofs.Common.{ℕ, ◌+◌, ◌*◌, ◌<◌, ◌≤◌, ◌≡◌, ◌≢◌, max, Bool, true, false, if◌then◌else◌, List, [], length}
use Rattle.std.proofs.Common.{map, get_or, flat_map, Option, Some, None, unwrap_or, Contains, ◌⊎◌, arith}
use Rattle.std.proofs.Common.{refl, sym, ap, ◌∙◌, subst, inl, inr, get_or-set_same, get_or-set_other}
use Rattle.std.proofs.lemmas.Bool.{cases_eq, cases_lt, cond-false}
use Rattle.std.proofs.lemmas.List.{get_or-map}
use Rattle.std.proofs.lemmas.List.Sums.{get_or-le-sum_by}
use Rattle.std.proofs.lemmas.List.Elements.{Contains-append_left}
use Rattle.cpg_base.specs.Numbers.{greatest}
use Rattle.cpg_base.specs.Graph.{Graph, process_at, process_count, condition_count, item_count, item_at, node_of}
use Rattle.cpg_base.specs.Graph.{is_frozen, is_frozen_item, producer, producer_of_item}
use Rattle.cpg_base.specs.Activity.{active, activation, item_active}
use Rattle.cpg_base.specs.declared.item.Item.{Item}
use Rattle.cpg_base.proofs.Items.{item_at-start}
use Rattle.cpg_base.proofs.Lists.{Contains-nil, Contains-map, Contains-flat_map, Contains-flat_map_parts}
use Rattle.cpg_rules.specs.Guards.{Guards, tree_of}
use Rattle.cpg_rules.specs.Admission.{IsAdmitted}
use Rattle.cpg_order.specs.Deciding.{deciding}
use Rattle.cpg_order.specs.Guard.{Guard, outcome_at, way, IsGuardOf}
use Rattle.cpg_base.specs.Scenario.{Scenario, IsScenario, fault_of}
use Rattle.cpg_order.specs.Urgency.{IsTopological}
use Rattle.cpg_base.specs.Order.{place}
use Rattle.cpg_order.proofs.Moments.{moment, moment_of_start, phase, phases, phase_below, sooner}
use Rattle.cpg_base.proofs.Places.{Contains-order, same_place}
use Rattle.cpg_cube.specs.declared.column.Column.{Column}
use Rattle.cpg_run.specs.Run.{Times, IsRun, heard_there, unfrozen_time}
use Rattle.cpg_run.specs.Carried.{row_at, carried, carried_by_item, carried_at_start, carried_at_end, queued}
use Rattle.cpg_run.specs.Known.{AreEarly, AreSmall}
use Rattle.cpg_run.specs.Frozen.{WouldHave}
use Rattle.cpg_run.specs.Progress.{IsSentBefore, IsSentBy, free_after}
use Rattle.cpg_run.proofs.EarlyTimes.{early_from_low}
use Rattle.cpg_run.proofs.Mosts.{most_same}
use Rattle.cpg_run.proofs.Runs.{time_is}
use Rattle.cpg_run.proofs.Small.{run_small}
use Rattle.cpg_tree.specs.Space.{HasAtMostFaults}
use Rattle.cpg_tree.specs.Tree.{Path, TreeState, IsConstant}
use Rattle.cpg_expand.specs.Begun.{IsBegun, IsFrozenStart, any_start}
use Rattle.cpg_expand.specs.Earlier.{IsCut}
use Rattle.cpg_expand.specs.Sent.{sent_before, sent_so_far, IsFreeOnce}
use Rattle.cpg_expand.specs.Agreeing.{HasValueFrom}
use Rattle.cpg_expand.specs.Forest.{ForestState, HasTrees, times_of, ends_of, later_tree, ready_at, ready_by}
use Rattle.cpg_tree.specs.GraphTrees.{no_tree}
use Rattle.cpg_expand.specs.Ending.{IsReadyAfter, goes_on}
use Rattle.cpg_expand.specs.declared.forest.Ready.{Ready}
use Rattle.cpg_expand.specs.declared.forest.Ready.TheVariants.{After, At}
use Rattle.cpg_expand.specs.Grown.{RowsHold, IsReadyLine, IsFreeLine, Lines, SendLines, LeavesUnsent, IsEarlier, IsDone}
use Rattle.cpg_expand.specs.Grown.{AreSettledOf, IsGrown, IsSending}
use Rattle.cpg_expand.specs.TreeValues.{HasTreeValues}
use Rattle.cpg_expand.specs.Waited.{IsQueuedFor, IsWaitedFor, IsReadyOnce}
use Rattle.cpg_expand.specs.Waiting.{ready_of, free_of}
use Rattle.cpg_tree.proofs.OnePath.{scenario_few}
use Rattle.cpg_expand.proofs.AgreeingTrees.{agrees_weaker}
use Rattle.cpg_expand.proofs.FrozenFound.{IsFound, frozen_found, set_here}
use Rattle.cpg_expand.proofs.FrozenLine.{frozen_line, frozen_value}
use Rattle.cpg_expand.proofs.GrownLines.{valued_from_lines, lines_over}
use Rattle.cpg_expand.proofs.LatestStart.{IsStartByTrees, latest_above, latest_reached}
use Rattle.cpg_expand.proofs.NextPlace.{ready_next, ready_elsewhere, settled_idle, settled_more}
use Rattle.cpg_expand.proofs.ReadyLine.{ready_line}
use Rattle.cpg_expand.proofs.StartLine.{on_way, wait_line, start_line}
use Rattle.cpg_expand.proofs.StartByTrees.{start_is_valued}
use Rattle.cpg_expand.proofs.StartValue.{most, start_value, waited_ends, end_line}

-- ---- rows that hold what the trees list

-- a column with the time and the cube of a path
pub path_column : Path (Option ℕ) → Column
path_column path = record { time = unwrap_or path.1 0; cube = path.0 }

-- for each item a row that has the paths of its tree as columns
abbrev pub own_rows : ForestState → List (List Column)
own_rows f = map (λ (t : TreeState (Option ℕ)). map path_column t.paths) f.times

-- the rows of the trees' own paths hold what the trees list
pub own_rows_hold : (g : Graph) (order : List ℕ) (i : ℕ) (f : ForestState) → HasTrees g f →
    RowsHold g order i f (own_rows f)
unfolding path_column
own_rows_hold g order i f has = record {
  sends = λ x below sent frozen_old path time listed is. (
    path_column path,
    subst (λ (columns : List Column). Contains columns (path_column path)) (sym (row x below))
        (Contains-map path_column (times_of g f x).paths path listed),
    refl,
  );
}
  where
    -- the own row of an item has the paths of its tree
    row : (x : ℕ) → x < item_count g → row_at (own_rows f) x ≡ map path_column (times_of g f x).paths
    row x below = get_or-map (λ (t : TreeState (Option ℕ)). map path_column t.paths) f.times x (no_tree g.faults) []
        (omega (arith, below, has.times))

-- given: trees that are grown before the place of a process, and the trees once that process has begun
-- `admitted`, `order`, `topological`: an admitted graph and an order of it; `p`, `l`: one of its processes
-- `old`, `frozen_old`, `grown`: the trees and frozen times up to p's place; `new`, `frozen_new`, `trees`, `begun`:
-- those once p has begun
-- `chooser`: the tree of where p is active
module _ (g : Graph) (urgency : List ℕ) (guards : Guards) (admitted : IsAdmitted g urgency guards) (order : List ℕ)
    (topological : IsTopological g order) (p : ℕ) (l : p < process_count g)
    (old new : ForestState) (frozen_old frozen_new : List (Option ℕ)) (chooser : TreeState Bool)
    (grown : IsGrown g order (place order p) frozen_old old) (trees : HasTrees g new)
    (begun : IsBegun g order guards p old new frozen_old frozen_new chooser) where
  -- p's guard
  abbrev guard : Guard
  guard = tree_of guards p

  -- it leads to what p does in every outcome
  is_guard : IsGuardOf g urgency p (tree_of guards p)
  is_guard = admitted.guards.trees p l

  -- each process is on a node of the graph
  nodes : (q : ℕ) → q < process_count g → node_of g q < length g.nodes
  nodes q below = (admitted.limits.processes q _ below).node

  -- the process itself waits for its node, if it isn't frozen
  waits_here : is_frozen g p ≡ false → IsWaitedFor g order (place order p) (node_of g p)
  waits_here thawed = record { other = p; within = l; there = refl; later = omega arith; thawed = thawed }

  -- a node that is waited for behind the process is waited for at its place, too
  waits_before : (node : ℕ) → IsWaitedFor g order (place order p + 1) node → IsWaitedFor g order (place order p) node
  waits_before node waited =
      record {
        other = waited.other;
        within = waited.within;
        there = waited.there;
        later = omega (arith, waited.later);
        thawed = waited.thawed;
      }

  -- p is the producer of its start
  its_producer : producer g p ≡ p
  its_producer = ap (producer_of_item g) (item_at-start g p l)

  -- an item of an earlier process isn't p's start
  early_apart : (x : ℕ) → IsEarlier g order (place order p) x → x ≢ p
  early_apart x earlier same = absurd (let at = ap (λ y. place order (producer g y)) same in
      let own = ap (place order) its_producer in omega (arith, earlier, at, own))

  -- p's start is an item of the graph
  p_item : p < item_count g
  p_item = omega (arith, l)

  -- p has no frozen time yet, since its place isn't passed
  unset : get_or frozen_old p None ≡ None
  unset = grown.settled.others p (λ h f earlier. early_apart p earlier refl)

  -- each item of an earlier process has an earlier moment than p's start
  later : (y : ℕ) → y < item_count g → IsEarlier g order (place order p) y → moment g order y < moment g order p
  later y below earlier =
      let at = moment_of_start g order topological p l in
      let sooner_it : moment g order y < place order p * phases g =
      sooner (place order (producer g y)) (place order p) (phase (item_at g y)) (phases g) earlier
      (phase_below g y below) in
      omega (arith, at, sooner_it)

  -- once p has begun, what is done is the items of earlier processes, and p's start
  only : (y : ℕ) → IsDone g order p 0 y → IsEarlier g order (place order p) y ⊎ (y ≡ p)
  only y (inl e) = inl e
  only y (inr (inl e)) = inr e
  only y (inr (inr c)) = absurd (Contains-nil y c)

  -- if p's start isn't frozen, p isn't marked as frozen in the graph
  thawed_start_of : is_frozen g p ≡ false → (process_at g p).frozen ≡ false
  thawed_start_of not_frozen = sym (ap (is_frozen_item g) (item_at-start g p l)) ∙ not_frozen

  -- if it is frozen, p is marked so
  frozen_start_of : is_frozen g p ≡ true → (process_at g p).frozen ≡ true
  frozen_start_of frozen = sym (ap (is_frozen_item g) (item_at-start g p l)) ∙ frozen

  -- ---- in the run of one scenario

  -- given: a run under frozen times that are those so far for each item of an earlier process, and rows that hold
  -- what the trees list
  -- `fs`, `same`, `early`: the frozen times of the run, which are those so far for earlier items, and each below 2^58
  -- `rows`, `hold`: the rows that hold the old trees; `s`, `law`, `t`, `run`: a scenario and its run
  module _ (fs : List (Option ℕ)) (same : (x : ℕ) → x < item_count g → IsEarlier g order (place order p) x →
      get_or frozen_old x None ≡ get_or fs x None) (early : AreEarly fs)
      (rows : List (List Column)) (hold : RowsHold g order (place order p) old rows) (s : Scenario)
      (law : IsScenario g s) (t : Times) (run : IsRun g order fs s t) where
    -- a scenario of the graph has at most its faults
    few : HasAtMostFaults g.faults s
    few = scenario_few g s law

    -- it has a value for each condition
    long : length s.values ≡ condition_count g
    long = law.values

    -- each time of the run is below 2^59
    small : AreSmall t
    small = run_small g order fs s t admitted.limits topological law early run

    -- the old trees give the lines of this run up to p's place, since its frozen times agree with those so far
    lines : Lines g order rows s t (place order p) old
    lines = lines_over g order topological rows s (place order p) old frozen_old fs same
        (λ u r. grown.lines rows hold s law u r) t run

    -- so the old trees give the run's times of earlier processes, with the literals that are carried
    valued : HasTreeValues g order rows s t (place order p) old
    valued = valued_from_lines g order rows (place order p) old grown.trees hold fs s t run lines

    -- what the trees say of its start
    valued_start : (from : ℕ) → IsCut g order guards (node_of g p) from (place order p) →
        IsStartByTrees g order guards old chooser from p s t
    valued_start from cut = start_is_valued g admitted.limits order topological admitted.joins urgency admitted.urgency
        admitted.topological rows s
        law fs t run small old grown.trees p l nodes valued lines guards
        (λ q k. admitted.guards.trees q k) chooser begun.actives from cut

  -- each frozen time so far is below 2^58
  early_before : AreEarly frozen_old
  early_before = early_from_low g order frozen_old admitted.limits topological grown.settled.count grown.settled.low

  -- in each run under the frozen times so far, the trees say what p's start waits for
  all_valued : (from : ℕ) → IsCut g order guards (node_of g p) from (place order p) → (s : Scenario) → IsScenario g s →
      (t : Times) →
      IsRun g order frozen_old s t →
      IsStartByTrees g order guards old chooser from p s t
  all_valued from cut s law t run = valued_start frozen_old (λ y early same. refl) early_before (own_rows old)
      (own_rows_hold g order (place order p) old grown.trees) s law t run from cut

  -- p's start is active exactly if p is
  acts_as : (values : List Bool) → item_active g values (item_at g p) ≡ active g values p
  acts_as values = ap (item_active g values) (item_at-start g p l)

  -- if p is frozen, its time in `frozen_new` is the greatest that it would have in the runs so far
  found : IsFrozenStart g order guards p old frozen_old frozen_new chooser begun.start →
      IsFound g order frozen_old p frozen_new
  found frozen_start = frozen_found g order topological frozen_old p (omega (arith, p_item, grown.settled.count)) unset
      frozen_start.latest
      (λ s law t run on. latest_above g order guards frozen_old old chooser begun.chooser_tree frozen_start.from p
      topological
      (all_valued frozen_start.from frozen_start.cut) frozen_start.latest frozen_start.top s law t run
      (sym (acts_as s.values) ∙ on))
      (λ m is_m. let reached = latest_reached g order guards frozen_old old chooser begun.chooser_tree frozen_start.from
      p topological
      (all_valued frozen_start.from frozen_start.cut) frozen_start.latest frozen_start.top m is_m in
      (reached.0, reached.1, acts_as reached.0.values ∙ reached.2, reached.3))
      frozen_new frozen_start.frozen.set

  -- ---- the frozen times

  -- the frozen times stay settled once p's start is done
  new_settled : AreSettledOf g order (IsDone g order p 0) frozen_new
  new_settled = by begun.starts
    where
      -- an unfrozen start leaves them as they are, and a frozen one adds its latest time
      by : any_start g order guards p old frozen_old frozen_new chooser begun.start →
          AreSettledOf g order (IsDone g order p 0) frozen_new
      by (inl thawed) = subst (AreSettledOf g order (IsDone g order p 0)) (sym thawed.1)
          (settled_idle g order topological admitted.limits (IsEarlier g order (place order p))
          (IsDone g order p 0) frozen_old grown.settled p p_item later (λ y done. inl done)
          (inr (inl refl)) only thawed.0)
      by (inr frozen) =
          let result = found frozen.1 in
          settled_more g order topological admitted.limits (IsEarlier g order (place order p))
          (IsDone g order p 0) frozen_old grown.settled p p_item later (λ y done. inl done)
          (inr (inl refl)) only frozen.0 frozen_new result.is result.same result.long

  -- the frozen times of items of earlier processes stay the same
  same_earlier : (x : ℕ) → x < item_count g → IsEarlier g order (place order p) x →
      get_or frozen_old x None ≡ get_or frozen_new x None
  same_earlier x below earlier = by begun.starts
    where
      -- by whether p isn't frozen, so that none changes, or is, so that its own alone does
      by : any_start g order guards p old frozen_old frozen_new chooser begun.start →
          get_or frozen_old x None ≡ get_or frozen_new x None
      by (inl thawed) = sym (ap (λ fs. get_or fs x None) thawed.1)
      by (inr frozen) = let result = found frozen.1 in sym (result.same x (early_apart x earlier))

  -- each of the new frozen times is below 2^58
  early_after : AreEarly frozen_new
  early_after = early_from_low g order frozen_new admitted.limits topological new_settled.count new_settled.low

  -- ---- the new trees

  -- p's start has the new tree of starts
  new_time : times_of g new p ≡ begun.start
  new_time = ap (λ f. times_of g f p) begun.is
      ∙ get_or-set_same old.times p begun.start (no_tree g.faults) (omega (arith, p_item, grown.trees.times))

  -- all other items keep their trees
  other_time : (x : ℕ) → x ≢ p → times_of g new x ≡ times_of g old x
  other_time x other = ap (λ f. times_of g f x) begun.is ∙ get_or-set_other old.times p x begun.start
      (no_tree g.faults) other

  -- p's end has the new tree of ends
  new_end : ends_of g new p ≡ begun.end
  new_end = ap (λ f. ends_of g f p) begun.is
      ∙ get_or-set_same old.ends p begun.end (no_tree g.faults) (omega (arith, l, grown.trees.ends))

  -- all other processes keep their trees of ends
  other_end : (q : ℕ) → q ≢ p → ends_of g new q ≡ ends_of g old q
  other_end q other = ap (λ f. ends_of g f q) begun.is
      ∙ get_or-set_other old.ends p q begun.end (no_tree g.faults) other

  -- p's node is ready by p's ends if it goes on after them, and else by the tree that was made
  new_ready : ready_of g new (node_of g p) ≡ goes_on begun.end begun.ready
  new_ready = ap (ready_by g new) (ap (λ f. ready_at g f (node_of g p)) begun.is
      ∙ get_or-set_same old.ready (node_of g p) begun.ready (At (no_tree g.faults))
      (let node_below = nodes p l in omega (arith, node_below, grown.trees.ready))) ∙ goes begun.ready begun.ready_after
    where
      -- whether the node is ready after p's ends or by a tree, its tree is that of when it goes on
      goes : (r : Ready) → IsReadyAfter g p r → ready_by g new r ≡ goes_on begun.end r
      goes (After q) e = ap later_tree (ap (ends_of g new) e ∙ new_end)
      goes (At t) is = refl

  -- all other nodes are ready when they were before
  other_ready : (node : ℕ) → node < length g.nodes → node ≢ node_of g p → ready_of g new node ≡ ready_of g old node
  other_ready node within other = ap (ready_by g new) (ap (λ f. ready_at g f node) begun.is
      ∙ get_or-set_other old.ready (node_of g p) node begun.ready (At (no_tree g.faults)) other) ∙
      kept (ready_at g old node) refl
    where
      -- the process after whose ends another node is ready isn't this one
      kept : (r : Ready) → ready_at g old node ≡ r → ready_by g new r ≡ ready_by g old r
      kept (After q) e =
          ap later_tree (other_end q (λ same. other (sym (grown.trees.own node q within e) ∙ ap (node_of g) same)))
      kept (At t) e = refl

  -- no slot is taken by a start, so all nodes have their slots free as before
  same_free : (node : ℕ) → free_of g new node ≡ free_of g old node
  same_free node = ap (λ f. free_of g f node) begun.is

  -- rows that hold what the new trees list hold what the old ones list for earlier processes
  hold_old : (rows : List (List Column)) → RowsHold g order (place order p) new rows →
      RowsHold g order (place order p) old rows
  hold_old rows hold = record {
    sends = λ x below sent sooner path time listed is. hold.sends x below sent sooner path time (subst
        (λ (tree : TreeState (Option ℕ)). Contains tree.paths path) (sym (other_time x (early_apart x sooner))) listed)
        is;
  }

  -- ---- the lines

  -- given: rows that hold what the new trees list, and a run under the new frozen times
  -- `rows`, `hold`: the rows that hold the new trees; `s`, `law`, `t`, `run`: a scenario and its run
  module _ (rows : List (List Column)) (hold : RowsHold g order (place order p) new rows) (s : Scenario)
      (law : IsScenario g s) (t : Times) (run : IsRun g order frozen_new s t) where
    -- these rows hold the old trees
    held : RowsHold g order (place order p) old rows
    held = hold_old rows hold

    -- the scenario has at most the graph's faults
    few_faults : HasAtMostFaults g.faults s
    few_faults = scenario_few g s law

    -- each time of its run is below 2^59
    run_is_small : AreSmall t
    run_is_small = small frozen_new same_earlier early_after rows held s law t run

    -- the old trees give the lines of the run up to p's place
    lines_before : Lines g order rows s t (place order p) old
    lines_before = lines frozen_new same_earlier early_after rows held s law t run

    -- and the times of all that is before it, with the literals that are carried
    valued_before : HasTreeValues g order rows s t (place order p) old
    valued_before = valued frozen_new same_earlier early_after rows held s law t run

    -- p's node was ready by its tree, if p or a later process waits for that
    was_ready : IsWaitedFor g order (place order p) (node_of g p) →
        IsReadyLine g order rows s t (place order p) (node_of g p) (ready_of g old (node_of g p))
    was_ready waited = lines_before.ready (node_of g p) (nodes p l) waited

    -- the conditions that p's guard tests on the way in this scenario are those that decide p
    way_decides : (c : ℕ) → Contains (way guard s.values) c → Contains (deciding g s.values p) c
    way_decides = on_way g admitted.limits order topological admitted.joins urgency admitted.urgency
        admitted.topological rows s law.values
        few_faults t run_is_small old p l nodes valued_before guard is_guard

    -- the leaf that the guard leads to is what p does in this scenario
    leads_there : outcome_at guard s.values ≡ activation g s.values p
    leads_there = is_guard.is s.values law.values

    -- if p is active, p's start would have its unfrozen time in this run
    would : active g s.values p ≡ true → WouldHave g order frozen_new p (unfrozen_time g order s t p)
    would on = record { scenario = s; lawful = law; times = t; run = run; active = acts_as s.values ∙ on; has = refl }

    -- if p is frozen, its frozen time where it is active, and none elsewhere, is its time in the run
    frozen_time : is_frozen g p ≡ true → (latest : Option ℕ) → get_or frozen_new p None ≡ latest →
        (if active g s.values p then Some (unwrap_or latest 0) else None) ≡ get_or t.times p None
    frozen_time frozen (Some time) is_time = frozen_value g order frozen_new s t run p l time is_time
        (λ on. (new_settled.each p p_item frozen (inr (inl refl))).greatest time (unfrozen_time g order s t p) is_time
        (would on))
    frozen_time frozen None is_none = by (active g s.values p) refl
      where
        -- an active p has its frozen time, an inactive one none
        by : (c : Bool) → active g s.values p ≡ c →
            (if active g s.values p then Some 0 else None) ≡ get_or t.times p None
        by true on =
            absurd ((new_settled.each p p_item frozen (inr (inl refl))).none is_none (unfrozen_time g order s t p)
            (would on))
        by false idle = cond-false _ _ _ idle
            ∙ sym (time_is g order frozen_new s t run p p_item ∙ cond-false _ _ _ (acts_as s.values ∙ idle))

    -- the tree of the start has p's time in the run, by whether p isn't frozen (the start's own line) or is (its
    -- frozen time)
    started : HasValueFrom s (carried_at_start g order rows s p) (get_or t.times p None) begun.start
    started = by begun.starts
      where
        -- the start's tree gives p's time, whether p isn't frozen or is
        by : any_start g order guards p old frozen_old frozen_new chooser begun.start →
            HasValueFrom s (carried_at_start g order rows s p) (get_or t.times p None) begun.start
        by (inl thawed) =
            let was = was_ready (waits_here thawed.0) in
            subst (λ (o : Option ℕ). HasValueFrom s (carried_at_start g order rows s p) o begun.start)
            (start_value g order topological urgency admitted.urgency admitted.topological frozen_new s law.values t run
            p l guard is_guard
            was.time was.is (ap (λ fs. get_or fs p None) thawed.1 ∙ unset))
            (start_line g admitted.limits order topological admitted.joins urgency admitted.urgency admitted.topological
            rows s law.values
            few_faults t run_is_small old p l nodes valued_before guard is_guard thawed.2.wait thawed.2.waits
            was.time was.is was.has_value begun.start thawed.2.is (thawed_start_of thawed.0))
        by (inr frozen) = subst (λ (o : Option ℕ). HasValueFrom s (carried_at_start g order rows s p) o begun.start)
            (frozen_time frozen.0 frozen.1.latest (ap (λ h. get_or h p None) frozen.1.frozen.set
            ∙ set_here frozen_old p frozen.1.latest (omega (arith, p_item, grown.settled.count)) unset))
            (frozen_line g order rows s few_faults p guard leads_there way_decides (frozen_start_of frozen.0) chooser
            begun.start
            (unwrap_or frozen.1.latest 0) begun.chooser_tree begun.actives frozen.1.frozen.made)

    -- p has at most the graph's faults in this scenario
    few_here : fault_of s p ≤ g.faults
    few_here = omega (arith, get_or-le-sum_by (λ (n : ℕ). n) s.faults p 0 (omega (arith, law.faults, l)), law.budget)

    -- the tree of ends gives p's end, since the tree of starts gives its start
    ended : HasValueFrom s (carried_at_end g order rows s p) (get_or t.ends p None) begun.end
    ended = end_line g admitted.limits order frozen_new s law t run run_is_small p l few_here rows begun.start begun.end
        few_faults begun.ends started

    -- p's node goes on at p's end if p is active, and else when it was ready
    readied : IsWaitedFor g order (place order p) (node_of g p) →
        IsReadyOnce g old (node_of g p) guard chooser begun.end (goes_on begun.end begun.ready) →
        IsReadyLine g order rows s t (place order p + 1) (node_of g p) (goes_on begun.end begun.ready)
    -- `ready_next` says when the node is ready after p, and `ready_line` that the tree gives that time by what is
    -- carried
    readied waited made =
        let was = was_ready waited in
        ready_next g order topological (place order p) p l refl rows s frozen_new t run was.time
        (greatest (map (heard_there g t (node_of g p)) (way guard s.values))) was.is
        (most g order topological urgency admitted.urgency admitted.topological frozen_new s law.values t run p l guard
        is_guard
        was.time was.is)
        (waited_ends g order topological urgency admitted.urgency admitted.topological frozen_new s law.values t run p l
        guard is_guard
        was.time was.is) (goes_on begun.end begun.ready)
        (ready_line g order topological rows s few_faults t run_is_small p guard leads_there way_decides chooser
        begun.end
        made.wait (goes_on begun.end begun.ready)
        (max was.time (greatest (map (heard_there g t (node_of g p)) (way guard s.values)))) begun.actives made.is ended
        (wait_line g admitted.limits order topological admitted.joins urgency admitted.urgency admitted.topological rows
        s law.values few_faults t
        run_is_small old p l nodes valued_before guard is_guard made.wait made.waits
        was.time was.is was.has_value))

    -- the slots of p's node are free when they were, since p has sent nothing yet
    freed_by : IsFreeLine g order rows s t (place order p) (node_of g p) (free_of g old (node_of g p)) →
        IsFreeOnce g order rows s t p 0 new
    freed_by was_free = record {
      time = was_free.time;
      -- what the node has sent before p is all that it has sent
      is = most_same (free_after g t) (IsSentBefore g order s (node_of g p) (place order p))
          (IsSentBy g order s p 0) was_free.time
          (λ y sent. (sent.0, inl sent.1))
          (λ y sent. (sent.0, elim sent.1 [ inl less ↦ less | inr in_none ↦ absurd (Contains-nil y in_none) ]))
          was_free.is;
      -- so the tree has this value, by the same literals
      has_value = subst (λ (tree : TreeState ℕ).
          HasValueFrom s (flat_map (queued g order rows s) (sent_so_far g order p 0)) was_free.time tree)
          (sym (same_free (node_of g p)))
          (agrees_weaker s (free_of g old (node_of g p))
          (flat_map (queued g order rows s) (sent_before g order (place order p) (node_of g p)))
          (flat_map (queued g order rows s) (sent_so_far g order p 0)) (λ z. z ≡ was_free.time) (λ z. z ≡ was_free.time)
          (λ literal listed. let source =
          Contains-flat_map_parts (queued g order rows s) (sent_before g order (place order p) (node_of g p)) literal
          listed in
          Contains-flat_map (queued g order rows s) (sent_so_far g order p 0) source.0 literal
          (Contains-append_left (sent_before g order (place order p) (node_of g p)) [] source.0 source.1) source.2)
          (λ z equal. equal) was_free.has_value);
    }

    -- so that holds if an item waits for the slots of p's node
    freed : IsQueuedFor g order (place order p) (node_of g p) → IsFreeOnce g order rows s t p 0 new
    freed waited = freed_by (lines_before.free (node_of g p) (nodes p l) waited)

    -- the new tree of p's start gives its time, with the literals that its row carries
    time_here : HasValueFrom s (carried g order rows s p) (get_or t.times p None) (times_of g new p)
    time_here =
        subst (λ (tree : TreeState (Option ℕ)). HasValueFrom s (carried g order rows s p) (get_or t.times p None) tree)
        (sym new_time)
        (subst (λ (i : Item). HasValueFrom s (carried_by_item g order rows s p i) (get_or t.times p None) begun.start)
        (sym (item_at-start g p l)) started)

    -- the lines of the run once p has begun and sent nothing: those of before for other processes and nodes, and for
    -- p the time, the end and the readiness that are put
    send_lines : SendLines g order rows s t p 0 new
    send_lines = record {
      -- times: those of before for other items, and p's own
      times = λ x below done. elim (only x done) [
        | inl earlier ↦ subst
            (λ (tree : TreeState (Option ℕ)). HasValueFrom s (carried g order rows s x) (get_or t.times x None) tree)
            (sym (other_time x (early_apart x earlier))) (lines_before.times x below earlier)
        | inr is_p ↦ subst (λ z. HasValueFrom s (carried g order rows s z) (get_or t.times z None) (times_of g new z))
            (sym is_p) time_here
      ];
      -- ends: those of before for other processes, and p's own
      ends = λ q below less. elim (cases_eq q p) [
        | inl is_p ↦ subst (λ z. HasValueFrom s (carried_at_end g order rows s z) (get_or t.ends z None)
            (ends_of g new z))
            (sym is_p)
            (subst (λ (tree : TreeState (Option ℕ)).
            HasValueFrom s (carried_at_end g order rows s p) (get_or t.ends p None) tree) (sym new_end) ended)
        | inr other ↦ subst (λ (tree : TreeState (Option ℕ)).
            HasValueFrom s (carried_at_end g order rows s q) (get_or t.ends q None) tree) (sym (other_end q other))
            (lines_before.ends q below (sooner_end q below less other))
      ];
      -- readiness: p's node as it was put, and others as before
      ready = λ node below waited. elim (cases_eq node (node_of g p)) [
        | inl is_here ↦ subst (λ n. IsReadyLine g order rows s t (place order p + 1) n (ready_of g new n)) (sym is_here)
            (subst (λ (tree : TreeState ℕ). IsReadyLine g order rows s t (place order p + 1) (node_of g p) tree)
            (sym new_ready)
            (let waits = subst (IsWaitedFor g order (place order p + 1)) is_here waited in
            readied (waits_before (node_of g p) waits) (begun.readies waits)))
        | inr other ↦ subst (λ (tree : TreeState ℕ). IsReadyLine g order rows s t (place order p + 1) node tree)
            (sym (other_ready node below other))
            (ready_elsewhere g order topological (place order p) p l refl rows s frozen_new t run node other
            (ready_of g old node) (lines_before.ready node below (waits_before node waited)))
      ];
      -- free slots: as before, since p has sent nothing yet
      here = freed;
      free = λ node below other waited. subst
          (λ (tree : TreeState ℕ). IsFreeLine g order rows s t (place order p) node tree)
          (sym (same_free node)) (lines_before.free node below waited);
    }
      where
        -- a process other than p that isn't behind p's place stands before it
        sooner_end : (q : ℕ) → q < process_count g → place order q < place order p + 1 → q ≢ p →
            place order q < place order p
        sooner_end q below less other = elim (cases_lt (place order q) (place order p)) [
          | inl sooner ↦ sooner
          | inr not_sooner ↦ absurd (other
              (same_place order q p (Contains-order (process_count g) order topological.all q below)
              (Contains-order (process_count g) order topological.all p l)
              (omega (arith, less, not_sooner))))
        ]

  -- items that no process sends still have a tree without times
  new_unsent : LeavesUnsent g new
  new_unsent x big below not_sent = subst (λ (tree : TreeState (Option ℕ)). IsConstant None g.faults tree)
      (sym (other_time x (λ earlier. absurd (omega (arith, big, earlier, l))))) (grown.unsent x big below not_sent)

  -- so the trees are those of a process that has begun and has sent nothing yet
  pub begun_sends : IsSending g order p 0 frozen_new new
  begun_sends = record {
    trees = trees;
    unsent = new_unsent;
    settled = new_settled;
    lines = λ rows hold s law t run. send_lines rows hold s law t run;
  }
