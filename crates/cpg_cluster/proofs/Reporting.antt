-- What a node has reported in a play: each process at most once, at its actual end.
use Rattle.std.proofs.Common.{◌≡◌, ◌≢◌, ℕ, ◌+◌, ◌<◌, ◌≤◌, Bool, true, false, cond, ◌&&◌, ◌==◌, List, [], ◌∷◌, ◌++◌}
use Rattle.std.proofs.Common.{length, map, get_or, Contains, Option, Some, None, refl, sym, ap, ◌∙◌, subst, arith}
use Rattle.std.proofs.Common.{inl, inr, true≢false, leb, leb-true, le-leb}
use Rattle.std.specs.Prelude.{is_none}
use Rattle.std.specs.List.{flat_map}
use Rattle.std.proofs.lemmas.Bool.{cases_eq, and_parts}
use Rattle.std.proofs.lemmas.List.{length-set, get_or-set_same, get_or-set_other, get_or-replicate, length-replicate}
use Rattle.std.proofs.lemmas.List.Elements.{Contains-append_cases}
use Rattle.cpg_base.specs.Graph.{Graph, process_count, node_of}
use Rattle.cpg_base.specs.Numbers.{numbers_below}
use Rattle.cpg_base.proofs.Lists.{Contains-cases, Contains-nil, Contains-map_parts, Contains-flat_map_parts}
use Rattle.cpg_base.proofs.Ordered.{Rises, Rises-append, Rises-filter, Rises-flat_map, numbers_go_up}
use Rattle.cpg_table.specs.Table.{NodeTable}
use Rattle.cpg_cube.specs.declared.column.Column.{Column}
use Rattle.cpg_table.specs.Shape.{processes_on}
use Rattle.cpg_table.proofs.Settings.{Match, match_once}
use Rattle.cpg_node.specs.Dispatcher.{Dispatcher, Own, Range, Running, Ended, next}
use Rattle.cpg_node.proofs.Next.{by, not_by, still_by, zip_with-map, NextIs, next_is}
use Rattle.cpg_table.specs.Items.{own_process}
use Rattle.cpg_cluster.specs.Cluster.{World, Cluster, Answer, Took, Waits, Done as IsDone, ended_of, report_of}
use Rattle.cpg_cluster.specs.Cluster.{reports_now, initial_cluster, dispatcher_at, take_turn, step_by, step, play}
use Rattle.cpg_cluster.specs.Cluster.{answer}
use Rattle.cpg_cluster.specs.Cluster.{IsPlayed}
use Rattle.cpg_cluster.proofs.Nodes.{Played, node_state, planned, own_of_node}
use Rattle.cpg_cluster.proofs.Lawful.{runs_since, unreported}
use Rattle.cpg_cluster.proofs.Reached.{Reached, reached_open, reached_step, free_from, turn_is}
use Rattle.cpg_cluster.proofs.Between.{flat_id}

-- report `q` is that of an execution of a process of the node, with its actual end
pub record IsNodeReport (g : Graph) (tables : List NodeTable) (w : World) (node : ℕ) (q : ℕ × Ended) : Type 0 where
  -- the process, which is on the node
  pub process : ℕ
  pub on : Contains (processes_on g node) process
  -- its column that matches
  pub column : Column
  pub match : Match tables w.scenario process column
  -- the report comes at the actual end of the execution
  pub time : column.time + get_or w.lengths process 0 ≡ q.0
  -- it is of this process
  pub is : q.1.process ≡ process

-- a node has reported at most one execution of each process, all by the last turn
pub record HasReported (g : Graph) (tables : List NodeTable) (w : World) (node : ℕ) (last : Option ℕ)
    (reports : List (ℕ × Ended)) : Type 0 where
  -- each report is of an execution that really ended by the last turn
  pub only : (q : ℕ × Ended) → Contains reports q → IsNodeReport g tables w node q × (by last q.0 ≡ true)
  -- no two are of one process
  pub apart : Rises (λ (a b : ℕ × Ended). a.1.process ≢ b.1.process) reports

-- the reports of process `o` at a time, if it runs `run`, are of different processes: there is one at most
single : (g : Graph) (w : World) (time : ℕ) (o : Own) (run : Option Running) →
    Rises (λ (a b : ℕ × Ended). a.1.process ≢ b.1.process) (report_of g w time o run)
single g w time o None = tt
single g w time o (Some run) = go (is_none run.report && leb (run.start + get_or w.lengths o.process 0) time)
  where
    -- there is one report, or none
    go : (b : Bool) →
        Rises (λ (a b : ℕ × Ended). a.1.process ≢ b.1.process)
        (cond b ((run.start + get_or w.lengths o.process 0, ended_of g w o) ∷ []) [])
    go true = (λ y there. absurd (Contains-nil y there), tt)
    go false = tt

-- the report q is that of an execution that runs, is over by the time and hasn't been reported
record Told (g : Graph) (w : World) (time : ℕ) (o : Own) (run : Option Running) (q : ℕ × Ended) : Type 0 where
  -- what runs
  it : Running
  runs : run ≡ Some it
  -- it hasn't been reported
  none : it.report ≡ None
  -- it is over by the time
  over : it.start + get_or w.lengths o.process 0 ≤ time
  -- the report comes at its actual end, and says its end in the world
  is : q ≡ (it.start + get_or w.lengths o.process 0, ended_of g w o)

-- each report `q` of process `o` is of its execution `run`: it is over by the time, and hasn't been reported
told : (g : Graph) (w : World) (time : ℕ) (o : Own) (run : Option Running) (q : ℕ × Ended) →
    Contains (report_of g w time o run) q →
    Told g w time o run q
told g w time o None q there = absurd (Contains-nil q there)
told g w time o (Some run) q among = go (is_none run.report
    && leb (run.start + get_or w.lengths o.process 0) time) refl among
  where
    -- a report that isn't there is none
    no_report : (o : Option Ended) → is_none o ≡ true → o ≡ None
    no_report None holds = refl
    no_report (Some r) holds = absurd (true≢false (sym holds))

    -- a report is made only if none was, and the execution is over by the time
    go : (b : Bool) → (is_none run.report && leb (run.start + get_or w.lengths o.process 0) time) ≡ b →
        Contains (cond b ((run.start + get_or w.lengths o.process 0, ended_of g w o) ∷ []) []) q →
        Told g w time o (Some run) q
    go false _ there = absurd (Contains-nil q there)
    go true b there =
        let both = and_parts (is_none run.report) (leb (run.start + get_or w.lengths o.process 0) time) b in
        record {
          it = run;
          runs = refl;
          none = no_report run.report both.0;
          over = leb-true _ _ both.1;
          is =
              elim (Contains-cases (run.start + get_or w.lengths o.process 0, ended_of g w o) [] q there) [
                | inl same ↦ sym same
                | inr in_none ↦ absurd (Contains-nil q in_none)
              ];
        }

-- given a node of a play and a time
module _ {g : Graph} {tables : List NodeTable} {w : World} (played : Played g tables w) (node : ℕ) (last : Option ℕ)
    (time : ℕ) where
  -- the reports that the node takes before its turn at the time
  abbrev now : List (ℕ × Ended)
  now = flat_map (λ o. report_of g w time o (planned g tables w last o)) (own_of_node g node)

  -- a report of now is one that the node hasn't made by its last turn, and comes by the time
  now_parts : (q : ℕ × Ended) → Contains now q → IsNodeReport g tables w node q × (by last q.0 ≡ false) × (q.0 ≤ time)
  now_parts q there =
      -- the process of the report, and its execution, whose report isn't made yet
      let of_own =
      Contains-flat_map_parts (λ o. report_of g w time o (planned g tables w last o)) (own_of_node g node) q there in
      let process = Contains-map_parts (own_process g) (processes_on g node) of_own.0 of_own.1 in
      let report = told g w time (own_process g process.0) (planned g tables w last (own_process g process.0)) q
      (subst (λ o. Contains (report_of g w time o (planned g tables w last o)) q) (sym process.2) of_own.2) in
      let run = runs_since played last process.0 report.it report.runs in
      let at : report.it.start + get_or w.lengths process.0 0 ≡ q.0 = sym (ap (λ (q : ℕ × Ended). q.0) report.is) in (
        record {
          process = process.0;
          on = process.1;
          column = run.column;
          match = run.match;
          time = ap (λ n. n + get_or w.lengths process.0 0) run.start ∙ at;
          is = ap (λ (q : ℕ × Ended). q.1.process) report.is;
        },
        ap (by last) (sym at)
            ∙ not_by last (report.it.start + get_or w.lengths process.0 0)
            (unreported played last process.0 report.it report.runs report.none),
        omega (arith, at, report.over),
      )

  -- each report `q` of process `o` is of that process
  of_own : (o : Own) (q : ℕ × Ended) → Contains (report_of g w time o (planned g tables w last o)) q →
      q.1.process ≡ o.process
  of_own o q there = ap (λ (q : ℕ × Ended). q.1.process) (told g w time o (planned g tables w last o) q there).is

  -- the reports of rising processes `ps` of a node are of different processes; by induction on the processes
  own_apart : (ps : List ℕ) → Rises (λ x y. x < y) ps →
      Rises (λ (x y : Own). (a b : ℕ × Ended) → Contains (report_of g w time x (planned g tables w last x)) a →
      Contains (report_of g w time y (planned g tables w last y)) b →
      a.1.process ≢ b.1.process) (map (own_process g) ps)
  own_apart [] rising = tt
  own_apart (p ∷ ps) rising = (
    λ own there a b in_a in_b same.
        let other = Contains-map_parts (own_process g) ps own there in
        let less = rising.0 other.0 other.1 in
        let of_a = of_own (own_process g p) a in_a in
        let of_b : b.1.process ≡ other.0 = of_own own b in_b ∙ ap (λ (o : Own). o.process) (sym other.2) in
        absurd (omega (arith, less, of_a, of_b, same)),
    own_apart ps rising.1,
  )

  -- the reports of now are of different processes
  now_apart : Rises (λ (a b : ℕ × Ended). a.1.process ≢ b.1.process) now
  now_apart =
      Rises-flat_map (λ (a b : ℕ × Ended). a.1.process ≢ b.1.process)
      (λ o. report_of g w time o (planned g tables w last o)) (own_of_node g node)
      (λ o _. single g w time o (planned g tables w last o))
      (own_apart (processes_on g node) (Rises-filter (λ x y. x < y) (λ p. node_of g p == node)
      (numbers_below (process_count g)) (numbers_go_up (process_count g))))

  -- With the reports before its next turn a node has reported at most one execution of each process, all by that
  -- instant. What was reported by the last turn isn't reported now.
  pub reports_more : (heard : List Range) → NextIs (node_state g tables w node heard last) time →
      (reports : List (ℕ × Ended)) →
      HasReported g tables w node last reports →
      HasReported g tables w node (Some time) (reports ++ now)
  reports_more heard next reports d = record {
    -- a report that is there was there before, or is of now
    only = λ q there. elim (Contains-append_cases reports now q there) [
      | inl earlier ↦ let reported = d.only q earlier in (reported.0, still_by last time q.0 next.after reported.1)
      | inr of_now ↦ let reported = now_parts q of_now in (reported.0, le-leb q.0 time reported.2)
    ];
    -- of one process there is one execution, which was either reported before or is now
    apart = Rises-append (λ (a b : ℕ × Ended). a.1.process ≢ b.1.process) reports now d.apart now_apart
        (λ a b in_reports in_now same_process.
        let before = d.only a in_reports in
        let reported_now = now_parts b in_now in
        let same : before.0.process ≡ reported_now.0.process = sym before.0.is ∙ same_process ∙ reported_now.0.is in
        let one = match_once played.setting reported_now.0.process before.0.column reported_now.0.column
        (subst (λ p. Match tables w.scenario p before.0.column) same before.0.match) reported_now.0.match in
        let times : a.0 ≡ b.0 = sym before.0.time ∙ (λ i. (one i).time + get_or w.lengths (same i) 0)
        ∙ reported_now.0.time in
        true≢false (sym before.1 ∙ ap (by last) times ∙ reported_now.1));
  }

-- given valid tables and a world
module _ {g : Graph} {tables : List NodeTable} {w : World} (played : Played g tables w) where
  -- each node of the state has reported at most one execution of each process, all by its last turn
  pub record ReportsHold (c : Cluster) : Type 0 where
    -- there is a list of reports for each node
    pub count : length c.reports ≡ length g.nodes
    pub each : (node : ℕ) → node < length g.nodes →
        HasReported g tables w node (dispatcher_at c node).last (get_or c.reports node [])

  -- what node `a` reports before its turn at a time, in state `c`, is what its processes would report as planned
  now_is : (c : Cluster) (reached : Reached g tables w c) (a : ℕ) (within : a < length g.nodes) (time : ℕ) →
      reports_now g w (dispatcher_at c a) time ≡ now played a (reached.holds a within).last time
  now_is c reached a within time =
      let last = (reached.holds a within).last in
      ap (λ d. reports_now g w d time) (reached.holds a within).is
      ∙ ap (flat_map (λ rs. rs)) (zip_with-map (report_of g w time) (planned g tables w last) (own_of_node g a))
      ∙ flat_id (λ o. report_of g w time o (planned g tables w last o)) (own_of_node g a)

  -- the reports of node `a` before a turn are of different processes
  pub reports_apart : (c : Cluster) → Reached g tables w c → (a : ℕ) → a < length g.nodes → (time : ℕ) →
      Rises (λ (x y : ℕ × Ended). x.1.process ≢ y.1.process) (reports_now g w (dispatcher_at c a) time)
  reports_apart c reached a within time = subst (Rises (λ (x y : ℕ × Ended). x.1.process ≢ y.1.process))
      (sym (now_is c reached a within time)) (now_apart played a (reached.holds a within).last time)

  -- each report `q` of node `a` before a turn is that of one of its executions
  pub report_is : (c : Cluster) (reached : Reached g tables w c) (a : ℕ) → a < length g.nodes →
      (time : ℕ) (q : ℕ × Ended) →
      Contains (reports_now g w (dispatcher_at c a) time) q →
      IsNodeReport g tables w a q
  report_is c reached a within time q there =
      (now_parts played a (reached.holds a within).last time q
      (subst (λ rs. Contains rs q) (now_is c reached a within time) there)).0

  -- before the first turn no node has reported
  hold_open : ReportsHold (initial_cluster g tables)
  hold_open = record {
    count = length-replicate (length tables) [] ∙ played.setting.shape.count;
    each = λ node l.
        let none =
        get_or-replicate {A = List (ℕ × Ended)} (length tables) node [] []
        (omega (arith, played.setting.shape.count)) in
        subst (HasReported g tables w node (dispatcher_at (initial_cluster g tables) node).last) (sym none)
        (record { only = λ q there. absurd (Contains-nil q there); apart = tt });
  }

  -- given a state that a play reaches, of which this holds
  module _ (c : Cluster) (reached : Reached g tables w c) (h : ReportsHold c) where
    -- after its turn at `time`, node `a` has reported at most one execution of each process
    hold_here : (a time : ℕ) → (within : a < length g.nodes) → answer g c a ≡ Took →
        next (dispatcher_at c a) ≡ Some time →
        HasReported g tables w a (dispatcher_at (take_turn g w c a time) a).last
        (get_or (take_turn g w c a time).reports a [])
    hold_here a time inside takes comes =
        -- the node's last turn and reports before this turn
        let within : a < length c.nodes = omega (arith, reached.nodes) in
        let counted : a < length c.reports = omega (arith, h.count) in
        let free = free_from played c reached a time takes comes in
        let state = reached.holds a inside in
        let coming = next_is (node_state g tables w a state.heard state.last) time (sym (ap next state.is) ∙ comes) in
        let before = subst (λ o. HasReported g tables w a o (get_or c.reports a []))
        (ap (λ (d : Dispatcher). d.last) state.is) (h.each a inside) in
        -- and with this turn
        let after = reports_more played a state.last time state.heard coming (get_or c.reports a []) before in
        let last =
        ap (λ (d : Dispatcher). d.last) (get_or-set_same c.nodes a _ _ within
        ∙ turn_is played c reached a inside time comes free) in
        let reports =
        get_or-set_same c.reports a _ [] counted
        ∙ ap (λ rs. get_or c.reports a [] ++ rs) (now_is c reached a inside time) in
        subst (λ o. HasReported g tables w a o (get_or (take_turn g w c a time).reports a [])) (sym last)
        (subst (HasReported g tables w a (Some time)) (sym reports) after)

    -- a turn keeps this of all nodes
    hold_turn : (a time : ℕ) → answer g c a ≡ Took → next (dispatcher_at c a) ≡ Some time →
        ReportsHold (take_turn g w c a time)
    hold_turn a time takes comes = record {
      count = length-set c.reports a _ ∙ h.count;
      each = λ node l. elim (cases_eq node a) [
        | inl is ↦ subst (λ node. HasReported g tables w node (dispatcher_at (take_turn g w c a time) node).last
            (get_or (take_turn g w c a time).reports node [])) (sym is)
            (hold_here a time (subst (λ n. n < length g.nodes) is l) takes comes)
        | inr ne ↦ subst (λ o. HasReported g tables w node o (get_or (take_turn g w c a time).reports node []))
            (sym (ap (λ (d : Dispatcher). d.last) (get_or-set_other c.nodes a node _ _ ne)))
            (subst (HasReported g tables w node (dispatcher_at c node).last)
            (sym (get_or-set_other c.reports a node _ [] ne)) (h.each node l))
      ];
    }

    -- it holds after each ask
    hold_step : (a : ℕ) → ReportsHold (step g w c a)
    hold_step a = go (answer g c a) (next (dispatcher_at c a)) refl refl
      where
        -- by what the node answers, and by whether it has a next instant
        go : (ans : Answer) (o : Option ℕ) → answer g c a ≡ ans → next (dispatcher_at c a) ≡ o →
            ReportsHold (step_by g w c a ans o)
        go Took (Some time) takes comes = hold_turn a time takes comes
        go Took None e n = h
        go (Waits b) o e n = h
        go IsDone o e n = h

  -- it holds after the nodes `turns` are asked one after another
  hold_play : (turns : List ℕ) (c : Cluster) (reached : Reached g tables w c) → ReportsHold c →
      ReportsHold (play g w c turns)
  hold_play [] c reached hold = hold
  hold_play (a ∷ rest) c reached hold = hold_play rest (step g w c a) (reached_step played c reached a)
      (hold_step c reached hold a)

  -- in every state of a play each node has reported so
  pub reports_hold : (c : Cluster) → IsPlayed g tables w c → ReportsHold c
  reports_hold c play_is = subst ReportsHold play_is.is
      (hold_play play_is.turns (initial_cluster g tables) (reached_open played) hold_open)
