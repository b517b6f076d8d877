-- What a turn requires of a node holds in every state that a play reaches: it may take its reports, and then its turn.
use Rattle.std.proofs.Common.{◌≡◌, ◌≢◌, ℕ, ◌+◌, ◌<◌, ◌≤◌, Bool, true, false, cond, ◌&&◌, ◌==◌, List, [], ◌∷◌, ◌++◌}
use Rattle.std.proofs.Common.{length, map, fold, get_or, Contains, Option, Some, None, refl, sym, ap, ◌∙◌, subst}
use Rattle.std.proofs.Common.{arith, inl, inr, eq-eqb, ne_eqb, leb, leb-true, true≢false}
use Rattle.std.specs.Prelude.{All, IfSome, is_none, is_some}
use Rattle.std.specs.List.{flat_map}
use Rattle.std.proofs.lemmas.Bool.{cond-true, cond-false, and_parts}
use Rattle.std.proofs.lemmas.List.Elements.{All-nil, All-weaker, All-contains_itself}
use Rattle.cpg_base.specs.Graph.{Graph, process_count, node_of}
use Rattle.cpg_base.specs.Activity.{value_of}
use Rattle.cpg_base.specs.Duration.{duration}
use Rattle.cpg_base.specs.Numbers.{numbers_below}
use Rattle.cpg_base.proofs.Lists.{Contains-first, Contains-rest, Contains-cases, Contains-nil, Contains-map_parts}
use Rattle.cpg_base.proofs.Lists.{Contains-filter_parts, get_or-map-below, numbers-Contains}
use Rattle.cpg_base.proofs.Ordered.{Rises, Rises-filter, numbers_go_up}
use Rattle.cpg_base.specs.Scenario.{fault_of}
use Rattle.cpg_table.specs.Table.{NodeTable, table_at}
use Rattle.cpg_table.specs.Shape.{processes_on}
use Rattle.cpg_node.specs.Dispatcher.{Dispatcher, Own, OwnTable, Range, Running, Ended, with_report, finished, next}
use Rattle.cpg_node.specs.State.{running_in, time_of, MayFinish, MayTurn, EndsAt, ArrivesAt}
use Rattle.cpg_node.proofs.Next.{zip_with-map, next_is}
use Rattle.cpg_node.proofs.Turning.{next_reported}
use Rattle.cpg_table.specs.Items.{own_process}
use Rattle.cpg_cluster.specs.Cluster.{World, Cluster, dispatcher_at, own_table, ended_of, report_of, reports_now}
use Rattle.cpg_cluster.specs.Cluster.{reported, frames_now}
use Rattle.cpg_cluster.specs.Taking.{IsOwnOf, AllFinish}
use Rattle.cpg_cluster.proofs.Nodes.{Played, node_state, planned, own_of_node}
use Rattle.cpg_cluster.proofs.Executions.{on_node, few_faults}
use Rattle.cpg_cluster.proofs.Turns.{own_found}
use Rattle.cpg_cluster.proofs.Lawful.{unreported, frame_column, frame_time}
use Rattle.cpg_cluster.proofs.Sending.{frame_parts}
use Rattle.cpg_cluster.proofs.Reached.{Reached}
use Rattle.cpg_cluster.proofs.Between.{flat_id}

-- Reports change nothing but what runs.

-- reports do not change a node's next instant; by induction on `es`
pub next_finished : (d : Dispatcher) (es : List Ended) → next (fold finished d es) ≡ next d
next_finished d [] = refl
next_finished d (e ∷ es) = next_finished (finished d e) es ∙ next_reported e d.table d.heard d.running d.last

-- reports do not change a node's table; by induction on `es`
pub table_finished : (d : Dispatcher) (es : List Ended) → (fold finished d es).table ≡ d.table
table_finished d [] = refl
table_finished d (e ∷ es) = table_finished (finished d e) es

-- the execution of a process is found if the processes of a node are all different; by induction on `ps`
running_found : (g : Graph) (h : Own → Option Running) (ps : List ℕ) → Rises (λ x y. x < y) ps → (p : ℕ) →
    Contains ps p →
    running_in (map (own_process g) ps) (map h (map (own_process g) ps)) p ≡ h (own_process g p)
running_found g h [] rising p there = absurd (Contains-nil p there)
running_found g h (q ∷ qs) rising p there = elim (Contains-cases q qs p there) [
  | inl same ↦ cond-true (q == p) (h (own_process g q))
      (running_in (map (own_process g) qs) (map h (map (own_process g) qs)) p) (eq-eqb q p same)
      ∙ ap (λ n. h (own_process g n)) same
  | inr later ↦ cond-false (q == p) (h (own_process g q)) (running_in (map (own_process g) qs)
      (map h (map (own_process g) qs)) p) (ne_eqb q p (λ same. let above = rising.0 p later in
      absurd (omega (arith, above, same)))) ∙
      running_found g h qs rising.1 p later
]

-- given a node with its next instant
module _ {g : Graph} {tables : List NodeTable} {w : World} (played : Played g tables w) (node : ℕ)
    (inside : node < length g.nodes) (heard : List Range) (last : Option ℕ) (time : ℕ)
    (comes : next (node_state g tables w node heard last) ≡ Some time) where
  -- the node's table
  abbrev table : OwnTable
  table = own_table g node (table_at tables node)

  -- its processes are in rising order
  processes_rise : Rises (λ x y. x < y) (processes_on g node)
  processes_rise = Rises-filter (λ x y. x < y) (λ p. node_of g p == node) (numbers_below (process_count g))
      (numbers_go_up (process_count g))

  -- the node's state, in which each process runs what h says
  abbrev state : (Own → Option Running) → Dispatcher
  state h = record { table = table; heard = heard; running = map h (own_of_node g node); last = last }

  -- The report of `run`, what process `p` runs by `h`, may be taken if it is over by the time: it has no report yet,
  -- the faults are few, the execution has taken some time and no longer than planned, and the report comes after the
  -- last turn and not after the next.
  may : (h : Own → Option Running) → next (state h) ≡ Some time → (p : ℕ) → Contains (processes_on g node) p →
      (run : Running) →
      h (own_process g p) ≡ Some run →
      planned g tables w last (own_process g p) ≡ Some run →
      run.report ≡ None → run.start + get_or w.lengths p 0 ≤ time →
      MayFinish (state h) (run.start + get_or w.lengths p 0) (ended_of g w (own_process g p))
  may h n p on run is plan none over =
      -- the process is one of the node's, with few faults, and its table knows how long it takes
      let within = (on_node played node inside heard last time
      (next_is (node_state g tables w node heard last) time comes) p on).0 in
      let few = few_faults played node inside heard last time
      (next_is (node_state g tables w node heard last) time comes) p within in
      let long = played.world.lengths p within in
      let own = own_found played node inside p on in
      let span : time_of (state h) p (fault_of w.scenario p) ≡ duration g p (fault_of w.scenario p) =
      ap (λ (o : Own). get_or o.times (fault_of w.scenario p) 0) own
      ∙ get_or-map-below (duration g p) (g.faults + 1) (fault_of w.scenario p) 0 (omega (arith, few)) in
      -- what the report of it needs
      record {
        run = run;
        runs = running_found g h (processes_on g node) processes_rise p on ∙ is;
        unreported = none;
        few = few;
        plain =
            λ e. ap (λ o. is_some o && value_of g w.scenario.values p) (sym (ap (λ (o : Own). o.condition) own) ∙ e);
        started = omega (arith, long);
        in_time = omega (arith, long, span);
        later = unreported played last p run plan none;
        before = subst (λ o. IfSome o (λ n. run.start + get_or w.lengths p 0 ≤ n)) (sym n) over;
      }

  -- what each process runs after the report of process p
  after : (Own → Option Running) → ℕ → Own → Option Running
  after h p o = with_report (ended_of g w (own_process g p)) o (h o)

  -- a report of process `p` leaves the state with what runs after it, `after h p`
  state_after : (h : Own → Option Running) (p : ℕ) →
      finished (state h) (ended_of g w (own_process g p)) ≡ state (after h p)
  unfolding after
  state_after h p = ap (λ rs. record { table = table; heard = heard; running = rs; last = last })
      (zip_with-map (with_report (ended_of g w (own_process g p))) h (own_of_node g node))

  -- a report of process `p` changes nothing of the next instant
  next_after : (h : Own → Option Running) (p : ℕ) → next (state h) ≡ Some time → next (state (after h p)) ≡ Some time
  next_after h p comes_next = ap next (sym (state_after h p))
      ∙ next_reported (ended_of g w (own_process g p)) table heard (map h (own_of_node g node)) last ∙ comes_next

  -- after a report of process `p`, another process `q` runs what it ran before, as `h` says
  kept : (h : Own → Option Running) (p q : ℕ) → q ≢ p → after h p (own_process g q) ≡ h (own_process g q)
  unfolding after
  kept h p q ne = other (h (own_process g q))
    where
      -- whether that runs or not
      other : (o : Option Running) → with_report (ended_of g w (own_process g p)) (own_process g q) o ≡ o
      other None = refl
      other (Some run) = cond-false (q == p) (Some (record run { report = Some (ended_of g w (own_process g p)) }))
          (Some run) (ne_eqb q p ne)

  -- a report that isn't there is none
  no_report : (o : Option Ended) → is_none o ≡ true → o ≡ None
  no_report None holds = refl
  no_report (Some r) holds = absurd (true≢false (sym holds))

  -- If the reports of the later processes, `rest`, may be taken, so may that of process `p`, if it has one, and then
  -- theirs.
  one_more : (h : Own → Option Running) → next (state h) ≡ Some time → (p : ℕ) → Contains (processes_on g node) p →
      h (own_process g p) ≡ planned g tables w last (own_process g p) →
      (rest : List (ℕ × Ended)) →
      AllFinish (state h) rest → AllFinish (state (after h p)) rest →
      AllFinish (state h) (report_of g w time (own_process g p) (planned g tables w last (own_process g p)) ++ rest)
  one_more h comes_next p on same rest before then = go (planned g tables w last (own_process g p)) refl
    where
      -- by whether p's execution was planned and has begun
      go : (o : Option Running) → planned g tables w last (own_process g p) ≡ o →
          AllFinish (state h) (report_of g w time (own_process g p) o ++ rest)
      go None is = before
      go (Some run) is = test (is_none run.report && leb (run.start + get_or w.lengths p 0) time) refl
        where
          -- it is reported if it has no report and is over by the time
          test : (b : Bool) → (is_none run.report && leb (run.start + get_or w.lengths p 0) time) ≡ b →
              AllFinish (state h)
              (cond b ((run.start + get_or w.lengths p 0, ended_of g w (own_process g p)) ∷ []) [] ++ rest)
          test false _ = before
          test true b =
              let both = and_parts (is_none run.report) (leb (run.start + get_or w.lengths p 0) time) b in (
                may h comes_next p on run (same ∙ is) is (no_report run.report both.0) (leb-true _ _ both.1),
                subst (λ d. AllFinish d rest) (sym (state_after h p)) then,
              )

  -- If each of the rising processes `ps` runs as planned in the state that `h` says, their reports may be taken one
  -- after another. By induction on the processes: a report of the first changes nothing of the others.
  all_from : (h : Own → Option Running) → next (state h) ≡ Some time → (ps : List ℕ) → Rises (λ x y. x < y) ps →
      ((p : ℕ) → Contains ps p → Contains (processes_on g node) p) →
      ((p : ℕ) → Contains ps p → h (own_process g p) ≡ planned g tables w last (own_process g p)) →
      AllFinish (state h) (flat_map (λ o. report_of g w time o (planned g tables w last o)) (map (own_process g) ps))
  all_from h comes_next [] rising on same = tt
  all_from h comes_next (p ∷ ps) rising on same = one_more h comes_next p (on p (Contains-first p ps))
      (same p (Contains-first p ps))
      (flat_map (λ o. report_of g w time o (planned g tables w last o)) (map (own_process g) ps))
      (all_from h comes_next ps rising.1 (λ q there. on q (Contains-rest p ps q there))
      (λ q there. same q (Contains-rest p ps q there)))
      (all_from (after h p) (next_after h p comes_next) ps rising.1 (λ q later. on q (Contains-rest p ps q later))
      (λ q later. kept h p q (λ is. let above = rising.0 q later in absurd (omega (arith, above, is)))
      ∙ same q (Contains-rest p ps q later)))

  -- a node may take the reports of all executions that are over by its next instant
  pub all_finish : AllFinish (node_state g tables w node heard last)
      (reports_now g w (node_state g tables w node heard last) time)
  all_finish = subst (AllFinish (node_state g tables w node heard last))
      (sym
      (ap (flat_map (λ rs. rs)) (zip_with-map (report_of g w time) (planned g tables w last) (own_of_node g node)) ∙
      flat_id (λ o. report_of g w time o (planned g tables w last o)) (own_of_node g node)))
      (all_from (planned g tables w last) comes (processes_on g node) processes_rise (λ p c. c) (λ p c. refl))

-- given a node with its next instant in a state that a play reaches
module _ {g : Graph} {tables : List NodeTable} {w : World} (played : Played g tables w) (c : Cluster)
    (reached : Reached g tables w c) (a : ℕ) (within : a < length g.nodes) (time : ℕ)
    (comes : next (dispatcher_at c a) ≡ Some time) where
  -- a node may take the reports of all executions that are over by its next instant
  pub may_finish : AllFinish (dispatcher_at c a) (reports_now g w (dispatcher_at c a) time)
  may_finish = let state = reached.holds a within in
      subst (λ d. AllFinish d (reports_now g w d time)) (sym state.is)
      (all_finish played a within state.heard state.last time (ap next (sym state.is) ∙ comes))

  -- its next instant stays the same after these reports
  pub next_ready : next (reported g w (dispatcher_at c a) time) ≡ Some time
  next_ready =
      next_finished (dispatcher_at c a)
      (map (λ (r : ℕ × Ended). r.1) (reports_now g w (dispatcher_at c a) time)) ∙ comes

  -- the reports before a turn do not change the node's table
  pub table_ready : (reported g w (dispatcher_at c a) time).table ≡ own_table g a (table_at tables a)
  table_ready =
      table_finished (dispatcher_at c a) (map (λ (r : ℕ × Ended). r.1) (reports_now g w (dispatcher_at c a) time))
      ∙ ap (λ (d : Dispatcher). d.table) (reached.holds a within).is

  -- After these reports it may take its turn with the frames that arrive: they are of items and columns that it hears,
  -- and aren't strange.
  pub may_turn : MayTurn (reported g w (dispatcher_at c a) time) []
      (frames_now g w c (reported g w (dispatcher_at c a) time) time)
  may_turn =
      let after_reports = reported g w (dispatcher_at c a) time in
      let frames = frames_now g w c after_reports time in
      record {
        time = time;
        comes = next_ready;
        ends = All-nil (EndsAt after_reports time);
        arrive = All-weaker (Contains frames) (ArrivesAt after_reports time) (λ f there.
            let parts = frame_parts played c reached.holds a within after_reports table_ready time f there in
            record {
              there = frame_column played c reached.holds a within after_reports table_ready time f parts;
              arrives = frame_time played c reached.holds a within after_reports table_ready time f parts;
            }) frames (All-contains_itself frames);
      }

  -- its table says of each of its processes what the graph says
  pub own_known : All (IsOwnOf g) (dispatcher_at c a).table.own
  own_known = subst (All (IsOwnOf g)) (sym (ap (λ (d : Dispatcher). d.table.own) (reached.holds a within).is))
      (All-weaker (Contains (own_of_node g a)) (IsOwnOf g) (λ o there.
      let process = Contains-map_parts (own_process g) (processes_on g a) o there in
      let kept = Contains-filter_parts (λ p. node_of g p == a) (numbers_below (process_count g)) process.0 process.1 in
      subst (IsOwnOf g) process.2 (record
      { known = numbers-Contains (process_count g) process.0 kept.0; condition = refl }))
      (own_of_node g a) (All-contains_itself (own_of_node g a)))
