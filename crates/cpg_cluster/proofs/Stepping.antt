-- What the code of `Cluster::step` requires of its calls, and that it does the step of the definition.
use Rattle.std.proofs.Common.{◌≡◌, ℕ, ◌+◌, ◌<◌, ◌≤◌, List, [], ◌++◌, length, map, filter, get_or, set, fold, replicate}
use Rattle.std.proofs.Common.{Option, Some, None, refl, sym, ap, ap₂, ◌∙◌, subst, arith, inl, inr}
use Rattle.std.specs.Prelude.{All}
use Rattle.std.specs.Vec.{vec_capacity}
use Rattle.std.proofs.lemmas.Bool.{cases_eq}
use Rattle.std.proofs.Math.Seq.{map-set_same}
use Rattle.std.proofs.lemmas.List.Elements.{All-set}
use Rattle.std.proofs.lemmas.List.Sums.{fold-append}
use Rattle.std.proofs.lemmas.List.{map-set, get_or-map, length-map, length-set, get_or_default, get_or-set_same}
use Rattle.std.proofs.lemmas.List.{get_or-set_other}
use Rattle.cpg_base.specs.Graph.{Graph, home, item_count}
use Rattle.cpg_base.specs.Numbers.{numbers_below}
use Rattle.cpg_table.specs.Table.{NodeTable, Row, table_at, empty_table}
use Rattle.cpg_table.specs.Shape.{processes_on}
use Rattle.cpg_node.specs.Dispatcher.{initial_dispatcher, Dispatcher, Own, OwnTable, Ended, Frame, Act, next, turn}
use Rattle.cpg_node.specs.Dispatcher.{acts_of_turn, due_reports}
use Rattle.cpg_node.specs.State.{MayTurn}
use Rattle.cpg_table.specs.Items.{own_process}
use Rattle.cpg_cluster.specs.Cluster.{World, Cluster, Answer, Took, Waits, Done, dispatcher_at, answer_by, answer_at}
use Rattle.cpg_cluster.specs.Cluster.{answer, reported, reports_now, frames_now, take_turn, step_by, step, IsPlayed}
use Rattle.cpg_cluster.specs.Playing.{Playing, IsPlaying, stepped}
use Rattle.cpg_cluster.specs.Taking.{IsOwnOf, AllFinish, reports_of, ends_of, ready}
use Rattle.cpg_cluster.specs.Keeping.{AreIndexed, waits_between, frames_by, note, noted_of, Fits, AllFit}
use Rattle.cpg_cluster.specs.Kept.{cluster_of}
use Rattle.cpg_cluster.specs.declared.member.Member.{Member}
use Rattle.cpg_cluster.proofs.Nodes.{Played, own_of_node}
use Rattle.cpg_cluster.proofs.Plays.{played_of}
use Rattle.cpg_cluster.proofs.Reached.{Reached}
use Rattle.cpg_cluster.proofs.Passed.{played_step, played_reached}
use Rattle.cpg_cluster.proofs.Ends.{ended_by}
use Rattle.cpg_cluster.specs.Driving.{remaining}
use Rattle.cpg_cluster.proofs.Driven.{nearer_set}
use Rattle.cpg_cluster.proofs.Between.{dispatcher_is, answer_is, frames_are}
use Rattle.cpg_cluster.proofs.Bounded.{less_turn}
use Rattle.cpg_cluster.proofs.Finishing.{may_finish, next_ready, may_turn, own_known, table_finished}
use Rattle.cpg_cluster.proofs.Reporting.{reports_hold}
use Rattle.cpg_cluster.proofs.Rooms.{acts_few, ends_few, reports_few, frames_few}

-- the tables of members
abbrev pub tables_of : List Member → List NodeTable
tables_of ms = map (λ (m : Member). m.node.dispatcher.table) ms

-- the play of members
abbrev pub play_of : Graph → World → List Member → Playing
play_of g w ms = record { graph = g; tables = tables_of ms; world = w; cluster = cluster_of ms }

-- Given one of the members of a play, each of which keeps what it should.
-- The member m is at the place a of the list (`at`, `l`).
module _ (g : Graph) (w : World) (ms : List Member) (playing : IsPlaying (play_of g w ms)) (fits : AllFit g ms) (a : ℕ)
    (m : Member) (at : m ≡ get_or ms a m) (l : a < length ms) where
  -- the tables of the members are valid, and the world is one of the graph
  k : Played g (tables_of ms) w
  k = played_of g (tables_of ms) playing.formed playing.shape playing.valid w playing.world

  -- the state of the members
  c : Cluster
  c = cluster_of ms

  -- the state is one that a play reaches
  r : Reached g (tables_of ms) w (cluster_of ms)
  r = played_reached k (cluster_of ms) playing.played

  -- the member is a node of the graph
  on : a < length g.nodes
  on = omega (arith, l, playing.shape.count, length-map ms (λ (m : Member). m.node.dispatcher.table))

  -- the member is at its place, whatever the default is
  here : (d : Member) → get_or ms a d ≡ m
  here d = get_or_default ms a d m l ∙ sym at

  -- its dispatcher is that of the state
  pub at_is : dispatcher_at (cluster_of ms) a ≡ m.node.dispatcher
  at_is = dispatcher_is ms a m l ∙ ap (λ (m : Member). m.node.dispatcher) (here m)

  -- its table is that of the node
  table_is : table_at (tables_of ms) a ≡ m.node.dispatcher.table
  table_is = get_or-map (λ (m : Member). m.node.dispatcher.table) ms a m empty_table l
      ∙ ap (λ (m : Member). m.node.dispatcher.table) (here m)

  -- the processes of its table are those of the node
  own_is : m.node.dispatcher.table.own ≡ own_of_node g a
  own_is = sym (ap (λ (d : Dispatcher). d.table.own) at_is) ∙ ap (λ (d : Dispatcher). d.table.own) (r.holds a on).is

  -- the arrivals are indexed for each member
  pub indexed : AreIndexed m.node.dispatcher.table.hears m.senders.items (length ms) m.arrivals.items
  indexed =
      let count : length g.nodes ≡ length ms =
      omega (arith, playing.shape.count, length-map ms (λ (m : Member). m.node.dispatcher.table)) in
      subst (λ n. AreIndexed m.node.dispatcher.table.hears m.senders.items n m.arrivals.items) count
      (subst (Fits g a) (here m) (fits a m l)).arrivals

  -- if it has no next instant, it answers that it is done
  pub done_answer : next m.node.dispatcher ≡ None → Done ≡ answer g (cluster_of ms) a
  done_answer no_next = sym (ap (answer_at g (cluster_of ms) a) (ap next at_is ∙ no_next))

  -- if it has no next instant, nothing changes
  pub done_step : next m.node.dispatcher ≡ None → step g w (cluster_of ms) a ≡ cluster_of ms
  done_step no_next = (λ i. step_by g w (cluster_of ms) a ((sym (done_answer no_next)) i) ((ap next at_is ∙ no_next) i))

  -- given its next instant
  module _ (time : ℕ) (comes : next m.node.dispatcher ≡ Some time) where
    -- the instant is the next one of the node in the state
    next_at : next (dispatcher_at (cluster_of ms) a) ≡ Some time
    next_at = ap next at_is ∙ comes

    -- the least member that it waits on, if any, gives the answer of the state
    pub asked : (ans : Answer) (d : Member) →
        ans ≡ answer_by (filter (λ b. waits_between time m b (get_or ms b d)) (numbers_below (length ms))) →
        ans ≡ answer g (cluster_of ms) a
    asked ans d is = is ∙ answer_is g ms fits a m here l time d ∙ sym (ap (answer_at g (cluster_of ms) a) next_at)

    -- if it waits, nothing changes
    pub waits_step : (b : ℕ) → Waits b ≡ answer g (cluster_of ms) a → step g w (cluster_of ms) a ≡ cluster_of ms
    waits_step b is = (λ i. step_by g w (cluster_of ms) a ((sym is) i) (next_at i))

    -- its table says of each of its processes what the graph says
    pub own_all : All (IsOwnOf g) m.node.dispatcher.table.own
    own_all =
        subst (λ (d : Dispatcher). All (IsOwnOf g) d.table.own) at_is (own_known k (cluster_of ms) r a on time next_at)

    -- it may take the reports of all executions that are over by its next instant
    pub finish_all : AllFinish m.node.dispatcher (reports_of g w.scenario w.lengths time m.node.dispatcher)
    finish_all = subst (λ (d : Dispatcher). AllFinish d (reports_now g w d time)) at_is
        (may_finish k (cluster_of ms) r a on time next_at)

    -- the reports do not change its next instant
    pub ready_next : next (ready g w.scenario w.lengths time m.node.dispatcher) ≡ Some time
    ready_next = subst (λ (d : Dispatcher). next (reported g w d time) ≡ Some time) at_is
        (next_ready k (cluster_of ms) r a on time next_at)

    -- the frames that code gathers are those that arrive at the node in the state
    gathered : (fs : List Frame) →
        fs ≡ frames_by g w.scenario.values ms time m.node.dispatcher.table.hears m.senders.items →
        fs ≡ frames_now g w (cluster_of ms) (reported g w (dispatcher_at (cluster_of ms) a) time) time
    gathered fs is = is ∙ frames_are g ms fits a m here l w time (reported g w (dispatcher_at (cluster_of ms) a) time)
        (table_finished (dispatcher_at (cluster_of ms) a)
        (map (λ (q : ℕ × Ended). q.1) (reports_now g w (dispatcher_at (cluster_of ms) a) time))
        ∙ ap (λ (d : Dispatcher). d.table) at_is)

    -- no more frames arrive than it has hear rows
    pub frames_fit : length (frames_by g w.scenario.values ms time m.node.dispatcher.table.hears m.senders.items)
        ≤ length m.node.dispatcher.table.hears
    frames_fit = omega (
      arith,
      ap (λ (l : List Frame). length l)
          (gathered (frames_by g w.scenario.values ms time m.node.dispatcher.table.hears m.senders.items) refl),
      frames_few k (cluster_of ms) r (reported g w (dispatcher_at (cluster_of ms) a) time) time,
      ap (λ (t : OwnTable). length t.hears) (table_finished (dispatcher_at (cluster_of ms) a)
          (map (λ (q : ℕ × Ended). q.1) (reports_now g w (dispatcher_at (cluster_of ms) a) time)) ∙
          ap (λ (d : Dispatcher). d.table) at_is),
    )

    -- given the frames that code gathers
    module _ (fs : List Frame)
        (arrive : fs ≡ frames_by g w.scenario.values ms time m.node.dispatcher.table.hears m.senders.items) where
      -- after the reports it may take its turn with the frames that arrive
      pub turn_may : MayTurn (ready g w.scenario w.lengths time m.node.dispatcher) [] fs
      turn_may = subst (MayTurn (ready g w.scenario w.lengths time m.node.dispatcher) []) (sym (gathered fs arrive))
          (subst (λ (d : Dispatcher). MayTurn (reported g w d time) []
          (frames_now g w (cluster_of ms) (reported g w (dispatcher_at (cluster_of ms) a) time) time)) at_is
          (may_turn k (cluster_of ms) r a on time next_at))

      -- given that the node takes its turn
      module _ (took : Took ≡ answer g (cluster_of ms) a) where
        -- the ask is a turn
        step_is : step g w (cluster_of ms) a ≡ take_turn g w (cluster_of ms) a time
        step_is = (λ i. step_by g w (cluster_of ms) a ((sym took) i) (next_at i))

        -- the dispatcher before the turn
        abbrev d : Dispatcher
        d = ready g w.scenario w.lengths time m.node.dispatcher

        -- the state after the turn
        c' : Cluster
        c' = take_turn g w (cluster_of ms) a time

        -- the state after the turn is one of a play
        played' : IsPlayed g (tables_of ms) w (take_turn g w (cluster_of ms) a time)
        played' =
            subst (IsPlayed g (tables_of ms) w) step_is
            (played_step g (tables_of ms) w (cluster_of ms) a playing.played)

        -- so `Reached` holds of it
        r' : Reached g (tables_of ms) w (take_turn g w (cluster_of ms) a time)
        r' = played_reached k (take_turn g w (cluster_of ms) a time) played'

        -- the dispatcher after the reports is the same in the state and in the member
        d_is : reported g w (dispatcher_at (cluster_of ms) a) time ≡ ready g w.scenario w.lengths time m.node.dispatcher
        d_is = ap (λ (d : Dispatcher). reported g w d time) at_is

        -- the frames of the turn are those that were gathered
        fs_is : frames_now g w (cluster_of ms) (reported g w (dispatcher_at (cluster_of ms) a) time) time ≡ fs
        fs_is = sym (gathered fs arrive)

        -- the member has the room that its table asks for
        fit : Fits g a m
        fit = subst (Fits g a) (here m) (fits a m l)

        -- the node's dispatcher after the turn, in the state and in the member
        node_then : turn (reported g w (dispatcher_at (cluster_of ms) a) time) time []
            (frames_now g w (cluster_of ms) (reported g w (dispatcher_at (cluster_of ms) a) time) time) ≡ turn
            (ready g w.scenario w.lengths time m.node.dispatcher) time [] fs
        node_then = ap₂ (λ (d : Dispatcher) (fs : List Frame). turn d time [] fs) d_is fs_is

        -- the acts of the node in the state are then those of the member
        acts_then : get_or (cluster_of ms).acts a []
            ++ acts_of_turn (reported g w (dispatcher_at (cluster_of ms) a) time) time []
            (frames_now g w (cluster_of ms) (reported g w (dispatcher_at (cluster_of ms) a) time) time)
            ≡ m.acts.items ++ acts_of_turn (ready g w.scenario w.lengths time m.node.dispatcher) time [] fs
        acts_then = ap₂ (λ (xs ys : List Act). xs ++ ys)
            (get_or-map (λ (m : Member). m.acts.items) ms a m [] l ∙ ap (λ (m : Member). m.acts.items) (here m))
            (ap₂ (λ (d : Dispatcher) (fs : List Frame). acts_of_turn d time [] fs) d_is fs_is)

        -- and its ends
        ends_then : get_or (cluster_of ms).ends a [] ++ map {A = Ended} {B = ℕ × Ended} (λ e. (time, e))
            (due_reports (reported g w (dispatcher_at (cluster_of ms) a) time) time) ≡ m.ends.items
            ++ ends_of time (ready g w.scenario w.lengths time m.node.dispatcher)
        ends_then = ap₂ (λ (xs ys : List (ℕ × Ended)). xs ++ ys)
            (get_or-map (λ (m : Member). m.ends.items) ms a m [] l ∙ ap (λ (m : Member). m.ends.items) (here m))
            (ap (λ (d : Dispatcher). ends_of time d) d_is)

        -- and its reports
        reports_then : get_or (cluster_of ms).reports a [] ++ reports_now g w (dispatcher_at (cluster_of ms) a) time
            ≡ m.reports.items ++ reports_of g w.scenario w.lengths time m.node.dispatcher
        reports_then = ap₂ (λ (xs ys : List (ℕ × Ended)). xs ++ ys)
            (get_or-map (λ (m : Member). m.reports.items) ms a m [] l ∙ ap (λ (m : Member). m.reports.items) (here m))
            (ap (λ (d : Dispatcher). reports_now g w d time) at_is)

        -- there is room for the acts of the turn, as all acts of a play are no more than its rows of sends and starts
        pub acts_fit : length (m.acts.items
            ++ acts_of_turn (ready g w.scenario w.lengths time m.node.dispatcher) time [] fs) ≤ vec_capacity m.acts
        acts_fit = omega (
          arith,
          fit.acts,
          ap (λ (t : NodeTable). length t.sends + length t.starts) table_is,
          acts_few k a on (r'.holds a on).last (get_or (take_turn g w (cluster_of ms) a time).acts a [])
              (r'.holds a on).done,
          ap (λ (l : List Act). length l) (get_or-set_same (cluster_of ms).acts a _ []
              (omega (arith, l, length-map ms (λ (m : Member). m.acts.items))) ∙ acts_then),
        )

        -- its table has each process of the node once
        own_length : length m.node.dispatcher.table.own ≡ length (processes_on g a)
        own_length = ap (λ (l : List Own). length l) own_is ∙ length-map (processes_on g a) (own_process g)

        -- there is room for the ends of the turn, as all ends of a play are no more than its processes
        pub ends_fit : length (m.ends.items ++ ends_of time (ready g w.scenario w.lengths time m.node.dispatcher))
            ≤ vec_capacity m.ends
        ends_fit = omega (
          arith,
          fit.ends,
          own_length,
          ends_few k a on (dispatcher_at (take_turn g w (cluster_of ms) a time) a).last
              (get_or (take_turn g w (cluster_of ms) a time).ends a [])
              (ended_by k (take_turn g w (cluster_of ms) a time) played' a on),
          ap (λ (l : List (ℕ × Ended)). length l) (get_or-set_same (cluster_of ms).ends a _ []
              (omega (arith, l, length-map ms (λ (m : Member). m.ends.items))) ∙ ends_then),
        )

        -- there is room for the reports before the turn, for the same reason
        pub reports_fit : length (m.reports.items ++ reports_of g w.scenario w.lengths time m.node.dispatcher)
            ≤ vec_capacity m.reports
        reports_fit = omega (
          arith,
          fit.reports,
          own_length,
          reports_few k a on (dispatcher_at (take_turn g w (cluster_of ms) a time) a).last
              (get_or (take_turn g w (cluster_of ms) a time).reports a [])
              ((reports_hold k (take_turn g w (cluster_of ms) a time) played').each a on),
          ap (λ (l : List (ℕ × Ended)). length l) (get_or-set_same (cluster_of ms).reports a _ []
              (omega (arith, l, length-map ms (λ (m : Member). m.reports.items))) ∙ reports_then),
        )

        -- Given the member n after its turn: its dispatcher, acts, notes, ends and reports are those of the turn
        -- (`node`, `acts`, `noted`, `ends`, `reports`); what it keeps of the graph, and its capacities, are as before
        -- (`kept`, `room`).
        module _ (n : Member)
            (node : n.node.dispatcher ≡ turn (ready g w.scenario w.lengths time m.node.dispatcher) time [] fs)
            (acts : n.acts.items ≡ m.acts.items
            ++ acts_of_turn (ready g w.scenario w.lengths time m.node.dispatcher) time [] fs)
            (noted : n.noted.items ≡ fold note m.noted.items
            (acts_of_turn (ready g w.scenario w.lengths time m.node.dispatcher) time [] fs))
            (ends : n.ends.items ≡ m.ends.items ++ ends_of time (ready g w.scenario w.lengths time m.node.dispatcher))
            (reports : n.reports.items ≡ m.reports.items ++ reports_of g w.scenario w.lengths time m.node.dispatcher)
            (kept : (n.senders ≡ m.senders) × (n.slot ≡ m.slot) × (n.arrivals ≡ m.arrivals))
            (room : (vec_capacity n.acts ≡ vec_capacity m.acts) × (vec_capacity n.ends ≡ vec_capacity m.ends) ×
            (vec_capacity n.reports ≡ vec_capacity m.reports)) where
          -- with n in place of m, the members' state is the state after the turn, list by list
          cluster_then : cluster_of (set ms a n) ≡ take_turn g w (cluster_of ms) a time
          cluster_then = λ i. record {
            nodes = (map-set (λ (m : Member). m.node.dispatcher) ms a n
                ∙ ap (set (cluster_of ms).nodes a) (node ∙ sym node_then)) i;
            acts = (map-set (λ (m : Member). m.acts.items) ms a n
                ∙ ap (set (cluster_of ms).acts a) (acts ∙ sym acts_then)) i;
            ends = (map-set (λ (m : Member). m.ends.items) ms a n
                ∙ ap (set (cluster_of ms).ends a) (ends ∙ sym ends_then)) i;
            reports = (map-set (λ (m : Member). m.reports.items) ms a n
                ∙ ap (set (cluster_of ms).reports a) (reports ∙ sym reports_then)) i;
          }

          -- n has the table of m
          table_then : n.node.dispatcher.table ≡ m.node.dispatcher.table
          table_then = ap (λ (d : Dispatcher). d.table) node ∙ table_finished m.node.dispatcher
              (map (λ (q : ℕ × Ended). q.1) (reports_of g w.scenario w.lengths time m.node.dispatcher))

          -- so the tables are as before
          tables_then : tables_of (set ms a n) ≡ tables_of ms
          tables_then = map-set_same (λ (m : Member). m.node.dispatcher.table) ms a n m
              (table_then ∙ ap (λ (m : Member). m.node.dispatcher.table) (sym (here m)))

          -- the play is then the one after the node is asked
          pub play_then : play_of g w (set ms a n) ≡ stepped (play_of g w ms) a
          play_then =
              λ i. record { graph = g; tables = tables_then i; world = w; cluster = (cluster_then ∙ sym step_is) i }

          -- it is a play of valid tables still
          pub playing_then : IsPlaying (play_of g w (set ms a n))
          playing_then = subst IsPlaying (sym play_then)
              (record {
                limits = playing.limits;
                formed = playing.formed;
                lawful = playing.lawful;
                shape = playing.shape;
                valid = playing.valid;
                world = playing.world;
                played =
                    played_step g (tables_of ms) w (cluster_of ms) a playing.played;
              })

          -- after its turn the member still keeps what it should
          fit_then : Fits g a n
          fit_then = record {
            senders = ap (λ v. v.items) kept.0 ∙ fit.senders
                ∙ ap (λ (t : NodeTable). map (λ (row : Row). home g row.item) t.hears) (sym table_then);
            slot = kept.1 ∙ fit.slot;
            arrivals = subst (λ (t : NodeTable). AreIndexed t.hears n.senders.items (length g.nodes) n.arrivals.items)
                (sym table_then)
                (subst (λ ss. AreIndexed m.node.dispatcher.table.hears ss (length g.nodes) n.arrivals.items)
                (sym (ap (λ v. v.items) kept.0))
                (subst (λ is'. AreIndexed m.node.dispatcher.table.hears m.senders.items (length g.nodes) is')
                (sym (ap (λ v. v.items) kept.2)) fit.arrivals));
            noted = noted ∙ ap (λ (s : List (Option Act)).
                fold note s (acts_of_turn (ready g w.scenario w.lengths time m.node.dispatcher) time [] fs)) fit.noted
                ∙ sym (fold-append note (replicate (item_count g) None) m.acts.items
                (acts_of_turn (ready g w.scenario w.lengths time m.node.dispatcher) time [] fs)) ∙
                ap (noted_of (item_count g)) (sym acts);
            acts = omega (arith, fit.acts, room.0, ap (λ (t : NodeTable). length t.sends + length t.starts) table_then);
            ends = omega (arith, fit.ends, room.1, ap (λ (t : NodeTable). length t.own) table_then);
            reports = omega (arith, fit.reports, room.2, ap (λ (t : NodeTable). length t.own) table_then);
          }

          -- each member still keeps what it should
          pub fits_then : AllFit g (set ms a n)
          fits_then i d h = elim (cases_eq i a) [
            | inl e ↦ subst (λ i. Fits g i (get_or (set ms a n) i d)) (sym e)
                (subst (Fits g a) (sym (get_or-set_same ms a n d l)) fit_then)
            | inr ne ↦
                subst (Fits g i) (sym (get_or-set_other ms a i n d ne)) (fits i d (omega (arith, h, length-set ms a n)))
          ]

          -- no member then hears more rows than before
          pub heard_then : (most : ℕ) → All (λ (m : Member). length m.node.dispatcher.table.hears ≤ most) ms →
              All (λ (m : Member). length m.node.dispatcher.table.hears ≤ most) (set ms a n)
          heard_then most all = All-set (λ (m : Member). length m.node.dispatcher.table.hears ≤ most) ms a n
              (omega (
                arith,
                ap (λ (t : NodeTable). length t.hears) table_then,
                subst (λ (m : Member). length m.node.dispatcher.table.hears ≤ most) (sym at) (all a m l),
              )) all

          -- all nodes together have fewer instants left
          pub nearer_then : remaining (cluster_of (set ms a n)) < remaining (cluster_of ms)
          nearer_then = subst (λ (d : Cluster). remaining d < remaining (cluster_of ms)) (sym cluster_then)
              (nearer_set (cluster_of ms).nodes a (turn (reported g w (dispatcher_at (cluster_of ms) a) time) time []
              (frames_now g w (cluster_of ms) (reported g w (dispatcher_at (cluster_of ms) a) time) time))
              (initial_dispatcher
              (record { faults = 0; first_broadcast = 0; own = []; starts = []; sends = []; hears = [] })) (omega (
                arith,
                l,
                length-map ms (λ (m : Member). m.node.dispatcher),
              ))
              (less_turn g w a (dispatcher_at (cluster_of ms) a) time
              (frames_now g w (cluster_of ms) (reported g w (dispatcher_at (cluster_of ms) a) time) time) playing.limits
              (ap (λ (d : Dispatcher). d.table.own) (r.holds a on).is) next_at))
