-- A play is followed by each of its nodes on the records of what it is told.
use Rattle.std.proofs.Common.{◌≡◌, ◌≢◌, ℕ, ◌<◌, ◌≤◌, true, false, ◌==◌, List, [], ◌∷◌, ◌++◌, length, map, fold, get_or}
use Rattle.std.proofs.Common.{Contains, Option, Some, None, refl, sym, ap, ◌∙◌, subst, arith, inl, inr, ◌⊎◌}
use Rattle.std.proofs.Common.{eq-eqb, ne_eqb}
use Rattle.std.proofs.lemmas.Bool.{cases_eq, cond-true, cond-false}
use Rattle.std.proofs.lemmas.List.{get_or-set_same, get_or-set_other, get_or-replicate}
use Rattle.std.proofs.lemmas.List.Sums.{fold-append}
use Rattle.cpg_base.specs.Graph.{Graph, value_variable}
use Rattle.cpg_base.specs.Scenario.{number_of, number_of_value}
use Rattle.cpg_base.proofs.Lists.{Contains-first, Contains-rest}
use Rattle.cpg_base.proofs.Sorted.{sorted, permutation_sorted}
use Rattle.cpg_cube.specs.Cube.{holds}
use Rattle.cpg_cube.specs.declared.literal.Literal.{Literal}
use Rattle.cpg_table.specs.Table.{NodeTable, table_at, empty_table}
use Rattle.cpg_table.proofs.Told.{Learnt, learnt_true}
use Rattle.cpg_node.specs.Dispatcher.{Dispatcher, Range, Ended, Frame, Act, next, hear, hear_all, hear_frame}
use Rattle.cpg_node.specs.Dispatcher.{frame_literals, turn, acts_of_turn, due_reports, AllFine, EndFits, ValueFits}
use Rattle.cpg_node.specs.Dispatcher.{own_of}
use Rattle.cpg_node.specs.Dispatcher.{initial_dispatcher, finished, is_after}
use Rattle.cpg_node.proofs.Kept.{Keeps, keeps_cut_all, keeps_frames, within_kept, LearntBy, IsTrueEnd}
use Rattle.cpg_node.proofs.Next.{by}
use Rattle.cpg_cluster.specs.Cluster.{World, Cluster, Answer, Took, Waits, Done as IsDone, own_table, initial_cluster}
use Rattle.cpg_cluster.specs.Cluster.{dispatcher_at, answer, reports_now, reported, frames_now, waits_on, take_turn}
use Rattle.cpg_cluster.specs.Cluster.{step_by, step, play}
use Rattle.cpg_cluster.specs.Correct.{IsDue, asked_of, due_key}
use Rattle.cpg_cluster.proofs.Dues.{precedes, in_order_sorted}
use Rattle.cpg_cluster.proofs.Nodes.{Played}
use Rattle.cpg_cluster.proofs.Executions.{ends_parts}
use Rattle.cpg_cluster.proofs.Turns.{true_end}
use Rattle.cpg_cluster.proofs.Sending.{frame_parts, told_of, frames_told}
use Rattle.cpg_cluster.proofs.Lawful.{frame_fine}
use Rattle.cpg_cluster.proofs.Reporting.{reports_apart}
use Rattle.cpg_cluster.proofs.Finishing.{may_finish, table_ready}
use Rattle.cpg_cluster.proofs.Reached.{Reached, reached_open, reached_step, free_from, coming, ends_are, dispatchers_at}
use Rattle.cpg_cluster.proofs.Plays.{played_of, done_next, valid_tables_are_correct}
use Rattle.cpg_live.specs.declared.event.Event.TheVariants.{Close}
use Rattle.cpg_live.specs.Stream.{NodeProgress, Step, lawful, start}
use Rattle.cpg_live.specs.Told.{follow_one, follow, after_last, HasCome, after_reports, IsFollowed}
use Rattle.cpg_live.proofs.Told.{turns_are_followed, closes_are_followed}
use Rattle.cpg_live.proofs.Turns.{floor_after, turned_zero}
use Rattle.cpg_follow_laws.specs.Follow.{by_time, records_at, records_by, records_in_step, records_in, opened}
use Rattle.cpg_follow_laws.specs.Follow.{PlaysAreFollowed, stream_of, StreamsGiveWhatIsDue}
use Rattle.cpg_follow_laws.proofs.Reports.{told_by_time, tells_by_time}

-- Given a node a of a state that a play has reached, and a time: the frames and the ends of a turn at that time are
-- ones that a node on a stream takes.
module _ {g : Graph} {tables : List NodeTable} {w : World} (played : Played g tables w) (c : Cluster)
    (reached : Reached g tables w c) (a : ℕ) (within : a < length g.nodes) (time : ℕ) where
  -- Frames `fs` of the turn aren't strange to a dispatcher `d` that keeps only what is true (`known`). By induction on
  -- the frames: the first isn't strange, as what it tells is true, and after it the dispatcher still keeps only what is
  -- true.
  fine : (fs : List Frame) (d : Dispatcher) (table : d.table ≡ own_table g a (table_at tables a))
      (known : Literal → Type 0) →
      Keeps g.faults d.heard known →
      ((m : Literal) → known m → holds w.scenario m ≡ true) →
      ((f : Frame) → Contains fs f → Contains (frames_now g w c d time) f) → AllFine d time fs
  fine [] d table known keeps sound there = tt
  fine (f ∷ fs) d table known keeps sound there = (
    frame_fine played c reached.holds a within d table time f
        (frame_parts played c reached.holds a within d table time f (there f (Contains-first f fs))) known keeps sound,
    fine fs (hear d f) table (λ m. Contains (frame_literals d.table f) m ⊎ known m)
        (keeps_cut_all g.faults (frame_literals d.table f) d.heard known keeps)
        (λ m q. elim q [
          | inl n ↦ learnt_true {g = g} {tables = tables} {s = w.scenario} {node = a} {when = λ t. t == time} m
              (inr (told_of played c reached.holds a within d table time f
              (frame_parts played c reached.holds a within d table time f
              (there f (Contains-first f fs))) m (subst (λ t. Contains (frame_literals t f) m) table n)))
          | inr n ↦ sound m n
        ]) (λ e among. there e (Contains-rest f fs e among)),
  )

  -- A true end fits what is kept, if that is true too: the ranges of its process's faults and of its value have the
  -- true numbers, which are those of the end.
  fits : (ranges : List Range) (known : Literal → Type 0) → Keeps g.faults ranges known →
      ((m : Literal) → known m → holds w.scenario m ≡ true) → (e : Ended) →
      IsTrueEnd g w.scenario (own_table g a (table_at tables a)) e →
      EndFits (own_table g a (table_at tables a)) ranges e
  fits ranges known keeps sound e is_true = (
    (let inside = within_kept played.setting ranges known keeps sound e.process is_true.within in
        (omega (arith, inside.0, is_true.count), omega (arith, inside.1, is_true.count))),
    value (own_of (own_table g a (table_at tables a)) e.process).condition
        (λ d is. is_true.value d (sym is_true.condition ∙ is)),
  )
    where
      -- by whether the process has a condition: if so, the range of its value has the value of the end
      value : (o : Option ℕ) → ((d : ℕ) → o ≡ Some d →
          (value_variable d < 160) × (number_of_value e.value ≡ number_of w.scenario (value_variable d))) →
          ValueFits ranges o e.value
      value None h = tt
      value (Some d) h = let variable_is = h d refl in
          let inside = within_kept played.setting ranges known keeps sound (value_variable d) variable_is.0 in
          (omega (arith, inside.0, variable_is.1), omega (arith, inside.1, variable_is.1))

  -- frames that are heard one after another leave the ranges that they cut
  heard_all : (frames : List Frame) (d : Dispatcher) →
      (hear_all d frames).heard ≡ fold (hear_frame d.table) d.heard frames
  heard_all [] d = refl
  heard_all (f ∷ fs) d = heard_all fs (hear d f)

  -- ends change nothing that was heard; by induction on `es`
  heard_finished : (es : List Ended) (d : Dispatcher) → (fold finished d es).heard ≡ d.heard
  heard_finished [] d = refl
  heard_finished (e ∷ es) d = heard_finished es (finished d e)

  -- given that the node has a next instant and waits on no node
  module _ (comes : next (dispatcher_at c a) ≡ Some time)
      (free : (b : ℕ) → b < length g.nodes → waits_on g c a time b ≡ false) where
    -- the node after the reports of the turn
    abbrev ready : Dispatcher
    ready = reported g w (dispatcher_at c a) time

    -- the frames that arrive at the turn
    abbrev frames : List Frame
    frames = frames_now g w c ready time

    -- its table is the node's own
    table_is : ready.table ≡ own_table g a (table_at tables a)
    table_is = table_ready played c reached a within time comes

    -- before its turn, and after its reports, a node still keeps all that it has learnt by its last turn
    pub keeps_ready : Keeps g.faults ready.heard (Learnt g tables w.scenario a (by (reached.holds a within).last))
    keeps_ready = subst (λ h. Keeps g.faults h (Learnt g tables w.scenario a (by (reached.holds a within).last)))
        (sym (heard_finished (map (λ (q : ℕ × Ended). q.1) (reports_now g w (dispatcher_at c a) time))
        (dispatcher_at c a) ∙ ap (λ (d : Dispatcher). d.heard) (reached.holds a within).is))
        (reached.holds a within).keeps

    -- none of these frames is strange
    all_fine : AllFine ready time frames
    all_fine = fine frames ready table_is
        (Learnt g tables w.scenario a (by (reached.holds a within).last)) keeps_ready learnt_true (λ f m. m)

    -- Each end that is due fits the node's table and what the node has heard after the frames. The end is true, and so
    -- is all that the node has heard: what it had learnt before, and what the frames tell.
    all_fit : (z : Ended) → Contains (due_reports ready time) z → EndFits ready.table (hear_all ready frames).heard z
    all_fit z there =
        let ending = ends_parts played a within (reached.holds a within).heard (reached.holds a within).last time
        (coming played c reached a within time comes free) z
        (subst (λ es. Contains es z) (ends_are played c reached a within time comes free) there) in
        let known = subst (IsTrueEnd g w.scenario (own_table g a (table_at tables a))) (sym ending.is)
        (true_end played a within ending.process ending.on) in
        subst (λ t. EndFits t (hear_all ready frames).heard z) (sym table_is)
        (subst (λ h. EndFits (own_table g a (table_at tables a)) h z) (sym (heard_all frames ready))
        (subst (λ t. EndFits (own_table g a (table_at tables a)) (fold (hear_frame t) ready.heard frames) z)
        (sym table_is)
        (fits (fold (hear_frame (own_table g a (table_at tables a))) ready.heard frames)
        (λ m. LearntBy (own_table g a (table_at tables a)) frames m ⊎
        Learnt g tables w.scenario a (by (reached.holds a within).last) m)
        (keeps_frames g.faults (own_table g a (table_at tables a)) frames ready.heard
        (Learnt g tables w.scenario a (by (reached.holds a within).last)) keeps_ready)
        (λ literal learnt. elim learnt [
          | inl now ↦ learnt_true {g = g} {tables = tables} {s = w.scenario} {node = a} {when = λ t. t == time} literal
              (inr (frames_told played c reached.holds a within ready table_is time literal now))
          | inr known_by ↦ learnt_true literal known_by
        ]) z known)))

    -- The turn of a play is followed: a node on a stream takes its reports by time, its frames and its ends. The
    -- reports are of different processes, so in order of time they leave the same state as in the play.
    followed : (p : NodeProgress) → HasCome p (dispatcher_at c a) (get_or c.acts a []) →
        IsFollowed p (dispatcher_at c a) (get_or c.acts a []) time
        (by_time (reports_now g w (dispatcher_at c a) time)) frames
    followed p come =
        let dispatcher : Dispatcher = dispatcher_at c a in
        let reports : List (ℕ × Ended) = reports_now g w dispatcher time in
        let apart = reports_apart played c reached a within time in
        let same : after_reports dispatcher (by_time reports) ≡ ready = told_by_time reports dispatcher apart in
        turns_are_followed p dispatcher (get_or c.acts a []) time (by_time reports) frames come comes
        (tells_by_time reports dispatcher (after_last dispatcher.last)
        (may_finish played c reached a within time comes) apart
        (λ q m. after_is dispatcher.last q.0 m.later))
        (subst (λ z. AllFine z time frames) (sym same) all_fine)
        (λ z m. subst (λ q. EndFits q.table (hear_all q frames).heard z) (sym same)
        (all_fit z (subst (λ q. Contains (due_reports q time) z) same m)))
      where
        -- a moment that comes after the last turn isn't before it
        after_is : (last : Option ℕ) (moment : ℕ) → is_after last moment ≡ true → after_last last ≤ moment
        after_is None moment holds = omega arith
        after_is (Some last) moment holds = floor_after (Some last) moment holds

    -- On the records of a turn, the stream is lawful and comes to the node's next state in the cluster, with its acts.
    -- The turn changes this node alone, at its place in the lists of the cluster.
    turn_followed : (p : NodeProgress) → HasCome p (dispatcher_at c a) (get_or c.acts a []) →
        let step = follow (lawful p) (records_at g w c a time) in
        (step.fault ≡ None) ×
        HasCome step.progress (dispatcher_at (take_turn g w c a time) a) (get_or (take_turn g w c a time).acts a [])
    turn_followed p come =
        let dispatcher : Dispatcher = dispatcher_at c a in
        let reports : List (ℕ × Ended) = reports_now g w dispatcher time in
        let apart = reports_apart played c reached a within time in
        let same : after_reports dispatcher (by_time reports) ≡ ready = told_by_time reports dispatcher apart in
        let follows = followed p come in
        let node =
        ap (λ z. turn z time [] frames) same
        ∙ sym (get_or-set_same c.nodes a _ (initial_dispatcher
        (record { faults = 0; first_broadcast = 0; own = []; starts = []; sends = []; hears = [] }))
        (omega (arith, reached.nodes))) in
        let acts = ap (λ z. get_or c.acts a [] ++ acts_of_turn z time [] frames) same
        ∙ sym (get_or-set_same c.acts a _ [] (omega (arith, reached.acts))) in (
          follows.none,
          subst (λ z. HasCome (follow (lawful p) (records_at g w c a time)).progress z
              (get_or (take_turn g w c a time).acts a [])) node
              (subst (HasCome (follow (lawful p) (records_at g w c a time)).progress
              (turn (after_reports dispatcher (by_time reports)) time [] frames)) acts follows.comes),
        )

-- a step is lawful, and has brought the stream where the node of the cluster is
abbrev Comes : Graph → Cluster → ℕ → Step → Type 0
Comes g c node s = (s.fault ≡ None) × HasCome s.progress (dispatcher_at c node) (get_or c.acts node [])

-- a step without a fault is a lawful one
whole : (s : Step) → s.fault ≡ None → lawful s.progress ≡ s
whole s is = ap (λ o. record { progress = s.progress; fault = o }) (sym is)

-- given a node of a play
module _ {g : Graph} {tables : List NodeTable} {w : World} (played : Played g tables w) (node : ℕ)
    (within : node < length g.nodes) where
  -- When node a is asked, the stream of `node` comes to its next state. Either a is this node, and its records are
  -- those of the turn, if it takes one; or it is another, and this node has no records and stays as it was.
  step_followed : (c : Cluster) → Reached g tables w c → (a : ℕ) (p : NodeProgress) →
      HasCome p (dispatcher_at c node) (get_or c.acts node []) →
      Comes g (step g w c a) node (follow (lawful p) (records_in_step g w c a node))
  step_followed c reached a p come = elim (cases_eq a node) [
    | inl is ↦ subst (λ es. Comes g (step g w c a) node (follow (lawful p) es))
        (sym (cond-true (a == node) _ _ (eq-eqb a node is)))
        (subst (λ a. Comes g (step g w c a) node
        (follow (lawful p) (records_by g w c a (answer g c a) (next (dispatcher_at c a))))) (sym is)
        (here (answer g c node) (next (dispatcher_at c node)) refl refl))
    | inr ne ↦
        subst (λ es. Comes g (step g w c a) node (follow (lawful p) es))
        (sym (cond-false (a == node) _ _ (ne_eqb a node ne)))
        (other (answer g c a) (next (dispatcher_at c a)) (λ s. ne (sym s)))
  ]
    where
      -- by what the node answers: only a node that takes its turn is told something
      here : (ans : Answer) (o : Option ℕ) → answer g c node ≡ ans → next (dispatcher_at c node) ≡ o →
          Comes g (step_by g w c node ans o) node (follow (lawful p) (records_by g w c node ans o))
      here Took (Some time) q e = turn_followed played c reached node within time e
          (free_from played c reached node time q e) p come
      here Took None q e = (refl, come)
      here (Waits b) o q e = (refl, come)
      here IsDone o q e = (refl, come)

      -- the turn of another node, a, leaves this node as it was
      other : (ans : Answer) (o : Option ℕ) → node ≢ a → Comes g (step_by g w c a ans o) node (lawful p)
      other Took (Some time) ne = (
        refl,
        subst (λ d. HasCome p d (get_or (take_turn g w c a time).acts node []))
            (sym (get_or-set_other c.nodes a node _ (initial_dispatcher
            (record { faults = 0; first_broadcast = 0; own = []; starts = []; sends = []; hears = [] })) ne))
            (subst (HasCome p (dispatcher_at c node)) (sym (get_or-set_other c.acts a node _ [] ne)) come),
      )
      other Took None ne = (refl, come)
      other (Waits b) o ne = (refl, come)
      other IsDone o ne = (refl, come)

  -- In a play the stream of the node comes to its last state. By induction on the turns: the records of the first are
  -- followed (`step_followed`), then those of the others.
  play_followed : (turns : List ℕ) (c : Cluster) → Reached g tables w c → (p : NodeProgress) →
      HasCome p (dispatcher_at c node) (get_or c.acts node []) →
      Comes g (play g w c turns) node (follow (lawful p) (records_in g w c node turns))
  play_followed [] c reached p come = (refl, come)
  play_followed (a ∷ rest) c reached p come =
      let one = step_followed c reached a p come in
      let after_one : Step = follow (lawful p) (records_in_step g w c a node) in
      let joined : follow (lawful p) (records_in g w c node (a ∷ rest))
      ≡ follow after_one (records_in g w (step g w c a) node rest) =
      fold-append follow_one (lawful p) (records_in_step g w c a node) (records_in g w (step g w c a) node rest) in
      subst (Comes g (play g w (step g w c a) rest) node) (sym joined)
      (subst (λ s. Comes g (play g w (step g w c a) rest) node (follow s (records_in g w (step g w c a) node rest)))
      (whole after_one one.0)
      (play_followed rest (step g w c a) (reached_step played c reached a) after_one.progress one.1))

  -- before its first record a node on a stream is in the state before the first turns
  open_come : HasCome (start (own_table g node (table_at tables node))) (dispatcher_at (initial_cluster g tables) node)
      (get_or (initial_cluster g tables).acts node [])
  open_come =
      let opened_as =
      dispatchers_at g 0 tables node node (initial_dispatcher
      (record { faults = 0; first_broadcast = 0; own = []; starts = []; sends = []; hears = [] })) empty_table
      (omega (arith, played.setting.shape.count, within)) (omega arith) in
      let none = get_or-replicate {A = List Act} (length tables) node [] []
      (omega (arith, played.setting.shape.count, within)) in
      subst (λ z. HasCome (start (own_table g node (table_at tables node))) z
      (get_or (initial_cluster g tables).acts node [])) (sym opened_as)
      (subst (HasCome (start (own_table g node (table_at tables node)))
      (initial_dispatcher (own_table g node (table_at tables node)))) (sym none)
      (turned_zero (start (own_table g node (table_at tables node)))))

  -- from the opening state on, the stream of each node follows the whole play
  all_followed : (turns : List ℕ) →
      Comes g (play g w (initial_cluster g tables) turns) node
      (follow (opened g tables node) (records_in g w (initial_cluster g tables) node turns))
  all_followed turns = play_followed turns (initial_cluster g tables) (reached_open played)
      (start (own_table g node (table_at tables node))) open_come

-- each node of a play follows it on the records of what it is told
pub plays_are_followed : PlaysAreFollowed
plays_are_followed g tables f h v w turns node is within =
    let follows = all_followed (played_of g tables f h v w is) node within turns in
    record { none = follows.0; comes = follows.1 }

-- If the node is done, the stream with its close gives what is due. The records bring it to the node's last state,
-- after which the close adds no act, as the node has no next instant. In the play a node that is done has done what is
-- due.
pub streams_give : StreamsGiveWhatIsDue
streams_give g tables f h v w turns node close is within over late =
    let state : Cluster = play g w (initial_cluster g tables) turns in
    let follows = all_followed (played_of g tables f h v w is) node within turns in
    let records_followed : Step = follow (opened g tables node)
    (records_in g w (initial_cluster g tables) node turns) in
    let closed : follow (opened g tables node) (stream_of g tables w turns node close)
    ≡ lawful (record { dispatcher = dispatcher_at state node; acts = get_or state.acts node [] }) =
    fold-append follow_one (opened g tables node) (records_in g w (initial_cluster g tables) node turns)
    ((close, Close) ∷ [])
    ∙ ap (λ z. follow_one z (close, Close)) (sym (whole records_followed follows.0))
    ∙ closes_are_followed records_followed.progress (dispatcher_at state node)
    (get_or state.acts node []) close follows.1 (done_next g state node over) late in
    let acts : List Act = sorted (precedes (due_key g)) (asked_of tables w.scenario node) in
    let due : IsDue g tables w.scenario node acts = record {
      all = permutation_sorted (precedes (due_key g)) (asked_of tables w.scenario node);
      in_order = in_order_sorted (due_key g) (asked_of tables w.scenario node);
    } in
    let done : get_or state.acts node [] ≡ acts =
    ((valid_tables_are_correct g tables f h v).plays w turns is).whole node acts within due over in
    record {
      none = ap (λ (z : Step). z.fault) closed;
      acts = subst (IsDue g tables w.scenario node) (sym (ap (λ (z : Step). z.progress.acts) closed ∙ done)) due;
    }
