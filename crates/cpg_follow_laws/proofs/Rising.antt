-- The records of a play are in order of time.
use Rattle.std.proofs.Common.{◌≡◌, ◌≢◌, ℕ, ◌+◌, ◌<◌, ◌≤◌, true, ◌==◌, List, [], ◌∷◌, ◌++◌, length, map, Option, Some}
use Rattle.std.proofs.Common.{None, refl, sym, ap, ◌∙◌, subst, arith, inl, inr, eq-eqb, ne_eqb}
use Rattle.std.specs.Prelude.{IfSome}
use Rattle.std.proofs.lemmas.Bool.{cases_eq, cond-true, cond-false}
use Rattle.std.proofs.lemmas.List.{get_or-set_same, get_or-set_other}
use Rattle.cpg_base.specs.Graph.{Graph}
use Rattle.cpg_table.specs.Table.{NodeTable}
use Rattle.cpg_node.specs.Dispatcher.{Dispatcher, Ended, Frame, next, finished, initial_dispatcher, is_after}
use Rattle.cpg_node.proofs.Next.{next_is}
use Rattle.cpg_cluster.specs.Cluster.{World, Cluster, Answer, Took, Waits, Done as IsDone, initial_cluster}
use Rattle.cpg_cluster.specs.Cluster.{dispatcher_at, answer, reports_now, take_turn, step_by, step, play}
use Rattle.cpg_cluster.proofs.Nodes.{Played}
use Rattle.cpg_cluster.proofs.Reporting.{reports_apart}
use Rattle.cpg_cluster.proofs.Finishing.{may_finish}
use Rattle.cpg_cluster.proofs.Reached.{Reached, reached_open, reached_step}
use Rattle.cpg_cluster.proofs.Plays.{played_of}
use Rattle.cpg_live.specs.declared.event.Event.{Event}
use Rattle.cpg_live.specs.Told.{after_last, MayReport, end_event, frame_event}
use Rattle.cpg_live.specs.Spelling.{RiseWithin}
use Rattle.cpg_live.proofs.Turns.{floor_after}
use Rattle.cpg_follow_laws.specs.Follow.{by_time, records_at, records_by, records_in, RecordsRise}
use Rattle.cpg_node.proofs.Commuting.{next_same}
use Rattle.cpg_follow_laws.proofs.Reports.{tells_by_time}

-- the time of the last turn, or 0 if there was none
abbrev moment : Option ℕ → ℕ
moment None = 0
moment (Some last) = last

-- events `es` that rise from `later` on rise from `from` on too, which is at most `later`
rise_weaker : (from later to : ℕ) (es : List (ℕ × Event)) → from ≤ later → RiseWithin later to es →
    RiseWithin from to es
rise_weaker from later to [] le rise = omega (arith, le, rise)
rise_weaker from later to (e ∷ es) le rise = (omega (arith, le, rise.0), rise.1, rise.2)

-- if records `xs` rise from `from` to `middle`, and `ys` from there to `to`, they rise one after the other
rise_join : (xs ys : List (ℕ × Event)) (from middle to : ℕ) → RiseWithin from middle xs → RiseWithin middle to ys →
    RiseWithin from to (xs ++ ys)
rise_join [] ys from middle to at_most rise = rise_weaker from middle to ys at_most rise
rise_join (x ∷ xs) ys from middle to rise k = (rise.0, rise.1, rise_join xs ys x.0 middle to rise.2 k)

-- reports that a node may take one after another are in order of time up to its next instant, which they don't change
reports_within : (time : ℕ) (es : List (ℕ × Ended)) (d : Dispatcher) (from : ℕ) → next d ≡ Some time → from ≤ time →
    MayReport d from es →
    RiseWithin from time (map end_event es)
reports_within time [] d from comes le m = le
reports_within time (e ∷ es) d from comes le m = (
  m.0,
  refl,
  reports_within time es (finished d e.1) e.0 (next_same d e.1 ∙ comes)
      (subst (λ o. IfSome o (λ n. e.0 ≤ n)) comes m.1.before) m.2,
)

-- the records of frames `fs` that arrive at a time are all at that time; by induction on `fs`
frames_within : (time : ℕ) (fs : List Frame) → RiseWithin time time (map (frame_event time) fs)
frames_within time [] = omega arith
frames_within time (f ∷ fs) = (omega arith, refl, frames_within time fs)

-- what comes after the last turn isn't before it
after_moment : (last : Option ℕ) (time : ℕ) → is_after last time ≡ true → moment last ≤ time
after_moment None time holds = omega arith
after_moment (Some last) time holds = omega (arith, floor_after (Some last) time holds)

-- if the instant after the last turn is at most the close plus 1, the last turn isn't after the close
by_moment : (last : Option ℕ) (close : ℕ) → after_last last ≤ close + 1 → moment last ≤ close
by_moment None close at_most = omega arith
by_moment (Some last) close at_most = omega (arith, at_most)

-- given a node of a play
module _ {g : Graph} {tables : List NodeTable} {w : World} (played : Played g tables w) (node : ℕ)
    (within : node < length g.nodes) where
  -- the records of a turn are in order of time, from the last turn to this one: first the reports, then the frames
  turn_within : (c : Cluster) → Reached g tables w c → (time : ℕ) → next (dispatcher_at c node) ≡ Some time →
      RiseWithin (moment (dispatcher_at c node).last) time (records_at g w c node time)
  turn_within c reached time comes =
      let dispatcher : Dispatcher = dispatcher_at c node in
      let reports : List (ℕ × Ended) = reports_now g w dispatcher time in
      let may = tells_by_time reports dispatcher (moment dispatcher.last)
      (may_finish played c reached node within time comes)
      (reports_apart played c reached node within time) (λ q m. after_moment dispatcher.last q.0 m.later) in
      rise_join (map end_event (by_time reports)) (map (frame_event time) _) (moment dispatcher.last) time time
      (reports_within time (by_time reports) dispatcher (moment dispatcher.last) comes
      (after_moment dispatcher.last time (next_is dispatcher time comes).after) may) (frames_within time _)

  -- The records of a play from a state on are in order of time, from the node's last turn to the close. By induction on
  -- the turns: those of the first turn, if it is the node's own, and from there on those of the others.
  rise_play : (turns : List ℕ) (c : Cluster) → Reached g tables w c → (close : ℕ) →
      moment (dispatcher_at (play g w c turns) node).last ≤ close →
      RiseWithin (moment (dispatcher_at c node).last) close (records_in g w c node turns)
  rise_play [] c reached close le = le
  rise_play (a ∷ rest) c reached close le = elim (cases_eq a node) [
    | inl is ↦ subst
        (λ es. RiseWithin (moment (dispatcher_at c node).last) close (es ++ records_in g w (step g w c a) node rest))
        (sym (cond-true (a == node) _ _ (eq-eqb a node is)))
        (subst (λ a. RiseWithin (moment (dispatcher_at c node).last) close (records_by g w c a (answer g c a)
        (next (dispatcher_at c a)) ++ records_in g w (step g w c a) node rest)) (sym is)
        (here (answer g c node) (next (dispatcher_at c node)) refl
        (rise_play rest (step g w c node) (reached_step played c reached node) close
        (subst (λ a. moment (dispatcher_at (play g w (step g w c a) rest) node).last ≤ close) is le))))
    | inr ne ↦ subst
        (λ es. RiseWithin (moment (dispatcher_at c node).last) close (es ++ records_in g w (step g w c a) node rest))
        (sym (cond-false (a == node) _ _ (ne_eqb a node ne)))
        (other (answer g c a) (next (dispatcher_at c a)) (λ s. ne (sym s))
        (rise_play rest (step g w c a) (reached_step played c reached a) close le))
  ]
    where
      -- a dispatcher for places without a node
      nobody : Dispatcher
      nobody =
          initial_dispatcher (record { faults = 0; first_broadcast = 0; own = []; starts = []; sends = []; hears = [] })

      -- the records of the node's own turn are at its time, and those of later turns rise from there
      here : (ans : Answer) (o : Option ℕ) → next (dispatcher_at c node) ≡ o →
          RiseWithin (moment (dispatcher_at (step_by g w c node ans o) node).last) close
          (records_in g w (step_by g w c node ans o) node rest) →
          RiseWithin (moment (dispatcher_at c node).last) close
          (records_by g w c node ans o ++ records_in g w (step_by g w c node ans o) node rest)
      here Took (Some time) is rise =
          let last : (dispatcher_at (take_turn g w c node time) node).last ≡ Some time =
          ap (λ (d : Dispatcher). d.last)
          (get_or-set_same c.nodes node _ nobody (omega (arith, reached.nodes, within))) in
          rise_join (records_at g w c node time) (records_in g w (take_turn g w c node time) node rest)
          (moment (dispatcher_at c node).last) time close (turn_within c reached time is)
          (subst (λ o. RiseWithin (moment o) close (records_in g w (take_turn g w c node time) node rest)) last rise)
      here Took None is rise = rise
      here (Waits b) o is rise = rise
      here IsDone o is rise = rise

      -- the turn of another node, a, adds no record of this one
      other : (ans : Answer) (o : Option ℕ) → node ≢ a →
          RiseWithin (moment (dispatcher_at (step_by g w c a ans o) node).last) close
          (records_in g w (step_by g w c a ans o) node rest) →
          RiseWithin (moment (dispatcher_at c node).last) close (records_in g w (step_by g w c a ans o) node rest)
      other Took (Some time) ne rise = subst
          (λ (d : Dispatcher). RiseWithin (moment d.last) close (records_in g w (take_turn g w c a time) node rest))
          (get_or-set_other c.nodes a node _ nobody ne) rise
      other Took None ne rise = rise
      other (Waits b) o ne rise = rise
      other IsDone o ne rise = rise

-- the records of a node in a play are in order of time: those from the first state on, in which there was no turn
pub records_rise : RecordsRise
records_rise g tables f h v w turns node close is within late =
    let played = played_of g tables f h v w is in
    let opened : Cluster = initial_cluster g tables in
    rise_weaker 0 (moment (dispatcher_at opened node).last) close (records_in g w opened node turns) (omega arith)
    (rise_play played node within turns opened (reached_open played) close
    (by_moment (dispatcher_at (play g w opened turns) node).last close late))
