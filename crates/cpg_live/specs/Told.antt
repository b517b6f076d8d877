-- What a node hears and reports in a play, as events of a stream: on these, a node on a stream follows each turn that
-- takes reports and frames. An event, and a report, comes with its time.
use Rattle.std.specs.Prelude.{ℕ, ◌+◌, ◌≡◌, ◌≤◌, List, [], ◌∷◌, ◌++◌, Option, Some, None, map, fold, Contains}
use Rattle.cpg_node.specs.Dispatcher.{Dispatcher, Act, Ended, Frame, next, finished, hear_all, AllFine, EndFits}
use Rattle.cpg_node.specs.Dispatcher.{due_reports, turn, acts_of_turn}
use Rattle.cpg_node.specs.State.{MayFinish}
use Rattle.cpg_live.specs.declared.event.Event.{Event}
use Rattle.cpg_live.specs.declared.event.Event.TheVariants.{Frame as Arrival, End as Ending, Close}
use Rattle.cpg_live.specs.declared.lawless.Defect.{Defect}
use Rattle.cpg_live.specs.Stream.{NodeProgress, Step, lawful, step, turned}

-- the event of a report, at its time
abbrev pub end_event : ℕ × Ended → ℕ × Event
end_event e = (e.0, Ending e.1.process e.1.faults e.1.value)

-- the event of a frame, at its arrival
abbrev pub frame_event : ℕ → Frame → ℕ × Event
frame_event time f = (time, Arrival f)

-- the step of one more event; after a lawless one nothing more is done
abbrev pub follow_if : Step → ℕ × Event → Option Defect → Step
follow_if s e None = step e.0 e.1 s.progress
follow_if s e (Some defect) = s

-- the step of one more event after the step `s`; the same step if that found a lawless event
abbrev pub follow_one : Step → ℕ × Event → Step
follow_one s e = follow_if s e s.fault

-- the steps of several events, one after another, up to the first lawless one
abbrev pub follow : Step → List (ℕ × Event) → Step
follow s es = fold follow_one s es

-- the first time after the last turn; 0 if there was none
abbrev pub after_last : Option ℕ → ℕ
after_last None = 0
after_last (Some last) = last + 1

-- node `p` on a stream, after all turns up to the last one of a node in a play, is in the state `d` of that node, and has
-- done the same `acts`
abbrev pub HasCome : NodeProgress → Dispatcher → List Act → Type 0
HasCome p d acts = turned (after_last d.last) p ≡ record { dispatcher = d; acts = acts }

-- the node may take these reports one after another; they are in order of time, and none is before `from`
abbrev pub MayReport : Dispatcher → ℕ → List (ℕ × Ended) → Type 0
MayReport d from [] = Unit {0}
MayReport d from (e ∷ es) = (from ≤ e.0) × MayFinish d e.0 e.1 × MayReport (finished d e.1) e.0 es

-- the node after these reports
abbrev pub after_reports : Dispatcher → List (ℕ × Ended) → Dispatcher
after_reports d es = fold finished d (map {A = ℕ × Ended} {B = Ended} (λ e. e.1) es)

-- the events of a node up to a turn at a time and in it: the reports before it, and the frames that arrive then
abbrev pub turn_events : ℕ → List (ℕ × Ended) → List Frame → List (ℕ × Event)
turn_events time reports frames = map end_event reports ++ map (frame_event time) frames

-- these events are lawful, and lead a node on a stream to the state after the turn, and to its acts
pub record IsFollowed (p : NodeProgress) (d : Dispatcher) (acts : List Act) (time : ℕ) (reports : List (ℕ × Ended))
    (frames : List Frame) : Type 0 where
  -- no event is lawless
  pub none : (follow (lawful p) (turn_events time reports frames)).fault ≡ None
  -- the node on the stream comes to the state and the acts after the turn
  pub comes : HasCome (follow (lawful p) (turn_events time reports frames)).progress
      (turn (after_reports d reports) time [] frames) (acts ++ acts_of_turn (after_reports d reports) time [] frames)

-- this holds for each turn at the next instant of a node in a play, if the node may take the reports before it, no frame is
-- strange, and the frames contradict no end that is due
abbrev pub TurnsAreFollowed : Type 0
TurnsAreFollowed = (p : NodeProgress) (d : Dispatcher) (acts : List Act) (time : ℕ) (reports : List (ℕ × Ended))
    (frames : List Frame) → HasCome p d acts → next d ≡ Some time →
    MayReport d (after_last d.last) reports → AllFine (after_reports d reports) time frames →
    ((e : Ended) → Contains (due_reports (after_reports d reports) time) e →
    EndFits (after_reports d reports).table (hear_all (after_reports d reports) frames).heard e) →
    IsFollowed p d acts time reports frames

-- a close that isn't before the last turn of a node in a play, which has no next instant, leads a node on a stream to its
-- state and acts
abbrev pub ClosesAreFollowed : Type 0
ClosesAreFollowed = (p : NodeProgress) (d : Dispatcher) (acts : List Act) (time : ℕ) → HasCome p d acts →
    next d ≡ None → after_last d.last ≤ time + 1 →
    step time Close p ≡ lawful (record { dispatcher = d; acts = acts })
