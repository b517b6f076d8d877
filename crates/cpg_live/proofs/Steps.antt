-- What a turn and an event make of a node.
use Rattle.std.proofs.Common.{◌≡◌, ℕ, ◌+◌, ◌<◌, ◌≤◌, Bool, true, false, cond, ◌&&◌, ◌||◌, List, [], ◌++◌, length}
use Rattle.std.proofs.Common.{Option, Some, None, refl, sym, ap, ap₂, ◌∙◌, subst, arith, true≢false, ltb-true}
use Rattle.std.proofs.Common.{leb-true}
use Rattle.std.specs.Prelude.{IfSome, is_some, is_none, not, nat_lt, nat_le}
use Rattle.std.proofs.lemmas.Bool.{and_parts}
use Rattle.std.proofs.lemmas.Option.{none-some}
use Rattle.cpg_node.specs.Dispatcher.{Dispatcher, Act, Ended, Frame, Running, next, turn, acts_of_turn, is_after}
use Rattle.cpg_node.specs.Dispatcher.{is_strange, hear, finished, own_of}
use Rattle.cpg_node.specs.State.{NodeState, MayFinish, running_of, time_of}
use Rattle.cpg_node.specs.Instants.{entries_left}
use Rattle.cpg_node.proofs.Rooms.{room_turn}
use Rattle.cpg_live.specs.declared.event.Event.{Event}
use Rattle.cpg_live.specs.declared.event.Event.TheVariants.{Frame as Arrival, End as Ending, Close}
use Rattle.cpg_live.specs.declared.lawless.Defect.TheVariants.{Frame as StrangeFrame, End as FalseEnd}
use Rattle.cpg_live.specs.Stream.{NodeProgress, lawless, lawful, take_turn, turned, may_end, may_end_now, may_tell}
use Rattle.cpg_live.specs.Stream.{arrived, ended, step, is_close}
use Rattle.cpg_live.specs.Feeding.{IsTurned}
use Rattle.cpg_live.proofs.Turns.{turned_after}

-- A turn.

-- if option `o` has value `t`, what holds of its value holds of `t`
pub at_some : (o : Option ℕ) (t : ℕ) (P : ℕ → Type 0) → o ≡ Some t → IfSome o P → P t
at_some o t P e h = subst (λ o. IfSome o P) e h

-- a node with its acts, as progress
abbrev progress_at : Dispatcher → List Act → NodeProgress
progress_at d acts = record { dispatcher = d; acts = acts }

-- a node that takes the turn of its next instant, and its acts after those so far, are the progress after that turn;
-- the view of the node before is that of p
pub turn_taken : (p : NodeProgress) (before after : NodeState) (time : ℕ) (items more all : List Act) →
    progress_at before.dispatcher items ≡ p →
    next p.dispatcher ≡ Some time →
    IfSome (next before.dispatcher) (λ t. after.dispatcher ≡ turn before.dispatcher t [] []) →
    IfSome (next before.dispatcher) (λ t. after.acts ≡ acts_of_turn before.dispatcher t [] []) →
    more ≡ after.acts → all ≡ items ++ more → progress_at after.dispatcher all ≡ take_turn time p
turn_taken p before after time items more all view comes d a m l =
    let here : next before.dispatcher ≡ Some time = ap (λ (p : NodeProgress). next p.dispatcher) view ∙ comes in
    ap₂ progress_at
    (at_some (next before.dispatcher) time (λ t. after.dispatcher ≡ turn before.dispatcher t [] []) here d)
    (l ∙ ap (λ l. items ++ l)
    (m ∙ at_some (next before.dispatcher) time (λ t. after.acts ≡ acts_of_turn before.dispatcher t [] []) here a))
    ∙ ap (take_turn time) view

-- if there was room for the acts so far and an act of each entry left, there is after a turn for its acts and the
-- entries left then, since they are no more than the entries left before (`room_turn`)
pub room_taken : (before after : NodeState) (time n room : ℕ) (more : List Act) → next before.dispatcher ≡ Some time →
    IfSome (next before.dispatcher) (λ t. after.dispatcher ≡ turn before.dispatcher t [] []) →
    IfSome (next before.dispatcher) (λ t. after.acts ≡ acts_of_turn before.dispatcher t [] []) →
    more ≡ after.acts → n + length (entries_left before.dispatcher) ≤ room →
    n + length more + length (entries_left after.dispatcher) ≤ room
room_taken before after time n room more here d a m l = omega (
  arith,
  room_turn before.dispatcher time [] here,
  ap (λ (l : List Act). length l)
      (m ∙ at_some (next before.dispatcher) time (λ t. after.acts ≡ acts_of_turn before.dispatcher t [] []) here a),
  ap (λ (d : Dispatcher). length (entries_left d))
      (at_some (next before.dispatcher) time (λ t. after.dispatcher ≡ turn before.dispatcher t [] []) here d),
  l,
)

-- An end.

-- an execution that runs, has not reported, has started before a time, and is planned to run to it
pub record Unreported (o : Option Running) (time duration : ℕ) : Type 0 where
  -- it runs, and has no report yet
  pub run : Running
  pub runs : o ≡ Some run
  pub none : run.report ≡ None
  -- it started before this time, and its planned end isn't earlier
  pub started : run.start < time
  pub in_time : time ≤ run.start + duration

-- an option of which `is_none` holds is None
none_is : {A : Type 0} (o : Option A) → is_none o ≡ true → o ≡ None
none_is None e = refl
none_is (Some x) e = absurd (true≢false (sym e))

-- if end `e` of what runs, `o`, may be told at a time, it runs, has no report, started before the time, and could still
-- be running
pub unreported : (d : Dispatcher) (time : ℕ) (e : Ended) (o : Option Running) → may_end_now d time e o ≡ true →
    Unreported o time (time_of d e.process e.faults)
unreported d time e None may = absurd (true≢false (sym may))
unreported d time e (Some run) may =
    let tests = and_parts (is_none run.report && nat_lt run.start time)
    (nat_le time (run.start + time_of d e.process e.faults)) may in
    let unreported_now = and_parts (is_none run.report) (nat_lt run.start time) tests.0 in
    record {
      run = run;
      runs = refl;
      none = none_is run.report unreported_now.0;
      started = ltb-true run.start time unreported_now.1;
      in_time = leb-true time (run.start + time_of d e.process e.faults) tests.1;
    }

-- without a condition the value has to be false
plain_is : (o : Option ℕ) (value : Bool) → (is_some o || not value) ≡ true → o ≡ None → value ≡ false
plain_is None true h e = absurd (true≢false (sym h))
plain_is None false h e = refl
plain_is (Some c) value h e = absurd (none-some c (sym e))

-- an end that may be reported is one that the node may note; each test of `may_end` gives a field
pub may_finish : (d : Dispatcher) (time : ℕ) (e : Ended) → IsTurned d time → is_after d.last time ≡ true →
    may_end d time e ≡ true →
    MayFinish d time e
may_finish d time e before later may =
    let tests = and_parts (may_tell d e) (may_end_now d time e (running_of d e.process)) may in
    let told = and_parts (nat_le e.faults d.table.faults)
    (is_some (own_of d.table e.process).condition || not e.value) tests.0 in
    let execution = unreported d time e (running_of d e.process) tests.1 in
    record {
      run = execution.run;
      runs = execution.runs;
      unreported = execution.none;
      few = leb-true e.faults d.table.faults told.0;
      plain = plain_is (own_of d.table e.process).condition e.value told.1;
      started = execution.started;
      in_time = execution.in_time;
      later = later;
      before = before;
    }

-- The last turn stays before the time of the record.

-- after a frame `f`, the last turn of node `p` is still before the time, and so it is after an end
arrived_after : (time : ℕ) (f : Frame) (p : NodeProgress) → is_after p.dispatcher.last time ≡ true →
    is_after (arrived time f p).progress.dispatcher.last time ≡ true
arrived_after time f p h = go (is_strange p.dispatcher time f)
  where
    -- by whether the frame is strange
    go : (b : Bool) →
        is_after (cond b (lawless p StrangeFrame)
        (lawful (record p { dispatcher = hear p.dispatcher f }))).progress.dispatcher.last time ≡ true
    go true = h
    go false = h

-- after an end `e`, the last turn of node `p` is still before the time
ended_after : (time : ℕ) (e : Ended) (p : NodeProgress) → is_after p.dispatcher.last time ≡ true →
    is_after (ended time e p).progress.dispatcher.last time ≡ true
ended_after time e p h = go (may_end p.dispatcher time e)
  where
    -- by whether the process may end with this report
    go : (b : Bool) →
        is_after (cond b (lawful (record p { dispatcher = finished p.dispatcher e }))
        (lawless p FalseEnd)).progress.dispatcher.last time ≡ true
    go true = h
    go false = h

-- an event that is no close leaves the last turn before its time
pub step_after : (time : ℕ) (event : Event) (p : NodeProgress) → is_after p.dispatcher.last time ≡ true →
    is_close event ≡ false →
    is_after (step time event p).progress.dispatcher.last time ≡ true
step_after time (Arrival f) p h o = arrived_after time f (turned time p) (turned_after time p h)
step_after time (Ending process faults value) p h o = ended_after time
    (record { process = process; faults = faults; value = value }) (turned time p) (turned_after time p h)
step_after time Close p h o = absurd (true≢false o)
