-- One node on a stream of records: what it does, and which record is the first lawless one.
use Rattle.std.specs.Prelude.{ℕ, zero, suc, ◌+◌, ◌-◌, ◌^◌, min, Bool, true, false, not, ◌&&◌, ◌||◌, nat_lt, nat_le}
use Rattle.std.specs.Prelude.{if◌then◌else◌, List, [], ◌++◌, Option, Some, None, is_some, is_none, fold, length, Result}
use Rattle.std.specs.Prelude.{Ok, Err}
use Rattle.cpg_table.specs.Table.{NodeTable}
use Rattle.cpg_node.specs.Dispatcher.{Dispatcher, Act, Ended, Frame, Running, initial_dispatcher, next, turn}
use Rattle.cpg_node.specs.Dispatcher.{acts_of_turn, hear, is_strange, finished, own_of}
use Rattle.cpg_node.specs.State.{running_of, time_of}
use Rattle.cpg_live.specs.declared.event.Event.{Event}
use Rattle.cpg_live.specs.declared.event.Event.TheVariants.{Frame as Arrival, End as Ending, Close}
use Rattle.cpg_live.specs.declared.lawless.LawlessRecord.{LawlessRecord}
use Rattle.cpg_live.specs.declared.lawless.Defect.{Defect}
use Rattle.cpg_live.specs.declared.lawless.Defect.TheVariants.{Length, Kind, Order, Frame as StrangeFrame}
use Rattle.cpg_live.specs.declared.lawless.Defect.TheVariants.{End as FalseEnd}
use Rattle.cpg_live.specs.Records.{Cut, cut, record_of, event_of}

-- the state of a node, and the acts of all its turns so far, in order
pub record NodeProgress : Type 0 where
  -- the state of the node
  pub dispatcher : Dispatcher
  -- the acts of all its turns so far, in order
  pub acts : List Act

-- a node before its first turn
abbrev pub start : NodeTable → NodeProgress
start table = record { dispatcher = initial_dispatcher table; acts = [] }

-- A turn that takes no ends and no frames, since the node has taken them before.

-- the node after such a turn at a time, with the acts of it added
abbrev pub take_turn : ℕ → NodeProgress → NodeProgress
take_turn time p =
    record { dispatcher = turn p.dispatcher time [] []; acts = p.acts ++ acts_of_turn p.dispatcher time [] [] }

-- the instant, if there is one and it is below a limit
abbrev pub instant_below : ℕ → Option ℕ → Option ℕ
instant_below limit None = None
instant_below limit (Some time) = if nat_lt time limit then Some time else None

-- the node after the turn of an instant; unchanged if there is none
abbrev pub turn_if : NodeProgress → Option ℕ → NodeProgress
turn_if p None = p
turn_if p (Some time) = take_turn time p

-- the node after the turn of the next instant, if that is below a limit; unchanged if it isn't
abbrev pub turn_below : ℕ → NodeProgress → NodeProgress
turn_below limit p = turn_if p (instant_below limit (next p.dispatcher))

-- the node after up to `count` such turns
unfoldable pub turns_below : ℕ → ℕ → NodeProgress → NodeProgress
turns_below zero limit p = p
turns_below (suc count) limit p = turns_below count limit (turn_below limit p)

-- the node after all turns at instants below a limit; the instants rise, so there are at most `limit`
abbrev pub turned : ℕ → NodeProgress → NodeProgress
turned limit p = turns_below limit limit p

-- What an event does, and when it is lawless. The turns before it are taken also if it is lawless.

-- the node after an event, and what is wrong with the event, if anything
pub record Step : Type 0 where
  -- the node after the event; if that is lawless, after the turns before it
  pub progress : NodeProgress
  -- what is wrong with the event; `None` if it is lawful
  pub fault : Option Defect

-- the step of a lawless event
abbrev pub lawless : NodeProgress → Defect → Step
lawless p defect = record { progress = p; fault = Some defect }

-- the step of a lawful event
abbrev pub lawful : NodeProgress → Step
lawful p = record { progress = p; fault = None }

-- whether the execution of e's process, if it runs, may end at a time: it hasn't reported its end, it started before, and
-- its planned end, with e's faults, isn't before
abbrev pub may_end_now : Dispatcher → ℕ → Ended → Option Running → Bool
may_end_now d time e None = false
may_end_now d time e (Some run) =
    is_none run.report && nat_lt run.start time && nat_le time (run.start + time_of d e.process e.faults)

-- whether an end has at most the faults of a cycle, and a true value only if its process has a condition
abbrev pub may_tell : Dispatcher → Ended → Bool
may_tell d e = nat_le e.faults d.table.faults && (is_some (own_of d.table e.process).condition || not e.value)

-- whether a process may report its end at this time
abbrev pub may_end : Dispatcher → ℕ → Ended → Bool
may_end d time e = may_tell d e && may_end_now d time e (running_of d e.process)

-- the step of a frame that arrives at a time, after the turns before it: a strange one is lawless
abbrev pub arrived : ℕ → Frame → NodeProgress → Step
arrived time f p = if is_strange p.dispatcher time f then lawless p StrangeFrame
    else lawful (record p { dispatcher = hear p.dispatcher f })

-- the step of an end that is reported at a time, after the turns before it
abbrev pub ended : ℕ → Ended → NodeProgress → Step
ended time e p = if may_end p.dispatcher time e then lawful (record p { dispatcher = finished p.dispatcher e })
    else lawless p FalseEnd

-- the step of an event at a time: first the turns before that time (at a close, also the one at it), and then the event
abbrev pub step : ℕ → Event → NodeProgress → Step
step time (Arrival f) p = arrived time f (turned time p)
step time (Ending process faults value) p =
    ended time (record { process = process; faults = faults; value = value }) (turned time p)
step time Close p = lawful (turned (time + 1) p)

-- The stream.

-- the state of a node after bytes of a stream
pub record LiveState : Type 0 where
  -- the node, with its acts so far
  pub progress : NodeProgress
  -- how many lawful records were taken; the count stops at 2 ^ 64 - 1
  pub taken : ℕ
  -- the time of the last of them, or 0 before the first
  pub time : ℕ
  -- the bytes of the next record so far
  pub rest : List ℕ
  -- whether a close was taken
  pub closed : Bool
  -- the first lawless record, and why it is
  pub lawless : Option LawlessRecord

-- a node before the first byte of its stream
abbrev pub open_stream : NodeTable → LiveState
open_stream table = record { progress = start table; taken = 0; time = 0; rest = []; closed = false; lawless = None }

-- the state after the next record is found lawless
abbrev pub refused : LiveState → Defect → LiveState
refused s defect = record s { lawless = Some (record { index = s.taken; defect = defect }) }

-- whether an event closes the stream
abbrev pub is_close : Event → Bool
is_close (Arrival f) = false
is_close (Ending process faults value) = false
is_close Close = true

-- the state after a lawful record, whose step has been taken
abbrev pub take : LiveState → ℕ → Event → LiveState
take s time event = record s { taken = min (s.taken + 1) (2 ^ 64 - 1); time = time; closed = is_close event }

-- the state after a record whose step has been taken, by what is wrong with it, if anything
abbrev pub settled : LiveState → ℕ → Event → Option Defect → LiveState
settled s time event None = take s time event
settled s time event (Some defect) = refused s defect

-- the state after a record of a lawful kind and time, whose step is q
abbrev pub stepped : LiveState → ℕ → Event → Step → LiveState
stepped s time event q = settled (record s { progress = q.progress }) time event q.fault

-- the state after a record, given its time and, if its kind is lawful, its event
abbrev pub judged : LiveState → ℕ → Option Event → LiveState
judged s time None = refused s Kind
judged s time (Some event) = if nat_lt time s.time then refused s Order
    else stepped s time event (step time event s.progress)

-- the state after one more record: after a lawless one nothing changes, and after a close any record is lawless
abbrev pub take_record : LiveState → List ℕ → LiveState
take_record s bytes = if is_some s.lawless then s else if s.closed then refused s Length
    else judged s (record_of bytes).time (event_of s.progress.dispatcher.table (record_of bytes))

-- the state with the bytes of the next record so far; after a close any byte is lawless
abbrev pub with_rest : LiveState → List ℕ → LiveState
with_rest s rest = if is_some s.lawless then s else if s.closed && nat_lt 0 (length rest) then refused s Length
    else record s { rest = rest }

-- the state after bytes that are cut into records
abbrev pub after_cut : NodeTable → Cut → LiveState
after_cut table c = with_rest (fold take_record (open_stream table) c.whole) c.rest

-- the state of a node after bytes of its stream
abbrev pub after : NodeTable → List ℕ → LiveState
after table bytes = after_cut table (cut bytes)

-- the answer when bytes have been fed: Err with the first lawless record, if there is one
abbrev pub answer_of : Option LawlessRecord → Result Unit LawlessRecord
answer_of None = Ok tt
answer_of (Some lawless) = Err lawless

-- how a stream ends that ends in a state, given its first lawless record, if any: with the time of its close; without a
-- close, with the next record as the lawless one
abbrev pub outcome_if : LiveState → Option LawlessRecord → Result ℕ LawlessRecord
outcome_if s (Some lawless) = Err lawless
outcome_if s None = if s.closed then Ok s.time else Err (record { index = s.taken; defect = Length })

-- how a stream ends that ends in a state: with the time of its close, or with its first lawless record
abbrev pub outcome : LiveState → Result ℕ LawlessRecord
outcome s = outcome_if s s.lawless
