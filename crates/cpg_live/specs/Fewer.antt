-- A live node that takes no more turns than it must: only those at the times of its columns and at one end of each
-- execution that runs. The definitions are those of Stream with fewer turns.
use Rattle.std.specs.Prelude.{ℕ, zero, suc, ◌+◌, ◌≡◌, nat_lt, if◌then◌else◌, List, fold, Option, Some, None, is_some}
use Rattle.cpg_table.specs.Table.{NodeTable}
use Rattle.cpg_table.specs.Lawful.{IsTable}
use Rattle.cpg_node.specs.Quiet.{next_awaited}
use Rattle.cpg_live.specs.declared.event.Event.{Event}
use Rattle.cpg_live.specs.declared.event.Event.TheVariants.{Frame as Arrival, End as Ending, Close}
use Rattle.cpg_live.specs.declared.lawless.Defect.TheVariants.{Length, Kind, Order}
use Rattle.cpg_live.specs.Records.{Cut, cut, record_of, event_of}
use Rattle.cpg_live.specs.Stream.{NodeProgress, Step, LiveState, instant_below, turn_if, arrived, ended, lawful}
use Rattle.cpg_live.specs.Stream.{refused, stepped, with_rest, open_stream, after}

-- the node after the turn of the next awaited instant, if there is one and it is below a limit; unchanged otherwise
abbrev pub turn_awaited : ℕ → NodeProgress → NodeProgress
turn_awaited limit p = turn_if p (instant_below limit (next_awaited p.dispatcher))

-- the node after up to `count` turns at awaited instants below a limit
unfoldable pub turns_awaited : ℕ → ℕ → NodeProgress → NodeProgress
turns_awaited zero limit p = p
turns_awaited (suc count) limit p = turns_awaited count limit (turn_awaited limit p)

-- the node after all turns at awaited instants below a limit; these instants rise, so there are at most `limit`
abbrev pub turned_fewer : ℕ → NodeProgress → NodeProgress
turned_fewer limit p = turns_awaited limit limit p

-- the step of an event at a time, after only those of the turns before it that are at awaited instants
abbrev pub step_fewer : ℕ → Event → NodeProgress → Step
step_fewer time (Arrival f) p = arrived time f (turned_fewer time p)
step_fewer time (Ending process faults value) p =
    ended time (record { process = process; faults = faults; value = value }) (turned_fewer time p)
step_fewer time Close p = lawful (turned_fewer (time + 1) p)

-- the state after a record, with fewer turns, given its time and, if its kind is lawful, its event
abbrev pub judged_fewer : LiveState → ℕ → Option Event → LiveState
judged_fewer s time None = refused s Kind
judged_fewer s time (Some event) = if nat_lt time s.time then refused s Order
    else stepped s time event (step_fewer time event s.progress)

-- the state after one more record, as `take_record` but with fewer turns
abbrev pub take_record_fewer : LiveState → List ℕ → LiveState
take_record_fewer s bytes = if is_some s.lawless then s else if s.closed then refused s Length
    else judged_fewer s (record_of bytes).time (event_of s.progress.dispatcher.table (record_of bytes))

-- the state after bytes that are cut into records, with fewer turns
abbrev pub after_cut_fewer : NodeTable → Cut → LiveState
after_cut_fewer table c = with_rest (fold take_record_fewer (open_stream table) c.whole) c.rest

-- the state of a node after bytes of its stream, with fewer turns
abbrev pub after_fewer : NodeTable → List ℕ → LiveState
after_fewer table bytes = after_cut_fewer table (cut bytes)

-- a state with `last` as the instant of the last turn
abbrev pub with_last : LiveState → Option ℕ → LiveState
with_last s last =
    record s { progress = record { dispatcher = record s.progress.dispatcher { last = last }; acts = s.progress.acts } }

-- Leaving turns out changes nothing but the instant of the last turn. The acts are the same, and so is the answer to
-- each stream, lawful or not.
abbrev pub TurnsMayBeLeftOut : Type 0
TurnsMayBeLeftOut = (table : NodeTable) (bytes : List ℕ) → IsTable table →
    after_fewer table bytes ≡ with_last (after table bytes) (after_fewer table bytes).progress.dispatcher.last
