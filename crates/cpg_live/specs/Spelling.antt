-- Events as bytes: the stream that spells them. An event comes with its time.
use Rattle.std.specs.Prelude.{ℕ, ◌≡◌, ◌<◌, ◌≤◌, ◌^◌, Bool, false, if◌then◌else◌, List, [], ◌∷◌, ◌++◌, None, Ok}
use Rattle.std.specs.List.{flat_map, AllByRecursion}
use Rattle.byteorder.specs.Endian.{big_bytes}
use Rattle.cpg_table.specs.Table.{NodeTable}
use Rattle.cpg_live.specs.declared.reading.Record.{Record}
use Rattle.cpg_live.specs.declared.event.Event.{Event}
use Rattle.cpg_live.specs.declared.event.Event.TheVariants.{Frame as Arrival, End as Ending, Close}
use Rattle.cpg_live.specs.Stream.{lawful, start, is_close, after, outcome}
use Rattle.cpg_live.specs.Told.{follow}

-- a truth value as a byte: 1 or 0
abbrev pub bit : Bool → ℕ
bit value = if value then 1 else 0

-- The numbers of an event's record; those of a close are 0, but for its kind.

-- the kind of an event's record: a frame, an end or a close
abbrev pub kind_of : Event → ℕ
kind_of (Arrival f) = 0
kind_of (Ending process faults value) = 1
kind_of Close = 2

-- the item of a frame, or the process of an end
abbrev pub item_of : Event → ℕ
item_of (Arrival f) = f.item
item_of (Ending process faults value) = process
item_of Close = 0

-- the column of a frame, or the fault count of an end
abbrev pub number_of : Event → ℕ
number_of (Arrival f) = f.column
number_of (Ending process faults value) = faults
number_of Close = 0

-- the value that a broadcast carries, or that of the condition of a process that ended
abbrev pub value_of : Event → ℕ
value_of (Arrival f) = bit f.value
value_of (Ending process faults value) = bit value
value_of Close = 0

-- the record of an event at a time
abbrev pub record_with : ℕ → Event → Record
record_with time event =
    record { kind = kind_of event; time = time; item = item_of event; number = number_of event; value = value_of event }

-- the record's 14 bytes, each number with its highest byte first
abbrev pub record_bytes : Record → List ℕ
record_bytes r = r.kind ∷ (big_bytes 8 r.time ++ (big_bytes 2 r.item ++ (big_bytes 2 r.number ++ r.value ∷ [])))

-- the bytes of an event at its time
abbrev pub event_bytes : ℕ × Event → List ℕ
event_bytes e = record_bytes (record_with e.0 e.1)

-- the bytes of events, one after another
abbrev pub stream_bytes : List (ℕ × Event) → List ℕ
stream_bytes es = flat_map event_bytes es

-- the event's numbers fit their fields in a record, and a message carries no value
abbrev pub HasRoom : NodeTable → Event → Type 0
HasRoom table (Arrival f) = (f.item < 2 ^ 16) × (f.column < 2 ^ 16) × (f.item < table.first_broadcast → f.value ≡ false)
HasRoom table (Ending process faults value) = (process < 2 ^ 16) × (faults < 2 ^ 16)
HasRoom table Close = Unit {0}

-- the events are in order of time, none is before `from` or after `to`, and none is a close
abbrev pub RiseWithin : ℕ → ℕ → List (ℕ × Event) → Type 0
RiseWithin from to [] = from ≤ to
RiseWithin from to (e ∷ es) = (from ≤ e.0) × (is_close e.1 ≡ false) × RiseWithin e.0 to es

-- the events, and after them a close at the time `close`
abbrev pub closed_at : List (ℕ × Event) → ℕ → List (ℕ × Event)
closed_at es close = es ++ ((close, Close) ∷ [])

-- the bytes of the events and a close are a lawful stream, which ends with this close; and they lead the node where the
-- events lead it
pub record AreTaken (table : NodeTable) (es : List (ℕ × Event)) (close : ℕ) : Type 0 where
  -- the stream is lawful, and ends with the close
  pub ends : outcome (after table (stream_bytes (closed_at es close))) ≡ Ok close
  -- the node comes to where the events lead it
  pub comes : (after table (stream_bytes (closed_at es close))).progress
      ≡ (follow (lawful (start table)) (closed_at es close)).progress

-- this holds for all events that are lawful one after another, rise in time and fit their fields, and of a close after
-- them
abbrev pub BytesSpellEvents : Type 0
BytesSpellEvents = (table : NodeTable) (es : List (ℕ × Event)) (close : ℕ) → close < 2 ^ 64 → RiseWithin 0 close es →
    AllByRecursion (λ (e : ℕ × Event). HasRoom table e.1) es →
    (follow (lawful (start table)) es).fault ≡ None → AreTaken table es close
