-- The records of a stream, from which a node learns what happens.
use Rattle.std.specs.Prelude.{ℕ, ◌+◌, Bool, not, ◌&&◌, ◌||◌, ◌==◌, nat_lt, if◌then◌else◌, List, [], ◌∷◌, ◌++◌, Option}
use Rattle.std.specs.Prelude.{Some, None, fold, length, drop, slice_index}
use Rattle.byteorder.specs.Endian.{big_number}
use Rattle.cpg_table.specs.Table.{NodeTable}
use Rattle.cpg_live.specs.declared.reading.Record.{Record}
use Rattle.cpg_live.specs.declared.event.Event.{Event}
use Rattle.cpg_live.specs.declared.event.Event.TheVariants.{Frame as Arrival, End, Close}

-- bytes cut into records: the whole ones, and the bytes of the next one so far
pub record Cut : Type 0 where
  -- the whole records, 14 bytes each
  pub whole : List (List ℕ)
  -- the bytes of the next record so far
  pub rest : List ℕ

-- the records with one byte more: when they are 14, the bytes so far are a whole record
abbrev pub cut_byte : Cut → ℕ → Cut
cut_byte c byte = if length c.rest + 1 == 14 then record { whole = c.whole ++ ((c.rest ++ byte ∷ []) ∷ []); rest = [] }
    else record { whole = c.whole; rest = c.rest ++ byte ∷ [] }

-- the bytes of a stream, cut into records
abbrev pub cut : List ℕ → Cut
cut bytes = fold cut_byte (record { whole = []; rest = [] }) bytes

-- the numbers of a record of 14 bytes, each with its highest byte first
abbrev pub record_of : List ℕ → Record
record_of bytes = record {
  kind = slice_index bytes 0;
  time = big_number 8 (drop 1 bytes);
  item = big_number 2 (drop 9 bytes);
  number = big_number 2 (drop 11 bytes);
  value = slice_index bytes 13;
}

-- A record's kind (0 for a frame, 1 for an end, 2 for a close) is lawless if it is above 2, the value byte is above 1, a
-- close has an item, a number or a value other than 0, or the frame of a message has the value 1.

-- whether the item, the number and the value of a record are 0, as those of a close must be
abbrev pub is_plain : Record → Bool
is_plain r = (r.item == 0) && (r.number == 0) && (r.value == 0)

-- whether a record's kind is lawless on the node of a table; items below `first_broadcast` aren't broadcasts
abbrev pub is_unkind : NodeTable → Record → Bool
is_unkind table r = nat_lt 2 r.kind || nat_lt 1 r.value || ((r.kind == 2) && not (is_plain r))
    || ((r.kind == 0) && nat_lt r.item table.first_broadcast && (r.value == 1))

-- the event of a record whose kind is lawful
abbrev pub told : Record → Event
told r = if r.kind == 0 then Arrival (record { item = r.item; column = r.number; value = r.value == 1 })
    else if r.kind == 1 then End r.item r.number (r.value == 1)
    else Close

-- the event of a record; None if its kind is lawless
abbrev pub event_of : NodeTable → Record → Option Event
event_of table r = if is_unkind table r then None else Some (told r)
