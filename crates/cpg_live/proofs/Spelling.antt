-- Bytes that spell events are taken as these events: the record of each is read back from its bytes.
use Rattle.std.proofs.Common.{◌≡◌, ℕ, ◌+◌, ◌-◌, ◌<◌, ◌≤◌, ◌^◌, min, Bool, true, false, cond, ◌&&◌, ◌||◌, ◌==◌, List, []}
use Rattle.std.proofs.Common.{◌∷◌, ◌++◌, map, fold, Option, Some, None, refl, sym, ap, ◌∙◌, arith}
use Rattle.std.proofs.Common.{append-nil, append_assoc, true≢false, ltb-true, le-ltb}
use Rattle.std.specs.Prelude.{nat_lt}
use Rattle.std.specs.List.{AllByRecursion}
use Rattle.std.specs.Int.{w16, w64, to_be_bytes, from_be_bytes}
use Rattle.std.proofs.lemmas.Nat.{from_be_bytes-to_be_bytes_2, from_be_bytes-to_be_bytes_8}
use Rattle.std.proofs.lemmas.Option.{none-some}
use Rattle.std.proofs.lemmas.List.Sums.{fold-append}
use Rattle.byteorder.specs.Endian.{big_number, big_bytes}
use Rattle.cpg_table.specs.Table.{NodeTable}
use Rattle.cpg_node.specs.Dispatcher.{Ended, Frame, is_strange, hear, finished}
use Rattle.cpg_live.specs.declared.reading.Record.{Record}
use Rattle.cpg_live.specs.declared.lawless.Defect.{Defect}
use Rattle.cpg_live.specs.declared.lawless.Defect.TheVariants.{Order, Frame as StrangeFrame, End as FalseEnd}
use Rattle.cpg_live.specs.declared.event.Event.{Event}
use Rattle.cpg_live.specs.declared.event.Event.TheVariants.{Frame as Arrival, End as Ending, Close}
use Rattle.cpg_live.specs.Records.{Cut, cut_byte, record_of, event_of}
use Rattle.cpg_live.specs.Stream.{NodeProgress, Step, LiveState, lawless, lawful, turned, may_end, arrived, ended, step}
use Rattle.cpg_live.specs.Stream.{start, is_close, refused, settled, stepped, judged, take_record, with_rest}
use Rattle.cpg_live.specs.Stream.{open_stream, outcome, after}
use Rattle.cpg_live.specs.Told.{follow_if, follow}
use Rattle.cpg_live.specs.Spelling.{bit, item_of, number_of, record_with, record_bytes, event_bytes, stream_bytes}
use Rattle.cpg_live.specs.Spelling.{HasRoom, RiseWithin, closed_at, BytesSpellEvents}
use Rattle.cpg_live.proofs.Turns.{turned_table}

-- The numbers of a record are read from its bytes.

-- a number that fits eight bytes is read back from them
number_8 : (n : ℕ) → n < 2 ^ 64 → big_number 8 (big_bytes 8 n) ≡ n
number_8 n fits = let same : big_number 8 (to_be_bytes w64 n) ≡ from_be_bytes w64 (to_be_bytes w64 n) = omega arith in
    same ∙ from_be_bytes-to_be_bytes_8 n fits

-- a number that fits two bytes is read back from them
number_2 : (n : ℕ) → n < 2 ^ 16 → big_number 2 (big_bytes 2 n) ≡ n
number_2 n fits = let same : big_number 2 (to_be_bytes w16 n) ≡ from_be_bytes w16 (to_be_bytes w16 n) = omega arith in
    same ∙ from_be_bytes-to_be_bytes_2 n fits

-- the bytes of a record give back the record
numbers : (r : Record) → r.time < 2 ^ 64 → r.item < 2 ^ 16 → r.number < 2 ^ 16 → record_of (record_bytes r) ≡ r
numbers r t i n = λ j. record {
  kind = r.kind;
  time = number_8 r.time t j;
  item = number_2 r.item i j;
  number = number_2 r.number n j;
  value = r.value;
}

-- the item of an event that has room fits two bytes
item_fits : (table : NodeTable) (e : Event) → HasRoom table e → item_of e < 2 ^ 16
item_fits table (Arrival f) h = h.0
item_fits table (Ending process faults value) h = h.0
item_fits table Close h = omega arith

-- the number of an event that has room fits two bytes
number_fits : (table : NodeTable) (e : Event) → HasRoom table e → number_of e < 2 ^ 16
number_fits table (Arrival f) h = h.1
number_fits table (Ending process faults value) h = h.1
number_fits table Close h = omega arith

-- the record of an event that has room says just this event; for a frame, by its value and by whether its item can have
-- one
told_back : (table : NodeTable) (time : ℕ) (e : Event) → HasRoom table e → event_of table (record_with time e) ≡ Some e
told_back table time (Arrival f) h =
    go f.value (nat_lt f.item table.first_broadcast) (λ b. h.2 (ltb-true f.item table.first_broadcast b))
  where
    -- by `v`, the value, and `b`, whether the item is a message, whose value is false
    go : (v b : Bool) → (b ≡ true → v ≡ false) →
        cond (false || nat_lt 1 (bit v) || false || (true && b && (bit v == 1))) None
        (Some (Arrival (record { item = f.item; column = f.column; value = bit v == 1 })))
        ≡ Some (Arrival (record { item = f.item; column = f.column; value = v }))
    go true true plain = absurd (true≢false (plain refl))
    go true false plain = refl
    go false true plain = refl
    go false false plain = refl
told_back table time (Ending process faults true) h = refl
told_back table time (Ending process faults false) h = refl
told_back table time Close h = refl

-- the bytes of events are cut into the records of the events, after those before; by induction on the events
cut_records : (before : List (List ℕ)) (es : List (ℕ × Event)) →
    fold cut_byte (record { whole = before; rest = [] }) (stream_bytes es)
    ≡ record { whole = before ++ map event_bytes es; rest = [] }
cut_records before [] = ap (λ (w : List (List ℕ)). record { whole = w; rest = [] }) (sym (append-nil before))
cut_records before (e ∷ es) =
    fold-append cut_byte (record { whole = before; rest = [] }) (event_bytes e) (stream_bytes es)
    ∙ cut_records (before ++ (event_bytes e ∷ [])) es
    ∙ ap (λ (w : List (List ℕ)). record { whole = w; rest = [] })
    (append_assoc before (event_bytes e ∷ []) (map event_bytes es))

-- Events leave the table.

-- a frame `f` leaves the table of node `p` as it is, and so does an end
arrived_table : (time : ℕ) (f : Frame) (p : NodeProgress) →
    (arrived time f p).progress.dispatcher.table ≡ p.dispatcher.table
arrived_table time f p = go (is_strange p.dispatcher time f)
  where
    -- by whether the frame is strange
    go : (b : Bool) →
        (cond b (lawless p StrangeFrame)
        (lawful (record p { dispatcher = hear p.dispatcher f }))).progress.dispatcher.table ≡ p.dispatcher.table
    go true = refl
    go false = refl

-- an end `e` leaves the table of node `p` as it is
ended_table : (time : ℕ) (e : Ended) (p : NodeProgress) →
    (ended time e p).progress.dispatcher.table ≡ p.dispatcher.table
ended_table time e p = go (may_end p.dispatcher time e)
  where
    -- by whether the process may end with this report
    go : (b : Bool) →
        (cond b (lawful (record p { dispatcher = finished p.dispatcher e }))
        (lawless p FalseEnd)).progress.dispatcher.table ≡ p.dispatcher.table
    go true = refl
    go false = refl

-- an event leaves the table as it is
pub step_table : (time : ℕ) (event : Event) (p : NodeProgress) →
    (step time event p).progress.dispatcher.table ≡ p.dispatcher.table
step_table time (Arrival f) p = arrived_table time f (turned time p) ∙ turned_table time p
step_table time (Ending process faults value) p =
    ended_table time (record { process = process; faults = faults; value = value }) (turned time p)
    ∙ turned_table time p
step_table time Close p = turned_table (time + 1) p

-- A lawful front.

-- after a lawless event, more events `es` change nothing of the fault
stays_faulty : (es : List (ℕ × Event)) (s : Step) (defect : Defect) → s.fault ≡ Some defect →
    (follow s es).fault ≡ Some defect
stays_faulty [] s defect e = e
stays_faulty (f ∷ es) s defect e = ap (λ z. (follow z es).fault) (ap (follow_if s f) e) ∙ stays_faulty es s defect e

-- if events `es` are lawful after step `s`, so was the step
pub lawful_front : (es : List (ℕ × Event)) (s : Step) → (follow s es).fault ≡ None → s ≡ lawful s.progress
lawful_front es s e = go s.fault refl
  where
    -- by whether the step before the events had a fault, which would have stayed
    go : (o : Option Defect) → s.fault ≡ o → s ≡ lawful s.progress
    go None n = ap (λ o. record { progress = s.progress; fault = o }) n
    go (Some defect) n = absurd (none-some defect (sym e ∙ stays_faulty es s defect n))

-- if events `es` rise from one time to another, the first isn't after the second
pub within_le : (from to : ℕ) (es : List (ℕ × Event)) → RiseWithin from to es → from ≤ to
within_le from to [] h = h
within_le from to (e ∷ es) h = omega (arith, h.0, within_le e.0 to es h.2)

-- An open stream takes them.

-- a lawful state that holds no byte of a next record
abbrev state : NodeProgress → ℕ → ℕ → Bool → LiveState
state p taken time closed =
    record { progress = p; taken = taken; time = time; rest = []; closed = closed; lawless = None }

-- given the table of the node
module _ (table : NodeTable) where
  -- an open stream with node `p` takes the bytes of a lawful event `e` as the event
  takes_one : (p : NodeProgress) (taken time : ℕ) (e : ℕ × Event) → p.dispatcher.table ≡ table → time ≤ e.0 →
      e.0 < 2 ^ 64 → HasRoom table e.1 →
      (step e.0 e.1 p).fault ≡ None →
      take_record (state p taken time false) (event_bytes e)
      ≡ state (step e.0 e.1 p).progress (min (taken + 1) (2 ^ 64 - 1)) e.0 (is_close e.1)
  takes_one p taken time e same later small room fine =
      let before : LiveState = state p taken time false in
      ap (λ (r : Record). judged before r.time (event_of p.dispatcher.table r))
      (numbers (record_with e.0 e.1) small (item_fits table e.1 room) (number_fits table e.1 room))
      ∙ ap (λ t. judged before e.0 (event_of t (record_with e.0 e.1))) same
      ∙ ap (judged before e.0) (told_back table e.0 e.1 room)
      ∙ ap (λ b. cond b (refused before Order) (stepped before e.0 e.1 (step e.0 e.1 p))) (le-ltb e.0 time later)
      ∙ ap (settled (record before { progress = (step e.0 e.1 p).progress }) e.0 e.1) fine

  -- an open stream, with node `p` and `taken` records so far, takes the bytes of lawful events `es` and a close as
  -- these events; by induction on the events: each is lawful as all are, and leaves an open state at its time
  takes_all : (close : ℕ) → close < 2 ^ 64 → (es : List (ℕ × Event)) (p : NodeProgress) (taken time : ℕ) →
      p.dispatcher.table ≡ table →
      RiseWithin time close es →
      AllByRecursion (λ (e : ℕ × Event). HasRoom table e.1) es →
      (follow (lawful p) es).fault ≡ None →
      (count : ℕ) × (fold take_record (state p taken time false) (map event_bytes (closed_at es close))
      ≡ state (follow (lawful p) (closed_at es close)).progress count close true)
  takes_all close small [] p taken time same rise room fine =
      (min (taken + 1) (2 ^ 64 - 1), takes_one p taken time (close, Close) same rise small tt refl)
  takes_all close small (e ∷ es) p taken time same rise room fine =
      let most = within_le e.0 close es rise.2 in
      let whole : step e.0 e.1 p ≡ lawful (step e.0 e.1 p).progress = lawful_front es (step e.0 e.1 p) fine in
      let next : NodeProgress = (step e.0 e.1 p).progress in
      let one =
      takes_one p taken time e same rise.0 (omega (arith, most, small)) room.0 (ap (λ (s : Step). s.fault) whole) in
      let rest = takes_all close small es next (min (taken + 1) (2 ^ 64 - 1)) e.0
      (step_table e.0 e.1 p ∙ same) rise.2 room.1 (sym (ap (λ s. (follow s es).fault) whole) ∙ fine) in (
        rest.0,
        ap (λ z. fold take_record z (map event_bytes (closed_at es close)))
            (one ∙ ap (state next (min (taken + 1) (2 ^ 64 - 1)) e.0) rise.1)
            ∙ rest.1 ∙ sym (ap (λ s. state (follow s (closed_at es close)).progress rest.0 close true) whole),
      )

-- the bytes that spell lawful events and a close are a lawful stream, which does what the events do
pub bytes_spell : BytesSpellEvents
bytes_spell table es close small rise room fine =
    let taken = takes_all table close small es (start table) 0 0 refl rise room fine in
    let is : after table (stream_bytes (closed_at es close))
    ≡ state (follow (lawful (start table)) (closed_at es close)).progress taken.0 close true =
    ap (λ (c : Cut). with_rest (fold take_record (open_stream table) c.whole) c.rest)
    (cut_records [] (closed_at es close)) ∙ ap (λ s. with_rest s []) taken.1 in
    record { ends = ap outcome is; comes = ap (λ (s : LiveState). s.progress) is }
