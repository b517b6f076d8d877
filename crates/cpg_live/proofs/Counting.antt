-- How many records of a lawful stream are taken: each that is whole.
use Rattle.std.proofs.Common.{◌≡◌, ℕ, ◌+◌, ◌*◌, ◌-◌, ◌^◌, ◌<◌, ◌≤◌, min, Bool, true, false, cond, ◌&&◌, ◌==◌, List, []}
use Rattle.std.proofs.Common.{◌∷◌, ◌++◌, length, fold, Option, Some, None, refl, sym, ap, ◌∙◌, subst, arith}
use Rattle.std.proofs.Common.{inl, inr, true≢false, eqb-true, eq-eqb, lt-ltb}
use Rattle.std.specs.Prelude.{◌⊎◌, is_some, nat_lt}
use Rattle.std.proofs.lemmas.List.{length-append}
use Rattle.std.proofs.lemmas.Bool.{cases_lt}
use Rattle.cpg_table.specs.Table.{NodeTable}
use Rattle.cpg_live.specs.declared.lawless.LawlessRecord.{LawlessRecord}
use Rattle.cpg_live.specs.declared.lawless.Defect.{Defect}
use Rattle.cpg_live.specs.declared.lawless.Defect.TheVariants.{Length, Kind, Order}
use Rattle.cpg_live.specs.declared.event.Event.{Event}
use Rattle.cpg_live.specs.Records.{Cut, cut_byte, cut, record_of, event_of}
use Rattle.cpg_live.specs.Stream.{LiveState, after, open_stream, refused, settled, stepped, judged, step, take_record}
use Rattle.cpg_live.specs.Stream.{with_rest}

-- ---- bytes that are cut into records

-- `count` bytes are cut into whole records of 14, and less than a record is left
pub record IsCounted (c : Cut) (count : ℕ) : Type 0 where
  -- the bytes after the whole records are less than one
  pub part : length c.rest < 14
  -- together they are all bytes, 14 for each record
  pub all : count ≡ 14 * length c.whole + length c.rest

-- one byte more is counted, in a record that it completes or in the rest. If the rest has 14 bytes with it, it is a
-- whole record; otherwise it has fewer
byte_counted : (c : Cut) (byte count : ℕ) → IsCounted c count → IsCounted (cut_byte c byte) (count + 1)
byte_counted c byte count h = go (length c.rest + 1 == 14) refl
  where
    -- by whether the byte completes a record
    go : (b : Bool) → (length c.rest + 1 == 14) ≡ b →
        IsCounted (cond b (record { whole = c.whole ++ ((c.rest ++ byte ∷ []) ∷ []); rest = [] })
        (record { whole = c.whole; rest = c.rest ++ byte ∷ [] })) (count + 1)
    go true e = record {
      part = omega arith;
      all = omega (arith, h.all, eqb-true (length c.rest + 1) 14 e, length-append c.whole ((c.rest ++ byte ∷ []) ∷ []));
    }
    go false e = record {
      part = less (cases_lt (length c.rest + 1) 14);
      all = omega (arith, h.all, length-append c.rest (byte ∷ []));
    }
      where
        -- the rest isn't a whole record, so it has fewer than 14 bytes
        less : (length c.rest + 1 < 14) ⊎ (14 ≤ length c.rest + 1) → length (c.rest ++ byte ∷ []) < 14
        less (inl l) = omega (arith, l, length-append c.rest (byte ∷ []))
        less (inr m) = absurd (true≢false (sym (eq-eqb (length c.rest + 1) 14 (omega (arith, m, h.part))) ∙ e))

-- more bytes that are cut are counted too
bytes_counted : (c : Cut) (bytes : List ℕ) (count : ℕ) → IsCounted c count →
    IsCounted (fold cut_byte c bytes) (count + length bytes)
bytes_counted c [] count h = subst (IsCounted c) (omega arith) h
bytes_counted c (byte ∷ bytes) count h = subst (IsCounted (fold cut_byte (cut_byte c byte) bytes)) (omega arith)
    (bytes_counted (cut_byte c byte) bytes (count + 1) (byte_counted c byte count h))

-- all bytes of a stream are cut into whole records, and less than a record is left
pub cut_counted : (bytes : List ℕ) → IsCounted (cut bytes) (length bytes)
cut_counted bytes = subst (IsCounted (cut bytes)) (omega arith)
    (bytes_counted (record { whole = []; rest = [] }) bytes 0 (record { part = omega arith; all = omega arith }))

-- ---- records that are lawful

-- a record that leads from state `s` to `t` is taken
record IsTaken (s t : LiveState) : Type 0 where
  -- no record before it was lawless
  lawful : s.lawless ≡ None
  -- it is counted, up to the greatest number
  taken : t.taken ≡ min (s.taken + 1) (2 ^ 64 - 1)

-- a state in which a record was refused has a lawless record
refused_not : (s : LiveState) (defect : Defect) → (refused s defect).lawless ≡ None → ⊥
refused_not s defect e = true≢false (ap is_some e)

-- if `s` and `t` agree in the lawless record and in the count, a record that leaves the stream lawful is counted
settled_taken : (s t : LiveState) (time : ℕ) (event : Event) (defect : Option Defect) → t.lawless ≡ s.lawless →
    t.taken ≡ s.taken →
    (settled t time event defect).lawless ≡ None →
    IsTaken s (settled t time event defect)
settled_taken s t time event None b n e = record { lawful = sym b ∙ e; taken = ap (λ k. min (k + 1) (2 ^ 64 - 1)) n }
settled_taken s t time event (Some defect) b n e = absurd (refused_not t defect e)

-- a record that is judged lawful is counted
judged_taken : (s : LiveState) (time : ℕ) (event : Option Event) → (judged s time event).lawless ≡ None →
    IsTaken s (judged s time event)
judged_taken s time None e = absurd (refused_not s Kind e)
judged_taken s time (Some event) e = go (nat_lt time s.time) e
  where
    -- by whether the event comes before the last one: it would be refused
    go : (b : Bool) → (cond b (refused s Order) (stepped s time event (step time event s.progress))).lawless ≡ None →
        IsTaken s (cond b (refused s Order) (stepped s time event (step time event s.progress)))
    go true e = absurd (refused_not s Order e)
    go false e = settled_taken s (record s { progress = (step time event s.progress).progress }) time event
        (step time event s.progress).fault refl refl e

-- a record after which no record is lawless was counted, and none was lawless before: the stream was neither lawless
-- nor closed, else it would be lawless now
record_taken : (s : LiveState) (bytes : List ℕ) → (take_record s bytes).lawless ≡ None → IsTaken s (take_record s bytes)
record_taken s bytes e = go (is_some s.lawless) s.closed refl e
  where
    -- by `b`, whether a record was lawless before, and `c`, whether the stream is closed
    go : (b c : Bool) → is_some s.lawless ≡ b →
        (cond b s (cond c (refused s Length)
        (judged s (record_of bytes).time (event_of s.progress.dispatcher.table (record_of bytes))))).lawless ≡ None →
        IsTaken s (cond b s (cond c (refused s Length)
        (judged s (record_of bytes).time (event_of s.progress.dispatcher.table (record_of bytes)))))
    go true c some e = absurd (true≢false (sym some ∙ ap is_some e))
    go false true some e = absurd (refused_not s Length e)
    go false false some e =
        judged_taken s (record_of bytes).time (event_of s.progress.dispatcher.table (record_of bytes)) e

-- if a stream `s` is lawful after records `rs`, it was lawful before them
records_lawful : (s : LiveState) (rs : List (List ℕ)) → (fold take_record s rs).lawless ≡ None → s.lawless ≡ None
records_lawful s [] e = e
records_lawful s (r ∷ rs) e = (record_taken s r (records_lawful (take_record s r) rs e)).lawful

-- records `rs` that leave a stream `s` lawful are all counted, up to the greatest number
records_taken : (s : LiveState) (rs : List (List ℕ)) → s.taken ≤ 2 ^ 64 - 1 → (fold take_record s rs).lawless ≡ None →
    (fold take_record s rs).taken ≡ min (s.taken + length rs) (2 ^ 64 - 1)
records_taken s [] l e = omega (arith, l)
records_taken s (r ∷ rs) l e =
    let one = (record_taken s r (records_lawful (take_record s r) rs e)).taken in
    omega (arith, l, one, records_taken (take_record s r) rs (omega (arith, one)) e)

-- ---- after bytes

-- bytes of a next record come only to an open stream
record HasRest (s t : LiveState) (rest : List ℕ) : Type 0 where
  -- no record was lawless
  lawful : s.lawless ≡ None
  -- the rest takes no record
  taken : t.taken ≡ s.taken
  -- if the rest has bytes, the stream isn't closed
  open_still : 0 < length rest → t.closed ≡ false

-- a rest after which no record is lawless was kept, and the stream wasn't closed if it has bytes; if it was closed,
-- bytes would have been refused
rest_taken : (s : LiveState) (rest : List ℕ) → (with_rest s rest).lawless ≡ None → HasRest s (with_rest s rest) rest
rest_taken s rest e = go (is_some s.lawless) refl e
  where
    -- by whether the stream is closed
    closing : (c : Bool) → s.closed ≡ c → s.lawless ≡ None →
        (cond (c && nat_lt 0 (length rest)) (refused s Length) (record s { rest = rest })).lawless ≡ None →
        HasRest s (cond (c && nat_lt 0 (length rest)) (refused s Length) (record s { rest = rest })) rest
    closing false c n e = record { lawful = n; taken = refl; open_still = λ some. c }
    closing true c n e = none (nat_lt 0 (length rest)) refl e
      where
        -- by whether a byte comes after the close: it would be refused
        none : (b : Bool) → nat_lt 0 (length rest) ≡ b →
            (cond b (refused s Length) (record s { rest = rest })).lawless ≡ None →
            HasRest s (cond b (refused s Length) (record s { rest = rest })) rest
        none true b e = absurd (refused_not s Length e)
        none false b e = record {
          lawful = n;
          taken = refl;
          open_still = λ some. absurd (true≢false (sym (lt-ltb 0 (length rest) some) ∙ b));
        }

    -- a state without a lawless record is lawful
    lawful_of : (o : Option LawlessRecord) → is_some o ≡ false → o ≡ None
    lawful_of None e = refl
    lawful_of (Some lawless) e = absurd (true≢false e)

    -- by whether a record was lawless before
    go : (b : Bool) → is_some s.lawless ≡ b →
        (cond b s (cond (s.closed && nat_lt 0 (length rest)) (refused s Length) (record s { rest = rest }))).lawless
        ≡ None →
        HasRest s
        (cond b s (cond (s.closed && nat_lt 0 (length rest)) (refused s Length) (record s { rest = rest }))) rest
    go true some e = absurd (true≢false (sym some ∙ ap is_some e))
    go false some e = closing s.closed refl (lawful_of s.lawless some) e

-- of lawful bytes that end within a record, each whole record is counted, and none is a close
pub record IsWithinRecord (s : LiveState) (records : ℕ) : Type 0 where
  -- each whole record is counted
  pub taken : s.taken ≡ records
  -- the stream isn't closed
  pub not_closed : s.closed ≡ false

-- after lawful bytes that end within a record, each whole record is counted and none is a close: the bytes are cut into
-- `records` whole records, and the rest isn't empty, so that the stream can't be closed
pub within_record : (table : NodeTable) (bytes : List ℕ) (records part : ℕ) → (after table bytes).lawless ≡ None →
    length bytes ≡ 14 * records + part → 0 < part → part < 14 →
    records < 2 ^ 64 →
    IsWithinRecord (after table bytes) records
within_record table bytes records part lawful long some less few =
    let counted = cut_counted bytes in
    let before : LiveState = fold take_record (open_stream table) (cut bytes).whole in
    let rest = rest_taken before (cut bytes).rest lawful in
    record {
      taken = omega (
        arith,
        rest.taken,
        records_taken (open_stream table) (cut bytes).whole (omega arith) rest.lawful,
        counted.all,
        counted.part,
        long,
        some,
        less,
        few,
      );
      not_closed = rest.open_still (omega (arith, counted.all, counted.part, long, some, less));
    }
