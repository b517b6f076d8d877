-- Bytes one after another give the state after all of them.
use Rattle.std.proofs.Common.{◌≡◌, ◌≢◌, ℕ, ◌+◌, ◌<◌, Bool, true, false, cond, ◌&&◌, ◌==◌, List, [], ◌∷◌, ◌++◌, length}
use Rattle.std.proofs.Common.{fold, Option, Some, None, refl, sym, ap, ◌∙◌, arith, inl, inr, lt-ltb, eq-eqb}
use Rattle.std.proofs.Common.{ne_eqb, true≢false}
use Rattle.std.specs.Prelude.{nat_lt, is_some, IfSome}
use Rattle.std.proofs.lemmas.Bool.{cases_Bool}
use Rattle.std.proofs.lemmas.List.{length-append}
use Rattle.std.proofs.lemmas.List.Sums.{fold-append}
use Rattle.cpg_table.specs.Table.{NodeTable}
use Rattle.cpg_live.specs.declared.lawless.LawlessRecord.{LawlessRecord}
use Rattle.cpg_live.specs.declared.lawless.Defect.{Defect}
use Rattle.cpg_live.specs.declared.lawless.Defect.TheVariants.{Length, Order}
use Rattle.cpg_live.specs.declared.event.Event.{Event}
use Rattle.cpg_live.specs.declared.reading.Record.{Record}
use Rattle.cpg_live.specs.Records.{Cut, cut_byte, cut, record_of, event_of}
use Rattle.cpg_live.specs.Stream.{LiveState, open_stream, refused, settled, stepped, judged, step, take_record}
use Rattle.cpg_live.specs.Stream.{with_rest, after_cut}
use Rattle.cpg_live.specs.Feeding.{take_open, take_byte, take_bytes}
use Rattle.cpg_live.specs.Laws.{Feeds}

-- No byte of a next record is held. Taking records keeps this.
abbrev IsEmpty : LiveState → Type 0
IsEmpty s = s.rest ≡ []

-- a record leaves no bytes of the next one
settled_empty : (s : LiveState) (time : ℕ) (event : Event) (defect : Option Defect) → IsEmpty s →
    IsEmpty (settled s time event defect)
settled_empty s time event None e = e
settled_empty s time event (Some defect) e = e

-- judging an event leaves an empty rest empty
judged_empty : (s : LiveState) (time : ℕ) (event : Option Event) → IsEmpty s → IsEmpty (judged s time event)
judged_empty s time None e = e
judged_empty s time (Some event) e = go (nat_lt time s.time)
  where
    -- by whether the event comes before the last one
    go : (b : Bool) → IsEmpty (cond b (refused s Order) (stepped s time event (step time event s.progress)))
    go true = e
    go false = settled_empty (record s { progress = (step time event s.progress).progress }) time event
        (step time event s.progress).fault e

-- taking a record leaves an empty rest empty
record_empty : (s : LiveState) (bytes : List ℕ) → IsEmpty s → IsEmpty (take_record s bytes)
record_empty s bytes e = go (is_some s.lawless) s.closed
  where
    -- by `b`, whether a record was lawless, and `c`, whether the stream is closed
    go : (b c : Bool) →
        IsEmpty (cond b s (cond c (refused s Length)
        (judged s (record_of bytes).time (event_of s.progress.dispatcher.table (record_of bytes)))))
    go true c = e
    go false true = e
    go false false = judged_empty s (record_of bytes).time (event_of s.progress.dispatcher.table (record_of bytes)) e

-- if a stream `s` has no rest, it has none after the records `rs` are taken
records_empty : (s : LiveState) (rs : List (List ℕ)) → IsEmpty s → IsEmpty (fold take_record s rs)
records_empty s [] e = e
records_empty s (r ∷ rs) e = records_empty (take_record s r) rs (record_empty s r e)

-- One more byte.

-- with no bytes of a next record nothing changes
no_rest : (s : LiveState) → IsEmpty s → with_rest s [] ≡ s
no_rest s e = go (is_some s.lawless) s.closed
  where
    -- by `b`, whether a record was lawless, and `c`, whether the stream is closed
    go : (b c : Bool) → cond b s (cond (c && nat_lt 0 0) (refused s Length) (record s { rest = [] })) ≡ s
    go true c = refl
    go false true = ap (λ (r : List ℕ). record s { rest = r }) (sym e)
    go false false = ap (λ (r : List ℕ). record s { rest = r }) (sym e)

-- the state after whole records (s) and these bytes of the next, which is whole if it has 14
abbrev more : LiveState → List ℕ → LiveState
more s rest = cond (length rest == 14) (with_rest (take_record s rest) []) (with_rest s rest)

-- after a lawless record one more byte changes nothing, nor does a record or a rest: each of them looks first whether a
-- record is lawless
lawless_byte : (s : LiveState) (lawless : LawlessRecord) (rest bytes : List ℕ) (byte : ℕ) → s.lawless ≡ Some lawless →
    take_byte (with_rest s rest) byte ≡ more s bytes
lawless_byte s lawless rest bytes byte lawless_is =
    let is_lawless : is_some s.lawless ≡ true = ap is_some lawless_is in
    let same : (r : List ℕ) → with_rest s r ≡ s =
    λ r. ap (λ b. cond b s (cond (s.closed && nat_lt 0 (length r)) (refused s Length) (record s { rest = r })))
    is_lawless in
    let taken : take_record s bytes ≡ s = ap (λ b. cond b s (cond s.closed (refused s Length)
    (judged s (record_of bytes).time (event_of s.progress.dispatcher.table (record_of bytes))))) is_lawless in
    ap (λ z. take_byte z byte) (same rest)
    ∙ ap (λ b. cond b s (cond s.closed (refused s Length) (take_open s (s.rest ++ byte ∷ [])))) is_lawless
    ∙ sym (both (length bytes == 14) (ap (λ z. with_rest z []) taken ∙ same []) (same bytes))
  where
    -- if both branches are the old state, so is the whole, whether the record is complete or not
    both : (b : Bool) {x y : LiveState} → x ≡ s → y ≡ s → cond b x y ≡ s
    both true p q = p
    both false p q = q

-- a rest with one byte more isn't empty
some_length : (rest : List ℕ) (byte : ℕ) → 0 < length (rest ++ byte ∷ [])
some_length rest byte = omega (arith, length-append rest (byte ∷ []))

-- after a close one more byte is refused, whether some were before it or not
closed_byte : (s : LiveState) (rest : List ℕ) (byte : ℕ) → IsEmpty s → s.lawless ≡ None → s.closed ≡ true →
    take_byte (with_rest s rest) byte ≡ more s (rest ++ byte ∷ [])
closed_byte s rest byte e n c =
    first rest ∙ sym
    (both (length (rest ++ byte ∷ []) == 14) (ap (λ z. with_rest z []) taken ∙ no_rest (refused s Length) e) longer)
  where
    -- if both branches are the refusal, so is the whole, whether the record is complete or not
    both : (b : Bool) {x y : LiveState} → x ≡ refused s Length → y ≡ refused s Length → cond b x y ≡ refused s Length
    both true p q = p
    both false p q = q

    -- a record after the close is refused for its length
    taken : take_record s (rest ++ byte ∷ []) ≡ refused s Length
    taken = ap (λ b. cond b s (cond s.closed (refused s Length) (judged s (record_of (rest ++ byte ∷ [])).time
        (event_of s.progress.dispatcher.table (record_of (rest ++ byte ∷ [])))))) (ap is_some n)
        ∙ ap (λ b. cond b (refused s Length) (judged s (record_of (rest ++ byte ∷ [])).time
        (event_of s.progress.dispatcher.table (record_of (rest ++ byte ∷ []))))) c

    -- a rest that isn't empty is refused after the close
    with_some : (r : List ℕ) → 0 < length r → with_rest s r ≡ refused s Length
    with_some r l =
        ap (λ b. cond b s (cond (s.closed && nat_lt 0 (length r)) (refused s Length) (record s { rest = r })))
        (ap is_some n)
        ∙ ap (λ b. cond (b && nat_lt 0 (length r)) (refused s Length) (record s { rest = r })) c
        ∙ ap (λ b. cond b (refused s Length) (record s { rest = r })) (lt-ltb 0 (length r) l)

    -- the rest with one byte more is refused
    longer : with_rest s (rest ++ byte ∷ []) ≡ refused s Length
    longer = with_some (rest ++ byte ∷ []) (some_length rest byte)

    -- the rest, and then the byte, are refused too
    first : (r : List ℕ) → take_byte (with_rest s r) byte ≡ refused s Length
    first [] = ap (λ z. take_byte z byte) (no_rest s e)
        ∙ ap (λ b. cond b s (cond s.closed (refused s Length) (take_open s (s.rest ++ byte ∷ [])))) (ap is_some n)
        ∙ ap (λ b. cond b (refused s Length) (take_open s (s.rest ++ byte ∷ []))) c
    first (x ∷ xs) = ap (λ z. take_byte z byte) (with_some (x ∷ xs) (omega arith))

-- of an open stream one more byte completes a record, which is taken, or is held: neither of the first two tests,
-- lawless and closed, stops it
open_byte : (s : LiveState) (rest : List ℕ) (byte : ℕ) → IsEmpty s → s.lawless ≡ None → s.closed ≡ false →
    take_byte (with_rest s rest) byte ≡ more s (rest ++ byte ∷ [])
open_byte s rest byte e n c =
    ap (λ z. take_byte z byte) (held rest) ∙ ap
    (λ b. cond b (record s { rest = rest }) (cond s.closed (refused (record s { rest = rest }) Length)
    (take_open (record s { rest = rest }) (rest ++ byte ∷ [])))) (ap is_some n)
    ∙ ap (λ b.
    cond b (refused (record s { rest = rest }) Length) (take_open (record s { rest = rest }) (rest ++ byte ∷ []))) c
    ∙ both (length (rest ++ byte ∷ []) == 14)
  where
    -- an open, lawful stream holds a rest `r` as it is
    held : (r : List ℕ) → with_rest s r ≡ record s { rest = r }
    held r = ap (λ b. cond b s (cond (s.closed && nat_lt 0 (length r)) (refused s Length) (record s { rest = r })))
        (ap is_some n)
        ∙ ap (λ b. cond (b && nat_lt 0 (length r)) (refused s Length) (record s { rest = r })) c

    -- a record that a byte completes is taken, and leaves no rest
    whole : take_record (record s { rest = [] }) (rest ++ byte ∷ []) ≡ with_rest (take_record s (rest ++ byte ∷ [])) []
    whole = ap (λ (r : List ℕ). take_record (record s { rest = r }) (rest ++ byte ∷ [])) (sym e)
        ∙ sym (no_rest (take_record s (rest ++ byte ∷ [])) (record_empty s (rest ++ byte ∷ []) e))

    -- whether the byte completes a record or not, both ways give one state
    both : (b : Bool) →
        cond b (take_record (record s { rest = [] }) (rest ++ byte ∷ [])) (record s { rest = rest ++ byte ∷ [] })
        ≡ cond b (with_rest (take_record s (rest ++ byte ∷ [])) [])
        (with_rest s (rest ++ byte ∷ []))
    both true = whole
    both false = sym (held (rest ++ byte ∷ []))

-- a byte after whole records and the first bytes of the next one is taken as all of these bytes
next_byte : (s : LiveState) (rest : List ℕ) (byte : ℕ) → IsEmpty s →
    take_byte (with_rest s rest) byte ≡ more s (rest ++ byte ∷ [])
next_byte s rest byte e = go s.lawless refl
  where
    -- by whether a record was lawless; if none was, by whether the stream is closed
    go : (o : Option LawlessRecord) → s.lawless ≡ o → take_byte (with_rest s rest) byte ≡ more s (rest ++ byte ∷ [])
    go (Some lawless) n = lawless_byte s lawless rest (rest ++ byte ∷ []) byte n
    go None n =
        elim (cases_Bool s.closed) [ inl c ↦ closed_byte s rest byte e n c | inr c ↦ open_byte s rest byte e n c ]

-- to take one more byte is to cut it off and take the cut; both ask whether the rest has 14 bytes with it
cut_next : (table : NodeTable) (c : Cut) (byte : ℕ) →
    take_byte (after_cut table c) byte ≡ after_cut table (cut_byte c byte)
cut_next table c byte =
    let before : LiveState = fold take_record (open_stream table) c.whole in
    next_byte before c.rest byte (records_empty (open_stream table) c.whole refl)
    ∙ both (length (c.rest ++ byte ∷ []) == 14) (length c.rest + 1 == 14)
    (ap (λ n. n == 14) (length-append c.rest (byte ∷ [])))
  where
    -- by whether the byte completes a record
    both : (a b : Bool) → a ≡ b →
        cond a (with_rest (take_record (fold take_record (open_stream table) c.whole) (c.rest ++ byte ∷ [])) [])
        (with_rest (fold take_record (open_stream table) c.whole) (c.rest ++ byte ∷ []))
        ≡ after_cut table (cond b (record { whole = c.whole ++ ((c.rest ++ byte ∷ []) ∷ []); rest = [] })
        (record { whole = c.whole; rest = c.rest ++ byte ∷ [] }))
    both true true e = ap (λ z. with_rest z [])
        (sym (fold-append take_record (open_stream table) c.whole ((c.rest ++ byte ∷ []) ∷ [])))
    both false false e = refl
    both true false e = absurd (true≢false e)
    both false true e = absurd (true≢false (sym e))

-- to take more bytes, one by one, is to cut them off and take the cut; by induction
cut_more : (table : NodeTable) (c : Cut) (bytes : List ℕ) →
    take_bytes (after_cut table c) bytes ≡ after_cut table (fold cut_byte c bytes)
cut_more table c [] = refl
cut_more table c (byte ∷ bytes) =
    ap (λ z. take_bytes z bytes) (cut_next table c byte) ∙ cut_more table (cut_byte c byte) bytes

-- the law: bytes that come later may as well come at once
pub feeds : (before now : LiveState) (piece : List ℕ) → now ≡ take_bytes before piece → Feeds before piece now
feeds before now piece is table fed e = is ∙ ap (λ z. take_bytes z piece) e ∙ cut_more table (cut fed) piece
    ∙ ap (after_cut table) (sym (fold-append cut_byte (record { whole = []; rest = [] }) fed piece))

-- after a lawless record nothing changes
pub lawless_stays : (s : LiveState) (lawless : LawlessRecord) (bytes : List ℕ) → s.lawless ≡ Some lawless →
    take_bytes s bytes ≡ s
lawless_stays s lawless [] e = refl
lawless_stays s lawless (byte ∷ bytes) e = ap (λ z. take_bytes z bytes)
    (ap (λ b. cond b s (cond s.closed (refused s Length) (take_open s (s.rest ++ byte ∷ [])))) (ap is_some e))
    ∙ lawless_stays s lawless bytes e

-- an open stream takes a record as it judges it
pub open_record : (s : LiveState) (bytes : List ℕ) → s.lawless ≡ None → s.closed ≡ false →
    take_record s bytes ≡ judged s (record_of bytes).time (event_of s.progress.dispatcher.table (record_of bytes))
open_record s bytes n c = ap (λ b. cond b s (cond s.closed (refused s Length)
    (judged s (record_of bytes).time (event_of s.progress.dispatcher.table (record_of bytes))))) (ap is_some n)
    ∙ ap (λ b. cond b (refused s Length)
    (judged s (record_of bytes).time (event_of s.progress.dispatcher.table (record_of bytes)))) c

-- a byte of an open stream, which completes a record or doesn't
pub opened : (s : LiveState) (byte : ℕ) → s.lawless ≡ None → s.closed ≡ false →
    take_byte s byte ≡ take_open s (s.rest ++ byte ∷ [])
opened s byte n c =
    ap (λ b. cond b s (cond s.closed (refused s Length) (take_open s (s.rest ++ byte ∷ [])))) (ap is_some n)
    ∙ ap (λ b. cond b (refused s Length) (take_open s (s.rest ++ byte ∷ []))) c

-- a byte that completes a record has the record judged
pub whole_byte : (s : LiveState) (byte : ℕ) (bytes : List ℕ) (told : Record) → s.lawless ≡ None → s.closed ≡ false →
    bytes ≡ s.rest ++ byte ∷ [] → length bytes ≡ 14 →
    told ≡ record_of bytes →
    judged (record s { rest = [] }) told.time (event_of s.progress.dispatcher.table told) ≡ take_byte s byte
whole_byte s byte bytes told n c same l is =
    ap (λ (r : Record). judged (record s { rest = [] }) r.time (event_of s.progress.dispatcher.table r)) is
    ∙ sym (open_record (record s { rest = [] }) bytes n c)
    ∙ sym (ap (λ b. cond b (take_record (record s { rest = [] }) bytes) (record s { rest = bytes }))
    (eq-eqb (length bytes) 14 l))
    ∙ ap (take_open s) same ∙ sym (opened s byte n c)

-- a byte that does not complete a record is kept with the record's first bytes
pub part_byte : (s : LiveState) (byte : ℕ) (bytes : List ℕ) → s.lawless ≡ None → s.closed ≡ false →
    bytes ≡ s.rest ++ byte ∷ [] → length bytes ≢ 14 →
    record s { rest = bytes } ≡ take_byte s byte
part_byte s byte bytes n c same l =
    sym (ap (λ b. cond b (take_record (record s { rest = [] }) bytes) (record s { rest = bytes }))
    (ne_eqb (length bytes) 14 l))
    ∙ ap (take_open s) same ∙ sym (opened s byte n c)

-- a feed after a lawless record changes nothing
pub kept : (s now : LiveState) (bytes : List ℕ) → now ≡ take_bytes s bytes → IfSome s.lawless (λ _. now ≡ s)
kept s now bytes is = go s.lawless refl
  where
    -- by whether a record was lawless
    go : (o : Option LawlessRecord) → s.lawless ≡ o → IfSome o (λ _. now ≡ s)
    go None e = tt
    go (Some lawless) e = is ∙ lawless_stays s lawless bytes e
