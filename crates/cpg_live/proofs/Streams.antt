-- How a stream ends, by the part of it that was read.
use Rattle.std.proofs.Common.{◌≡◌, ◌≢◌, ℕ, ◌+◌, ◌<◌, ◌≤◌, Bool, true, false, cond, ◌&&◌, List, ◌++◌, length, take, drop}
use Rattle.std.proofs.Common.{Some, None, refl, sym, ap, ap₂, ◌∙◌, subst, arith, inl, inr, append-nil}
use Rattle.std.proofs.Common.{lt-ltb, le-ltb, true≢false}
use Rattle.std.specs.Prelude.{is_none, nat_lt, Result, Ok, Err}
use Rattle.std.proofs.Math.Seq.{take-append-add, drop-append_seam}
use Rattle.std.proofs.lemmas.Grind.{flat_map-append}
use Rattle.std.proofs.lemmas.List.{length-append, take-append-le, take_all}
use Rattle.cpg_history.specs.Fetch.{Fetch}
use Rattle.cpg_io.specs.Sink.{Took, TookPrefix}
use Rattle.cpg_io.proofs.Writes.{Took-trans}
use Rattle.cpg_head.specs.Head.{Head}
use Rattle.cpg_table.specs.Table.{NodeTable}
use Rattle.cpg_node.specs.Dispatcher.{Act}
use Rattle.cpg_live.specs.declared.lawless.LawlessRecord.{LawlessRecord}
use Rattle.cpg_live.specs.Stream.{LiveState, after, outcome, outcome_if}
use Rattle.cpg_live.specs.Feeding.{take_bytes}
use Rattle.cpg_live.specs.Laws.{Grows}
use Rattle.cpg_live.proofs.Counting.{within_record}
use Rattle.cpg_live.proofs.Cutting.{feeds}
use Rattle.cpg_live.proofs.Growing.{bytes_grow}
use Rattle.cpg_live.specs.declared.following.StreamFault.{StreamFault}
use Rattle.cpg_live.specs.declared.following.StreamFault.TheVariants.{Lawless, Long}
use Rattle.cpg_live.specs.declared.following.TheConstants.{STREAM_LIMIT}
use Rattle.cpg_live.specs.Streams.{act_line, act_lines, closed_line, read_part, end_by, end_of, stream_end, close_of}
use Rattle.cpg_live.specs.Streams.{stream_lines, IsClosed, IsRefused, IsCutOff, IsTooLong}

-- ---- what a sink took

-- if the bytes that were taken grew from `a` to `b` by a proper prefix of `p`, they grew by a proper prefix of `p ++ q`
pub took_more : (a b : List ℕ) (p q : List ℕ) → TookPrefix a b p → TookPrefix a b (p ++ q)
took_more a b p q took =
    let count = took.0 in (
      count,
      omega (arith, took.1, length-append p q),
      subst (Took a b) (sym (take-append-le count p q (omega (arith, took.1)))) took.2,
    )

-- if the bytes that were taken grew from `a` to `b` by `p`, and then to `c` by a proper prefix of `q`, they grew from
-- `a` to `c` by a proper prefix of `p ++ q`
pub took_after : (a b c : List ℕ) (p q : List ℕ) → Took a b p → TookPrefix b c q → TookPrefix a c (p ++ q)
took_after a b c p q whole took =
    let count = took.0 in (
      length p + count,
      omega (arith, took.1, length-append p q),
      subst (Took a c) (sym (take-append-add p q count)) (Took-trans a b c p (take count q) whole took.2),
    )

-- ---- more bytes of a stream

-- the state after more bytes is that of the bytes before, which then takes the others
pub after_more : (table : NodeTable) (fed more : List ℕ) → after table (fed ++ more) ≡ take_bytes (after table fed) more
after_more table fed more = sym (feeds (after table fed) (take_bytes (after table fed) more) more refl table fed refl)

-- more bytes of a stream add acts alone
pub acts_more : (table : NodeTable) (fed more : List ℕ) →
    Grows (after table fed).progress.acts (after table (fed ++ more)).progress.acts
acts_more table fed more =
    let grown = bytes_grow (after table fed) more in
    (grown.0, ap (λ (s : LiveState). s.progress.acts) (after_more table fed more) ∙ grown.1)

-- ---- how it ends

-- a stream with a lawless record ends with it, whatever its length
end_lawless : (s : LiveState) (count : ℕ) (lawless : LawlessRecord) → s.lawless ≡ Some lawless →
    end_of s count ≡ Err (Lawless lawless)
end_lawless s count lawless e =
    ap (λ o. cond (is_none o && nat_lt STREAM_LIMIT count) (Err Long) (end_by (outcome_if s o))) e

-- a stream without a lawless record, but with more bytes than the limit, ends as too long
end_long : (s : LiveState) (count : ℕ) → s.lawless ≡ None → STREAM_LIMIT < count → end_of s count ≡ Err Long
end_long s count e l =
    ap (λ o. cond (is_none o && nat_lt STREAM_LIMIT count) (Err Long) (end_by (outcome_if s s.lawless))) e
    ∙ ap (λ b. cond b (Err Long) (end_by (outcome_if s s.lawless))) (lt-ltb STREAM_LIMIT count l)

-- a stream without a lawless record and within the limit ends as its state says
end_short : (s : LiveState) (count : ℕ) → s.lawless ≡ None → count ≤ STREAM_LIMIT → end_of s count ≡ end_by (outcome s)
end_short s count e l =
    ap (λ o. cond (is_none o && nat_lt STREAM_LIMIT count) (Err Long) (end_by (outcome_if s s.lawless))) e
    ∙ ap (λ b. cond b (Err Long) (end_by (outcome_if s s.lawless))) (le-ltb STREAM_LIMIT count l)

-- a lawless record is not an overlong stream
pub not_long : (lawless : LawlessRecord) → Lawless lawless ≡ Long → ⊥
not_long lawless e = true≢false (ap is_lawless e)
  where
    -- whether the fault is a lawless record
    is_lawless : StreamFault → Bool
    is_lawless (Lawless lawless) = true
    is_lawless Long = false

-- all lines of a stream with state `s` are those of its acts and that of its close, if it has one
lines_of : (h : Head) (table : NodeTable) (bytes : List ℕ) (s : LiveState) (ends : Result ℕ StreamFault) →
    after table (read_part bytes) ≡ s →
    stream_end table bytes ≡ ends →
    stream_lines h table bytes ≡ act_lines h s.progress.acts ++ close_of ends
lines_of h table bytes s ends same e = ap₂ (λ (t : LiveState) r. act_lines h t.progress.acts ++ close_of r) same e

-- a lawless record that is there isn't `None`
some_none : (lawless : LawlessRecord) → Some lawless ≡ None → ⊥
some_none lawless e = true≢false (sym (ap is_none e))

-- given what was read of a stream, without a fault and within the limit and one byte
module _ (h : Head) (table : NodeTable) (fetch : Fetch) (sound : fetch.failed ≡ false)
    (few : length fetch.given ≤ STREAM_LIMIT + 1) where
  -- all bytes that came are of the part that is read
  read_all : read_part fetch.given ≡ fetch.given
  read_all = take_all (STREAM_LIMIT + 1) fetch.given few

  -- the end of the stream is that of all that was given
  ends_as : stream_end table fetch.given ≡ end_of (after table fetch.given) (length fetch.given)
  ends_as = ap (λ bytes. end_of (after table bytes) (length bytes)) read_all

  -- a stream that ends with the fault `fault` is refused by it; its lines are those of the acts, as no close adds one
  refused_by : (fault : StreamFault) → (fault ≡ Long → IsTooLong table fetch.given) →
      (fault ≢ Long → (after table fetch.given).lawless ≡ None → fetch.ended ≡ true) →
      stream_end table fetch.given ≡ Err fault →
      IsRefused h table fetch fault (act_lines h (after table fetch.given).progress.acts)
  refused_by fault long all ends = record {
    sound = sound;
    few = few;
    ends = ends;
    long = long;
    all = all;
    spelled = sym (lines_of h table fetch.given (after table fetch.given) (Err fault) (ap (after table) read_all) ends
        ∙ append-nil (act_lines h (after table fetch.given).progress.acts));
  }

  -- a stream with a lawless record is refused by that record
  pub refused_by_record : (lawless : LawlessRecord) → (after table fetch.given).lawless ≡ Some lawless →
      IsRefused h table fetch (Lawless lawless) (act_lines h (after table fetch.given).progress.acts)
  refused_by_record lawless e =
      refused_by (Lawless lawless) (λ e. absurd (not_long lawless e))
      (λ other none. absurd (some_none lawless (sym e ∙ none)))
      (ends_as ∙ end_lawless (after table fetch.given) (length fetch.given) lawless e)

  -- a stream with more lawful bytes than the limit is refused as too long: the bytes read are 2^24 records of 14 bytes
  -- and one byte more, so the stream is within a record
  pub too_long : (after table fetch.given).lawless ≡ None → STREAM_LIMIT < length fetch.given →
      IsRefused h table fetch Long (act_lines h (after table fetch.given).progress.acts)
  too_long e l =
      let within = within_record table fetch.given 16777216 1 e (omega (arith, l, few)) (omega arith) (omega arith)
      (omega arith) in
      let long : IsTooLong table fetch.given = record {
        more = l;
        lawful = ap (λ bytes. (after table bytes).lawless) read_all ∙ e;
        taken = ap (λ bytes. (after table bytes).taken) read_all ∙ within.taken;
        not_closed = ap (λ bytes. (after table bytes).closed) read_all ∙ within.not_closed;
      } in
      refused_by Long (λ _. long) (λ other none. absurd (other refl))
      (ends_as ∙ end_long (after table fetch.given) (length fetch.given) e l)

  -- given that the stream has come to its end, is lawful and within the limit
  module _ (ended : fetch.ended ≡ true) (lawful : (after table fetch.given).lawless ≡ None)
      (short : length fetch.given ≤ STREAM_LIMIT) where
    -- a lawful stream within the limit ends by its state
    ends_short : stream_end table fetch.given ≡ end_by (outcome (after table fetch.given))
    ends_short = ends_as ∙ end_short (after table fetch.given) (length fetch.given) lawful short

    -- a stream that ended without a close is refused by the record that is missing
    pub unclosed : (lawless : LawlessRecord) → outcome (after table fetch.given) ≡ Err lawless →
        IsRefused h table fetch (Lawless lawless) (act_lines h (after table fetch.given).progress.acts)
    unclosed lawless e =
        refused_by (Lawless lawless) (λ e. absurd (not_long lawless e)) (λ other none. ended) (ends_short ∙ ap end_by e)

    -- a stream that ended after its close is closed, with all its lines; they are those of the acts and of the close
    pub closed : (time : ℕ) → outcome (after table fetch.given) ≡ Ok time →
        IsClosed h table fetch (act_lines h (after table fetch.given).progress.acts ++ closed_line time)
    closed time e =
        let ends : stream_end table fetch.given ≡ Ok time = ends_short ∙ ap end_by e in
        record {
          ended = ended;
          sound = sound;
          short = short;
          time = time;
          ends = ends;
          spelled =
              sym (lines_of h table fetch.given (after table fetch.given) (Ok time) (ap (after table) read_all) ends);
        }

  -- if the bytes that were taken grew from `a` to `b` by a proper prefix of the lines so far, the stream is cut off,
  -- since a proper prefix of these is one of all its lines
  pub cut_off : (a b : List ℕ) → TookPrefix a b (act_lines h (after table fetch.given).progress.acts) →
      IsCutOff h table fetch a b
  cut_off a b took =
      let lines = act_lines h (after table fetch.given).progress.acts in
      let all : stream_lines h table fetch.given ≡ lines ++ close_of (stream_end table fetch.given) =
      ap (λ (bytes : List ℕ). act_lines h (after table bytes).progress.acts ++ close_of (stream_end table fetch.given))
      read_all in
      record {
        sound = sound;
        few = few;
        front = subst (TookPrefix a b) (sym all) (took_more a b lines (close_of (stream_end table fetch.given)) took);
        so_far = inr took;
      }

-- if the bytes that were taken grew from `a` to `b` by a proper prefix of all lines of a closed stream, the stream is
-- cut off
pub cut_closed : (h : Head) (table : NodeTable) (fetch : Fetch) (a b : List ℕ) (lines : List ℕ) →
    IsClosed h table fetch lines → TookPrefix a b lines →
    IsCutOff h table fetch a b
cut_closed h table fetch a b lines closed took = let short = closed.short in
    record {
      sound = closed.sound;
      few = omega (arith, short);
      front = subst (TookPrefix a b) closed.spelled took;
      so_far = inl closed.ended;
    }

-- the lines of all acts are those of the acts before and then those of the acts that are added
pub lines_more : (h : Head) (acts more all : List Act) → all ≡ acts ++ more →
    act_lines h all ≡ act_lines h acts ++ act_lines h (drop (length acts) all)
lines_more h acts more all e =
    ap (act_lines h) e ∙ flat_map-append (act_line h) acts more
    ∙ ap (λ (done : List Act). act_lines h acts ++ act_lines h done)
    (sym (ap (drop (length acts)) e ∙ drop-append_seam acts more))
