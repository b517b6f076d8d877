-- How a stream ends, by what the shelf reports of it: what was given decides, and the rest changes nothing.
use Rattle.std.proofs.Common.{◌≡◌, ℕ, ◌+◌, ◌-◌, ◌<◌, ◌≤◌, true, cond, ◌&&◌, List, [], ◌++◌, length, take, Option, Some}
use Rattle.std.proofs.Common.{None, IfSome, refl, sym, ap, ap₂, ◌∙◌, subst, arith, append_assoc, append-nil}
use Rattle.std.proofs.Common.{true≢false, inl, inr}
use Rattle.std.specs.Prelude.{is_none, nat_lt, Ok, Err}
use Rattle.std.proofs.Math.Seq.{take-append-add}
use Rattle.std.proofs.lemmas.Grind.{flat_map-append}
use Rattle.std.proofs.lemmas.List.{length-append, take_all}
use Rattle.cpg_history.specs.Fetch.{Fetch}
use Rattle.cpg_io.specs.Agreement.{IsFrontOf}
use Rattle.cpg_io.specs.Sink.{TookPrefix}
use Rattle.cpg_head.specs.Head.{Head}
use Rattle.cpg_table.specs.Table.{NodeTable}
use Rattle.cpg_node.specs.Dispatcher.{Act}
use Rattle.cpg_live.specs.declared.lawless.LawlessRecord.{LawlessRecord}
use Rattle.cpg_live.specs.Stream.{LiveState, after, outcome_if}
use Rattle.cpg_live.specs.declared.following.StreamFault.{StreamFault}
use Rattle.cpg_live.specs.declared.following.StreamFault.TheVariants.{Lawless, Long}
use Rattle.cpg_live.specs.declared.following.TheConstants.{STREAM_LIMIT}
use Rattle.cpg_live.specs.Streams.{act_line, act_lines, close_of, end_by, end_of, read_part, stream_end, stream_lines}
use Rattle.cpg_live.specs.Streams.{IsTooLong, IsClosed as IsClosedFetch, IsRefused as IsRefusedFetch}
use Rattle.cpg_live.specs.Streams.{IsLawfulSoFar as IsLawfulFetch, IsCutOff as IsCutFetch}
use Rattle.cpg_live.proofs.Cutting.{lawless_stays}
use Rattle.cpg_live.proofs.Streams.{acts_more, after_more, not_long, took_more}
use Rattle.cpg_shelf_laws.specs.Streams.{IsClosed, IsCutOff, IsLawfulSoFar, IsRefused}

-- a state with a lawless record ends the stream with it
end_lawless : (s : LiveState) (count : ℕ) (lawless : LawlessRecord) → s.lawless ≡ Some lawless →
    end_of s count ≡ Err (Lawless lawless)
end_lawless s count lawless found =
    ap (λ o. cond (is_none o && nat_lt STREAM_LIMIT count) (Err Long) (end_by (outcome_if s o))) found

-- after a lawless record, more bytes change nothing
after_lawless : (table : NodeTable) (fed more : List ℕ) (lawless : LawlessRecord) →
    (after table fed).lawless ≡ Some lawless →
    after table (fed ++ more) ≡ after table fed
after_lawless table fed more lawless found =
    after_more table fed more ∙ lawless_stays (after table fed) lawless more found

-- no lawless record isn't some
none_some : (lawless : LawlessRecord) → None ≡ Some lawless → ⊥
none_some lawless same = true≢false (ap is_none same)

-- the bytes up to a limit are those that were fed and, of the rest, as many as the limit leaves
part_of : (limit : ℕ) (fed rest : List ℕ) → length fed ≤ limit →
    take limit (fed ++ rest) ≡ fed ++ take (limit - length fed) rest
part_of limit fed rest within =
    let limit_is : limit ≡ length fed + (limit - length fed) = omega (arith, within) in
    ap (λ n. take n (fed ++ rest)) limit_is ∙ take-append-add fed rest (limit - length fed)

-- a stream of these bytes is refused with this fault, after these lines
record IsRefusedBy (h : Head) (table : NodeTable) (bytes : List ℕ) (fault : StreamFault) (lines : List ℕ) : Type 0 where
  -- a stream of these bytes ends with this fault
  ends : stream_end table bytes ≡ Err fault
  -- if the fault is `Long`, the stream is too long
  long : fault ≡ Long → IsTooLong table bytes
  -- the lines are those that the bytes give
  spelled : lines ≡ stream_lines h table bytes

-- given a fetch that gave a front of a stream, at most one byte more than the limit
module _ (h : Head) (table : NodeTable) (f : Fetch) (whole : List ℕ) (w : IsFrontOf whole f)
    (few : length f.given ≤ STREAM_LIMIT + 1) where
  -- the part that is read of what was given is all of it
  read_given : read_part f.given ≡ f.given
  read_given = take_all (STREAM_LIMIT + 1) f.given few

  -- the part of the stream that is read is what was given, and what is left of the limit
  read_whole : read_part whole ≡ f.given ++ take (STREAM_LIMIT + 1 - length f.given) w.rest
  read_whole = ap read_part w.front ∙ part_of (STREAM_LIMIT + 1) f.given w.rest few

  -- if nothing is left of the stream, the part that is read is that of what was given
  same_of_none : w.rest ≡ [] → read_part whole ≡ read_part f.given
  same_of_none none = ap read_part (w.front ∙ (ap (λ rest. f.given ++ rest) none ∙ append-nil f.given))

  -- if more than the limit was given, the part that is read is that of what was given
  same_of_full : STREAM_LIMIT < length f.given → read_part whole ≡ read_part f.given
  same_of_full over =
      let none_more : STREAM_LIMIT + 1 - length f.given ≡ 0 = omega (arith, over, few) in
      read_whole ∙ (ap (λ n. f.given ++ take n w.rest) none_more ∙ (append-nil f.given ∙ sym read_given))

  -- if what is read of the stream is what is read of the bytes that were given, a refusal of these is one of the stream
  refused_same : (fault : StreamFault) (lines : List ℕ) → IsRefusedFetch h table f fault lines →
      read_part whole ≡ read_part f.given →
      IsRefusedBy h table whole fault lines
  refused_same fault lines is_refused_fetch same = record {
    ends = ap (λ bytes. end_of (after table bytes) (length bytes)) same ∙ is_refused_fetch.ends;
    long = λ e. let long = is_refused_fetch.long e in record {
      more = (let more_given = long.more in let lengths = ap (λ (bytes : List ℕ). length bytes) w.front in
          let parts = length-append f.given w.rest in omega (arith, more_given, lengths, parts));
      lawful = ap (λ bytes. (after table bytes).lawless) same ∙ long.lawful;
      taken = ap (λ bytes. (after table bytes).taken) same ∙ long.taken;
      not_closed = ap (λ bytes. (after table bytes).closed) same ∙ long.not_closed;
    };
    spelled = is_refused_fetch.spelled ∙ sym (ap (λ bytes.
        act_lines h (after table bytes).progress.acts ++ close_of (end_of (after table bytes) (length bytes))) same);
  }

  -- if the bytes that were given have a lawless record, their refusal is one of the stream, as the rest changes nothing
  refused_lawless : (fault : StreamFault) (lines : List ℕ) (lawless : LawlessRecord) →
      IsRefusedFetch h table f fault lines →
      (after table f.given).lawless ≡ Some lawless →
      IsRefusedBy h table whole fault lines
  refused_lawless fault lines lawless is_refused_fetch found =
      let state : after table (read_part whole) ≡ after table (read_part f.given) =
      ap (after table) read_whole ∙ (after_lawless table f.given _ lawless found ∙ sym (ap (after table) read_given)) in
      let lawless_given : (after table (read_part f.given)).lawless ≡ Some lawless =
      ap (λ bytes. (after table bytes).lawless) read_given ∙ found in
      let ends : stream_end table whole ≡ stream_end table f.given =
      ap (λ (s : LiveState). end_of s (length (read_part whole))) state ∙
      (end_lawless (after table (read_part f.given)) (length (read_part whole)) lawless lawless_given
      ∙ sym (end_lawless (after table (read_part f.given)) (length (read_part f.given)) lawless lawless_given)) in
      record {
        ends = ends ∙ is_refused_fetch.ends;
        long = λ is. absurd (none_some lawless (sym (is_refused_fetch.long is).lawful ∙ lawless_given));
        spelled = is_refused_fetch.spelled ∙ sym (ap₂ (λ (s : LiveState) r. act_lines h s.progress.acts ++ close_of r)
            state ends);
      }

  -- If they have none, their refusal is one of the stream: either they are more than the limit, or the stream has
  -- ended, since its last record is missing.
  refused_lawful : (fault : StreamFault) (lines : List ℕ) → IsRefusedFetch h table f fault lines →
      (after table f.given).lawless ≡ None →
      IsRefusedBy h table whole fault lines
  refused_lawful Long lines is_refused_fetch none =
      refused_same Long lines is_refused_fetch (same_of_full (is_refused_fetch.long refl).more)
  refused_lawful (Lawless lawless) lines is_refused_fetch none =
      refused_same (Lawless lawless) lines is_refused_fetch (same_of_none
      (w.all (is_refused_fetch.all (not_long lawless) none)))

  -- a refusal of what was given is one of the whole stream, whether there is a lawless record or not
  by_lawless : (fault : StreamFault) (lines : List ℕ) → IsRefusedFetch h table f fault lines →
      (o : Option LawlessRecord) →
      (after table f.given).lawless ≡ o →
      IsRefusedBy h table whole fault lines
  by_lawless fault lines is_refused_fetch None same = refused_lawful fault lines is_refused_fetch same
  by_lawless fault lines is_refused_fetch (Some lawless) same =
      refused_lawless fault lines lawless is_refused_fetch same

  -- If what was taken grew from `a` to `b` by a proper prefix of the lines of what was given, that is one of all lines,
  -- which go on with those of the rest.
  cut_lines : (a b : List ℕ) → TookPrefix a b (act_lines h (after table f.given).progress.acts) →
      TookPrefix a b (stream_lines h table whole)
  cut_lines a b took =
      let acts : List Act = (after table f.given).progress.acts in
      let more_acts = acts_more table f.given (take (STREAM_LIMIT + 1 - length f.given) w.rest) in
      let grown : (after table (read_part whole)).progress.acts ≡ acts ++ more_acts.0 =
      ap (λ bytes. (after table bytes).progress.acts) read_whole ∙ more_acts.1 in
      let close = close_of (stream_end table whole) in
      let all : stream_lines h table whole ≡ act_lines h acts ++ (act_lines h more_acts.0 ++ close) =
      ap (λ (done : List Act). act_lines h done ++ close) grown
      ∙ (ap (λ l. l ++ close) (flat_map-append (act_line h) acts more_acts.0)
      ∙ append_assoc (act_lines h acts) (act_lines h more_acts.0) close) in
      subst (TookPrefix a b) (sym all) (took_more a b (act_lines h acts) (act_lines h more_acts.0 ++ close) took)

-- a fetch that came to the end gave the whole
ended_whole : (f : Fetch) (whole : List ℕ) → f.ended ≡ true → IsFrontOf whole f → f.given ≡ whole
ended_whole f whole ended is_front_of =
    sym (is_front_of.front ∙ (ap (λ rest. f.given ++ rest) (is_front_of.all ended) ∙ append-nil f.given))

-- ---- what the shelf tells

-- given a fetch of a stream
module _ (h : Head) (table : NodeTable) (f : Fetch) where
  -- if what was given of a stream is rejected, so is the whole stream, with the same fault
  pub refused_ends : (whole : List ℕ) (fault : StreamFault) (lines : List ℕ) → IsFrontOf whole f →
      IsRefusedFetch h table f fault lines →
      stream_end table whole ≡ Err fault
  refused_ends whole fault lines is_front_of is_refused_fetch =
      (by_lawless h table f whole is_front_of is_refused_fetch.few fault lines is_refused_fetch
      (after table f.given).lawless refl).ends

  -- if what was given of a stream closes it, so does the whole stream, at the same time
  pub closed_ends : (whole : List ℕ) (lines : List ℕ) → IsFrontOf whole f → (c : IsClosedFetch h table f lines) →
      stream_end table whole ≡ Ok c.time
  closed_ends whole lines is_front_of c = ap (stream_end table) (sym (ended_whole f whole c.ended is_front_of)) ∙ c.ends

  -- a stream that is refused by what was given is refused by what the shelf reports; by whether it reports the bytes
  pub refused_told : (told : Option (List ℕ)) (fault : StreamFault) (lines : List ℕ) →
      IfSome told (λ whole. IsFrontOf whole f) →
      IsRefusedFetch h table f fault lines →
      IsRefused h table told fault lines
  refused_told None fault lines w is_refused_fetch =
      record {
        bytes = f.given;
        of = tt;
        ends = is_refused_fetch.ends;
        long = is_refused_fetch.long;
        spelled =
            is_refused_fetch.spelled;
      }
  refused_told (Some whole) fault lines w is_refused_fetch =
      let by = by_lawless h table f whole w is_refused_fetch.few fault lines is_refused_fetch
      (after table f.given).lawless refl in
      record { bytes = whole; of = refl; ends = by.ends; long = by.long; spelled = by.spelled }

  -- a stream that is closed by what was given is closed by what the shelf reports
  pub closed_told : (told : Option (List ℕ)) (lines : List ℕ) → IfSome told (λ whole. IsFrontOf whole f) →
      IsClosedFetch h table f lines →
      IsClosed h table told lines
  closed_told None lines w is_closed_fetch = record {
    bytes = f.given;
    of = tt;
    time = is_closed_fetch.time;
    ends =
        is_closed_fetch.ends;
    spelled = is_closed_fetch.spelled;
  }
  closed_told (Some whole) lines w is_closed_fetch =
      record {
        bytes = f.given;
        of = ended_whole f whole is_closed_fetch.ended w;
        time = is_closed_fetch.time;
        ends =
            is_closed_fetch.ends;
        spelled = is_closed_fetch.spelled;
      }

  -- what was given is the first part of what the shelf reports
  given_first : (told : Option (List ℕ)) (count : ℕ) → count ≡ length f.given →
      IfSome told (λ whole. IsFrontOf whole f) →
      IfSome told (λ whole. f.given ≡ take count whole)
  given_first None count same w = tt
  given_first (Some whole) count same w =
      sym (ap₂ take same w.front ∙ (part_of (length f.given) f.given w.rest (omega arith)
      ∙ (ap (λ n. f.given ++ take n w.rest) (none_more (length f.given)) ∙ append-nil f.given)))
    where
      -- a number less itself is 0
      none_more : (n : ℕ) → n - n ≡ 0
      none_more n = omega arith

  -- lines of lawful records in what was given are so by what the shelf reports
  pub lawful_told : (told : Option (List ℕ)) (count : ℕ) (lines : List ℕ) → count ≡ length f.given →
      IfSome told (λ whole. IsFrontOf whole f) →
      IsLawfulFetch h table f lines →
      IsLawfulSoFar h table told count lines
  lawful_told told count lines same w is_lawful_fetch =
      record {
        bytes = f.given;
        count = same;
        first = given_first told count same w;
        lawful = is_lawful_fetch.lawful;
        spelled = is_lawful_fetch.spelled;
      }

  -- Lines that were cut off between `a` and `b` by what was given are so by what the shelf reports. The stream was
  -- given whole, or the lines so far were cut, which are a front of all.
  pub cut_told : (told : Option (List ℕ)) (a b : List ℕ) → IfSome told (λ whole. IsFrontOf whole f) →
      IsCutFetch h table f a b →
      IsCutOff h table told (Some a) (Some b)
  cut_told None a b w is_cut_fetch = record { bytes = f.given; of = tt; front = is_cut_fetch.front }
  cut_told (Some whole) a b w is_cut_fetch = elim is_cut_fetch.so_far [
    | inl ended ↦ record { bytes = f.given; of = ended_whole f whole ended w; front = is_cut_fetch.front }
    | inr took ↦ record { bytes = whole; of = refl; front = cut_lines h table f whole w is_cut_fetch.few a b took }
  ]
