-- The laws of reading and spelling a pack, all from `tables_reads`.
use Rattle.std.proofs.Common.{◌≡◌, ℕ, zero, suc, ◌+◌, ◌-◌, ◌<◌, ◌≤◌, List, [], ◌∷◌, ◌++◌, length, take, drop, Result}
use Rattle.std.proofs.Common.{Ok, Err, refl, sym, ap, subst, ◌∙◌, append_assoc, arith, inl, inr, ◌⊎◌}
use Rattle.std.proofs.lemmas.Bool.{cases_lt}
use Rattle.std.proofs.lemmas.List.{append-nil, length-append}
use Rattle.std.proofs.Math.Seq.{take-append_seam, take-append-add}
use Rattle.cpg_table.specs.Lawful.{Tables}
use Rattle.cpg_codec.specs.Spelling.{spelling}
use Rattle.cpg_codec.specs.Grammar.{read_tables, whole, read}
use Rattle.cpg_codec.specs.Packs.{AreLawful, BeginsPack, IsBadPack, OneValue, NoProperPrefix}
use Rattle.cpg_codec.proofs.TableFields.{tables_reads}

-- if all bytes are read as tables, the reader has left none
whole_ok : (size : ℕ) (r : Result (Tables × List ℕ) ℕ) (t : Tables) → whole size r ≡ Ok t → r ≡ Ok (t, [])
whole_ok size (Ok (u, [])) t read_as = let same : u ≡ t = cc in ap (λ (x : Tables). Ok (x, [])) same
whole_ok size (Ok (u, b ∷ rest)) t read_as = absurd cc
whole_ok size (Err left) t read_as = absurd cc

-- the reader has read tables, and a byte b at the place n and perhaps more are left
abbrev Trails : ℕ → Result (Tables × List ℕ) ℕ → ℕ → Type 0
Trails size r n = (t : Tables) × (b : ℕ) × (rest : List ℕ) × (r ≡ Ok (t, b ∷ rest)) × (n ≡ size - suc (length rest))

-- if all bytes are refused at the place n, the reader failed there, or it has read tables and left bytes from there on
whole_err : (size : ℕ) (r : Result (Tables × List ℕ) ℕ) (n : ℕ) → whole size r ≡ Err n →
    ((left : ℕ) × (r ≡ Err left) × (n ≡ size - left)) ⊎ Trails size r n
whole_err size (Ok (u, [])) n refused = absurd cc
whole_err size (Ok (u, b ∷ rest)) n refused = inr (u, b, rest, refl, cc)
whole_err size (Err left) n refused = inl (left, refl, cc)

-- tables that all bytes are read as are lawful, and the bytes are their spelling
pub read_is_spelled : (bytes : List ℕ) (t : Tables) → read bytes ≡ Ok t → AreLawful t × (bytes ≡ spelling t)
unfolding read
read_is_spelled bytes t read_as =
    let taken = tables_reads.takes bytes t [] (whole_ok (length bytes) (read_tables bytes) t read_as) in
    (taken.0, taken.1 ∙ append-nil (spelling t))

-- bytes that begin with the spelling of lawful tables are read as these, and the rest is left
read_front : (t : Tables) (rest bytes : List ℕ) → AreLawful t → bytes ≡ spelling t ++ rest →
    read_tables bytes ≡ Ok (t, rest)
read_front t rest bytes lawful parts = ap read_tables parts ∙ tables_reads.again t rest lawful

-- the spelling of lawful tables is read as these, and nothing is left
read_all : (t : Tables) (bytes : List ℕ) → AreLawful t → bytes ≡ spelling t → read_tables bytes ≡ Ok (t, [])
read_all t bytes lawful spelled = read_front t [] bytes lawful (spelled ∙ sym (append-nil (spelling t)))

-- a reading of all bytes of a lawful spelling gives its tables
pub spelled_is_read : (t : Tables) → AreLawful t → read (spelling t) ≡ Ok t
unfolding read
spelled_is_read t lawful = ap (whole (length (spelling t))) (read_all t (spelling t) lawful refl)

-- a success, with the type of the reader's error
abbrev done : Tables × List ℕ → Result (Tables × List ℕ) ℕ
done x = Ok x

-- equal successes have equal tables and leave the same
ok_parts : (t u : Tables) (a b : List ℕ) → done (t, a) ≡ done (u, b) → (t ≡ u) × (a ≡ b)
ok_parts t u a b same = let pair : (t, a) ≡ (u, b) = cc in
    (ap (λ (x : Tables × List ℕ). x.0) pair, ap (λ (x : Tables × List ℕ). x.1) pair)

-- if a spelling is another one and a rest, the tables are equal and the rest is empty: the reader gives both from the same
-- bytes
pub one_spelling : (t u : Tables) (rest : List ℕ) → AreLawful t → AreLawful u → spelling t ≡ spelling u ++ rest →
    (t ≡ u) × (rest ≡ [])
one_spelling t u rest t_lawful u_lawful parts =
    let same = ok_parts t u [] rest (sym (read_all t (spelling t) t_lawful refl)
    ∙ read_front u rest (spelling t) u_lawful parts) in
    (same.0, sym same.1)

-- tables with the same spelling are equal
pub one_value : OneValue
one_value t u t_lawful u_lawful same = (one_spelling t u [] t_lawful u_lawful (same ∙ sym (append-nil (spelling u)))).0

-- no spelling of tables is a proper prefix of another
pub no_proper_prefix : NoProperPrefix
no_proper_prefix t u rest t_lawful u_lawful parts = (one_spelling t u rest t_lawful u_lawful parts).1

-- the bytes cut at the place n: some pack begins with those before it, `good`; and no pack has, after these, the first of
-- the others, `bad`, if there is one
record Cut (bytes : List ℕ) (n : ℕ) : Type 0 where
  -- a good part and what comes after it
  good : List ℕ
  bad : List ℕ
  parts : bytes ≡ good ++ bad
  -- the failure is after the good part
  place : n ≡ length good
  -- some pack begins with the good part
  begins : BeginsPack good
  -- and none begins with the good part and one byte more
  ends : (b : ℕ) (tail : List ℕ) → bad ≡ b ∷ tail → (t : Tables) (rest : List ℕ) → AreLawful t →
      spelling t ≡ good ++ b ∷ rest → ⊥

-- bytes at which the reader fails are cut there: it stops there (`stops` of `Reads`)
cut_stopped : (bytes : List ℕ) (left n : ℕ) → read_tables bytes ≡ Err left → n ≡ length bytes - left → Cut bytes n
cut_stopped bytes left n fails place_is =
    let stop = tables_reads.stops bytes left fails in
    record {
      good = stop.good;
      bad = stop.bad;
      parts = stop.whole;
      place = let lengths : length bytes ≡ length stop.good + length stop.bad =
          ap length stop.whole ∙ length-append stop.good stop.bad in
          omega (arith, lengths, place_is, stop.left_is);
      begins = (stop.value, stop.more, stop.fits, stop.goes_on);
      ends = λ b tail h t rest f p. let both : Ok (t, []) ≡ Err (suc (length rest)) =
          sym (read_all t (stop.good ++ b ∷ rest) f (sym p)) ∙ stop.stays b tail rest h in cc;
    }

-- bytes that the reader leaves after tables are cut before them: a pack that went on would begin with another
cut_trailing : (bytes : List ℕ) (n : ℕ) → Trails (length bytes) (read_tables bytes) n → Cut bytes n
cut_trailing bytes n trails =
    let taken = tables_reads.takes bytes trails.0 (trails.1 ∷ trails.2) trails.3 in
    record {
      good = spelling trails.0;
      bad = trails.1 ∷ trails.2;
      parts = taken.1;
      place = let lengths : length bytes ≡ length (spelling trails.0) + suc (length trails.2) =
          ap length taken.1 ∙ length-append (spelling trails.0) (trails.1 ∷ trails.2) in
          omega (arith, lengths, trails.4);
      begins = (trails.0, [], taken.0, sym (append-nil (spelling trails.0)));
      ends = λ b tail h t rest f p. let same = one_spelling t trails.0 (b ∷ rest) f taken.0 p in
          let none_left : b ∷ rest ≡ [] = same.1 in cc;
    }

-- the first n bytes are the good ones
take_good : (good bad : List ℕ) (n : ℕ) → n ≡ length good → take n (good ++ bad) ≡ good
take_good good bad n place_is = rw place_is (take-append_seam good bad)

-- the first n + 1 bytes are the good ones and the next
take_one : (good tail : List ℕ) (b n : ℕ) → n ≡ length good → take (n + 1) (good ++ b ∷ tail) ≡ good ++ b ∷ []
take_one good tail b n place_is = rw place_is (take-append-add good (b ∷ tail) 1)

-- the first m bytes begin with the first n, if n is at most m; by induction
take_again : (n m : ℕ) (bytes : List ℕ) → n ≤ m → take m bytes ≡ take n bytes ++ drop n (take m bytes)
take_again zero m bytes le = refl
take_again (suc n) zero bytes le = absurd (omega arith)
take_again (suc n) (suc m) [] le = refl
take_again (suc n) (suc m) (x ∷ xs) le = ap (λ (t : List ℕ). x ∷ t) (take_again n m xs (omega arith))

-- no pack begins with the first n + 1 bytes, if none has the next byte after the good ones
cut_ends : (bytes : List ℕ) (n : ℕ) (good bad : List ℕ) → bytes ≡ good ++ bad → n ≡ length good
    → ((b : ℕ) (tail : List ℕ) → bad ≡ b ∷ tail → (t : Tables) (rest : List ℕ) → AreLawful t →
    spelling t ≡ good ++ b ∷ rest → ⊥)
    → n < length bytes → BeginsPack (take (n + 1) bytes) → ⊥
cut_ends bytes n good [] parts place ends lt begun =
    let lengths : length bytes ≡ length good = ap length (parts ∙ append-nil good) in
    omega (arith, lengths)
cut_ends bytes n good (b ∷ tail) parts place ends lt begun =
    ends b tail refl begun.0 begun.1 begun.2 (begun.3 ∙ ap (λ (x : List ℕ). x ++ begun.1)
    (ap (take (n + 1)) parts ∙ take_one good tail b n place) ∙ append_assoc good (b ∷ []) begun.1)

-- if a pack begins with the first m bytes, it begins with fewer of them
shorter : (n m : ℕ) (bytes : List ℕ) → n ≤ m → BeginsPack (take m bytes) → BeginsPack (take n bytes)
shorter n m bytes le begun = (
  begun.0,
  drop n (take m bytes) ++ begun.1,
  begun.2,
  begun.3 ∙ ap (λ (x : List ℕ). x ++ begun.1) (take_again n m bytes le)
      ∙ append_assoc (take n bytes) (drop n (take m bytes)) begun.1,
)

-- if bytes are refused at the place n and cut there, they are a bad pack as `IsBadPack` says: a longer prefix of a pack would
-- have one byte more than the good ones
cut_is : (bytes : List ℕ) (n : ℕ) → read bytes ≡ Err n → Cut bytes n → IsBadPack bytes n
unfolding read
cut_is bytes n refused cut =
    let lengths : length bytes ≡ length cut.good + length cut.bad =
    ap length cut.parts ∙ length-append cut.good cut.bad in
    let no = cut_ends bytes n cut.good cut.bad cut.parts cut.place cut.ends in
    record {
      place = omega (arith, lengths, cut.place);
      goes_on = subst BeginsPack (sym (ap (take n) cut.parts ∙ take_good cut.good cut.bad n cut.place)) cut.begins;
      no_further = no;
      longest = λ m le p. elim (cases_lt n m) [
        | inl lt ↦ absurd (no (omega arith) (shorter (n + 1) m bytes (omega arith) p))
        | inr ge ↦ ge
      ];
      no_pack = λ t h p.
          let both : Ok t ≡ Err n = sym (ap (whole (length bytes)) (read_all t bytes h p)) ∙ refused in cc;
    }

-- bytes that are refused at the place n are a bad pack: they are cut there, whether the reader failed or left bytes
pub refused_is_bad : (bytes : List ℕ) (n : ℕ) → read bytes ≡ Err n → IsBadPack bytes n
unfolding read
refused_is_bad bytes n refused = elim (whole_err (length bytes) (read_tables bytes) n refused) [
  | inl failed ↦ cut_is bytes n refused (cut_stopped bytes failed.0 n failed.1 failed.2)
  | inr trails ↦ cut_is bytes n refused (cut_trailing bytes n trails)
]
