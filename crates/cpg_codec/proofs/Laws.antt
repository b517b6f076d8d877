-- What it is for a reader to read exactly the spellings of some values (`Reads`), and that two such readers, one after
-- the other, do so too.
use Rattle.std.proofs.Common.{◌≡◌, ℕ, suc, Bool, true, false, cond, List, [], ◌∷◌, ◌++◌, length, Result, Ok, Err, refl}
use Rattle.std.proofs.Common.{sym, ap, subst, ◌∙◌, append_assoc, inl, inr, ◌⊎◌}
use Rattle.cpg_codec.specs.Reading.{Reader, pure, onward, ◌>>=◌, byte_by}

-- Where a reader stops. `bytes` are `good` ones and `bad` ones, of which `left` are left. The spelling of some value that
-- fits goes on with `more` after the good ones; and with the first bad one, if there is one, the reader fails at it
-- whatever comes after it (`stays`).
pub record Stop {A : Type 0} (Fits : A → Type 0) (spell : A → List ℕ) (read : Reader A) (bytes : List ℕ)
    (left : ℕ) : Type 0 where
  -- the bytes are a good part and then the `left` bytes from the failure on
  pub good : List ℕ
  pub bad : List ℕ
  pub whole : bytes ≡ good ++ bad
  pub left_is : left ≡ length bad
  -- some spelling of a value that fits begins with the good part
  pub value : A
  pub fits : Fits value
  pub more : List ℕ
  pub goes_on : spell value ≡ good ++ more
  -- with the first bad byte after the good part, reading fails there too, whatever comes after it
  pub stays : (b : ℕ) (tail after : List ℕ) → bad ≡ b ∷ tail → read (good ++ b ∷ after) ≡ Err (suc (length after))

-- `read` reads exactly the spellings of the values that fit, of which there is one at least (`some`)
pub record Reads {A : Type 0} (Fits : A → Type 0) (spell : A → List ℕ) (read : Reader A) : Type 0 where
  pub some : A
  pub some_fits : Fits some
  -- what it reads fits, and the bytes are its spelling and the rest
  pub takes : (bytes : List ℕ) (x : A) (rest : List ℕ) → read bytes ≡ Ok (x, rest) → Fits x × (bytes ≡ spell x ++ rest)
  -- a spelling of a value that fits is read as this, whatever follows
  pub again : (x : A) (rest : List ℕ) → Fits x → read (spell x ++ rest) ≡ Ok (x, rest)
  -- where it fails, it stops as `Stop` says
  pub stops : (bytes : List ℕ) (left : ℕ) → read bytes ≡ Err left → Stop Fits spell read bytes left

-- if reading on after a first result succeeds, the first result is a value, and the reader for it succeeds
pub onward_ok : {A B : Type 0} (f : A → Reader B) (r : Result (A × List ℕ) ℕ) (y : B × List ℕ) → onward f r ≡ Ok y →
    (x : A × List ℕ) × (r ≡ Ok x) × (f x.0 x.1 ≡ Ok y)
onward_ok f (Ok x) y succeeds = (x, refl, succeeds)
onward_ok f (Err d) y succeeds = absurd cc

-- if reading on after a first result fails, either the first result is this error, or the reader for its value fails so
pub onward_err : {A B : Type 0} (f : A → Reader B) (r : Result (A × List ℕ) ℕ) (left : ℕ) → onward f r ≡ Err left →
    (r ≡ Err left) ⊎ ((x : A × List ℕ) × (r ≡ Ok x) × (f x.0 x.1 ≡ Err left))
onward_err f (Ok x) left fails = inr (x, refl, fails)
onward_err f (Err d) left fails = inl cc

-- a success, with the type of a reader's error
abbrev done : {A : Type 0} → A → Result A ℕ
done x = Ok x

-- equal successes have equal values
pub ok_is : {A : Type 0} (x y : A) → done x ≡ done y → x ≡ y
ok_is x y same = cc

-- the reader that reads no byte and gives x reads exactly the empty spelling of x
pub pure_reads : {A : Type 0} (x : A) → Reads (λ y. y ≡ x) (λ y. []) (pure x)
pure_reads x = record {
  some = x;
  some_fits = refl;
  takes = λ bytes y rest e. let same = ok_is (x, bytes) (y, rest) e in
      (sym (ap (λ (p : _ × List ℕ). p.0) same), ap (λ (p : _ × List ℕ). p.1) same);
  again = λ y rest h. rw h refl;
  stops = λ bytes left e. absurd cc;
}

-- given: a reader r1, a reader r2 for each value of it, and that the value of r2 has the value of r1 as a part, `first`
module _ {A X : Type 0} (F1 : A → Type 0) (s1 : A → List ℕ) (r1 : Reader A) (F2 : A → X → Type 0) (s2 : A → X → List ℕ)
    (r2 : A → Reader X) (first : X → A)
    (one : Reads F1 s1 r1) (two : (a : A) → F1 a → Reads (F2 a) (s2 a) (r2 a))
    (same : (a : A) (x : X) → F1 a → F2 a x → first x ≡ a) where
  -- the first part of a value fits r1, and the value fits the reader for that part
  abbrev pub Both : X → Type 0
  Both x = F1 (first x) × F2 (first x) x

  -- the spelling of the first part, and after it that of the value by the second reader
  abbrev pub both : X → List ℕ
  both x = s1 (first x) ++ s2 (first x) x

  -- a value that fits the second reader, for a first value that fits, fits both
  from_first : (a : A) (x : X) (fa : F1 a) (fx : F2 a x) → Both x
  from_first a x fa fx = subst (λ (b : A). F1 b × F2 b x) (sym (same a x fa fx)) (fa, fx)

  -- its spelling is that of the first value and then its own
  both_is : (a : A) (x : X) (fa : F1 a) (fx : F2 a x) → both x ≡ s1 a ++ s2 a x
  both_is a x fa fx = ap (λ (b : A). s1 b ++ s2 b x) (same a x fa fx)

  -- where the first reader stops, so do both: some value of the second reader completes the spelling that it began
  stop_first : (bytes : List ℕ) (left : ℕ) → Stop F1 s1 r1 bytes left → Stop Both both (r1 >>= r2) bytes left
  stop_first bytes left stop =
      let completion = two stop.value stop.fits in
      record {
        good = stop.good;
        bad = stop.bad;
        whole = stop.whole;
        left_is = stop.left_is;
        value = completion.some;
        fits = from_first stop.value completion.some stop.fits completion.some_fits;
        more = stop.more ++ s2 stop.value completion.some;
        goes_on = both_is stop.value completion.some stop.fits completion.some_fits
            ∙ ap (λ (t : List ℕ). t ++ s2 stop.value completion.some) stop.goes_on
            ∙ append_assoc stop.good stop.more (s2 stop.value completion.some);
        stays = λ b tail after e. ap (onward r2) (stop.stays b tail after e);
      }

  -- where the second reader stops after the first has read a value, so do both, with the spelling of that value before:
  -- the good bytes are that spelling and those of the second; a byte that no value has there stays one
  stop_second : (bytes : List ℕ) (left : ℕ) (a : A) (rest : List ℕ) → F1 a → bytes ≡ s1 a ++ rest →
      Stop (F2 a) (s2 a) (r2 a) rest left →
      Stop Both both (r1 >>= r2) bytes left
  stop_second bytes left a rest fa parts stop =
      record {
        good = s1 a ++ stop.good;
        bad = stop.bad;
        whole = parts ∙ ap (λ (t : List ℕ). s1 a ++ t) stop.whole ∙ sym (append_assoc (s1 a) stop.good stop.bad);
        left_is = stop.left_is;
        value = stop.value;
        fits = from_first a stop.value fa stop.fits;
        more = stop.more;
        goes_on = both_is a stop.value fa stop.fits ∙ ap (λ (t : List ℕ). s1 a ++ t) stop.goes_on
            ∙ sym (append_assoc (s1 a) stop.good stop.more);
        stays = λ b tail after e. ap (λ (t : List ℕ). onward r2 (r1 t)) (append_assoc (s1 a) stop.good (b ∷ after))
            ∙ ap (onward r2) (one.again a (stop.good ++ b ∷ after) fa) ∙ stop.stays b tail after e;
      }

  -- two readers, one after the other, read exactly the values that fit both; each field follows from those of the two
  pub then_reads : Reads Both both (r1 >>= r2)
  then_reads = record {
    some = (two one.some one.some_fits).some;
    some_fits =
        from_first one.some (two one.some one.some_fits).some one.some_fits (two one.some one.some_fits).some_fits;
    takes = λ bytes x rest e.
        let got = onward_ok r2 (r1 bytes) (x, rest) e in
        let front = one.takes bytes got.0.0 got.0.1 got.1 in
        let behind = (two got.0.0 front.0).takes got.0.1 x rest got.2 in (
          from_first got.0.0 x front.0 behind.0,
          front.1 ∙ ap (λ (l : List ℕ). s1 got.0.0 ++ l) behind.1 ∙ sym (append_assoc (s1 got.0.0) (s2 got.0.0 x) rest)
              ∙ ap (λ (l : List ℕ). l ++ rest) (sym (both_is got.0.0 x front.0 behind.0)),
        );
    again = λ x rest h.
        ap (λ (t : List ℕ). onward r2 (r1 t)) (append_assoc (s1 (first x)) (s2 (first x) x) rest)
        ∙ ap (onward r2) (one.again (first x) (s2 (first x) x ++ rest) h.0) ∙
        (two (first x) h.0).again x rest h.1;
    stops = λ bytes left e. elim (onward_err r2 (r1 bytes) left e) [
      | inl fails ↦ stop_first bytes left (one.stops bytes left fails)
      | inr got ↦ let front = one.takes bytes got.0.0 got.0.1 got.1 in
          stop_second bytes left got.0.0 got.0.1 front.0 front.1 ((two got.0.0 front.0).stops got.0.1 left got.2)
    ];
  }

-- the same with implicit arguments
pub seq : {A X : Type 0} {F1 : A → Type 0} {s1 : A → List ℕ} {r1 : Reader A} {F2 : A → X → Type 0} {s2 : A → X → List ℕ}
    {r2 : A → Reader X} (first : X → A)
    → Reads F1 s1 r1 → ((a : A) → F1 a → Reads (F2 a) (s2 a) (r2 a)) → ((a : A) (x : X) → F1 a → F2 a x → first x ≡ a)
    → Reads (λ x. F1 (first x) × F2 (first x) x) (λ x. s1 (first x) ++ s2 (first x) x) (r1 >>= r2)
seq {A} {X} {F1} {s1} {r1} {F2} {s2} {r2} first one two same = then_reads F1 s1 r1 F2 s2 r2 first one two same

-- if the values that fit, and their spellings, can be said in another way (G, t), the reader reads exactly those: each
-- of the laws is said again with `to`, `from` and `same`
pub adapt : {A : Type 0} {F G : A → Type 0} {s t : A → List ℕ} {r : Reader A} → Reads F s r → ((x : A) → F x → G x) →
    ((x : A) → G x → F x) → ((x : A) → G x → s x ≡ t x) → Reads G t r
adapt {A} {F} {G} {s} {t} {r} reads to from same = record {
  some = reads.some;
  some_fits = to reads.some reads.some_fits;
  takes = λ bytes x rest e. let took = reads.takes bytes x rest e in
      (to x took.0, took.1 ∙ ap (λ (k : List ℕ). k ++ rest) (same x (to x took.0)));
  again = λ x rest h. ap r (ap (λ (k : List ℕ). k ++ rest) (sym (same x h))) ∙ reads.again x rest (from x h);
  stops = λ bytes left e. let stop = reads.stops bytes left e in record {
    good = stop.good;
    bad = stop.bad;
    whole = stop.whole;
    left_is = stop.left_is;
    value = stop.value;
    fits = to stop.value stop.fits;
    more = stop.more;
    goes_on = sym (same stop.value (to stop.value stop.fits)) ∙ stop.goes_on;
    stays = stop.stays;
  };
}

-- a byte that passes the test is read, and the others are left
byte_step : (ok : ℕ → Bool) (b : ℕ) (bytes : List ℕ) → ok b ≡ true → byte_by ok (b ∷ bytes) ≡ Ok (b, bytes)
byte_step ok b bytes passes = rw passes refl

-- a byte that fails the test isn't read: it is left, and all after it
failing_byte_left : (ok : ℕ → Bool) (b : ℕ) (bytes : List ℕ) → ok b ≡ false →
    byte_by ok (b ∷ bytes) ≡ Err (suc (length bytes))
failing_byte_left ok b bytes fails = rw fails refl

-- if the first byte is read, it passes the test and the others are left; `answer` is that of the test
byte_took : (ok : ℕ → Bool) (b : ℕ) (bytes : List ℕ) (c : ℕ) (rest : List ℕ) (answer : Bool) → answer ≡ ok b →
    cond {A = Result (ℕ × List ℕ) ℕ} answer (Ok (b, bytes)) (Err (suc (length bytes))) ≡ done (c, rest) →
    (ok c ≡ true) × (b ∷ bytes ≡ c ∷ rest)
byte_took ok b bytes c rest true answer_is read_as = let same = ok_is (b, bytes) (c, rest) read_as in (
  subst (λ (x : ℕ). ok x ≡ true) (ap (λ (p : ℕ × List ℕ). p.0) same) (sym answer_is),
  ap (λ (p : ℕ × List ℕ). p.0 ∷ p.1) same,
)
byte_took ok b bytes c rest false answer_is read_as = absurd cc

-- if the first byte isn't read, it fails the test and all bytes are left; `answer` is that of the test
byte_not : (ok : ℕ → Bool) (b : ℕ) (bytes : List ℕ) (left : ℕ) (answer : Bool) → answer ≡ ok b →
    cond {A = Result (ℕ × List ℕ) ℕ} answer (Ok (b, bytes)) (Err (suc (length bytes))) ≡ Err left →
    (ok b ≡ false) ×
    (left ≡ suc (length bytes))
byte_not ok b bytes left true answer_is fails = absurd cc
byte_not ok b bytes left false answer_is fails = (sym answer_is, cc)

-- what was read is the first byte, and it passes the test
byte_takes : (ok : ℕ → Bool) (bytes : List ℕ) (c : ℕ) (rest : List ℕ) → byte_by ok bytes ≡ Ok (c, rest) →
    (ok c ≡ true) × (bytes ≡ c ∷ rest)
byte_takes ok [] c rest read_as = absurd cc
byte_takes ok (b ∷ bytes) c rest read_as = byte_took ok b bytes c rest (ok b) refl read_as

-- if no byte is read, the reader stops there: the bytes have ended, or the first one fails the test, and so it does whatever
-- follows; some byte that passes would go on
byte_stops : (ok : ℕ → Bool) (some : ℕ) (fits : ok some ≡ true) (bytes : List ℕ) (left : ℕ) →
    byte_by ok bytes ≡ Err left →
    Stop (λ b. ok b ≡ true) (λ b. b ∷ []) (byte_by ok) bytes left
byte_stops ok some fits [] left fails = record {
  good = [];
  bad = [];
  whole = refl;
  left_is = cc;
  value = some;
  fits = fits;
  more = some ∷ [];
  goes_on = refl;
  stays = λ b tail after h. absurd cc;
}
byte_stops ok some fits (b ∷ bytes) left fails =
    let failure = byte_not ok b bytes left (ok b) refl fails in
    record {
      good = [];
      bad = b ∷ bytes;
      whole = refl;
      left_is = failure.1;
      value = some;
      fits = fits;
      more = some ∷ [];
      goes_on = refl;
      stays =
          λ c tail after h. failing_byte_left ok c after (let same : b ≡ c = cc in
          subst (λ (x : ℕ). ok x ≡ false) same failure.0);
    }

-- the reader of one byte reads exactly the bytes that pass its test, if at least one byte passes
pub byte_reads : (ok : ℕ → Bool) (some : ℕ) → ok some ≡ true → Reads (λ b. ok b ≡ true) (λ b. b ∷ []) (byte_by ok)
byte_reads ok some fits = record {
  some = some;
  some_fits = fits;
  takes = byte_takes ok;
  again = λ b rest h. byte_step ok b rest h;
  stops = byte_stops ok some fits;
}
