-- A number read byte by byte, in the words of loops in code. n is the number so far, b the next byte, and w bytes follow it.
use Rattle.std.proofs.Common.{◌≡◌, ℕ, zero, suc, ◌+◌, ◌*◌, ◌-◌, ◌/◌, ◌^◌, ◌<◌, ◌≤◌, true, false, ltb, leb, List, []}
use Rattle.std.proofs.Common.{◌∷◌, ◌++◌, length, get_or, take, drop, Ok, Err, refl, sym, ap, subst, ◌∙◌, arith}
use Rattle.std.specs.Int.{w64, from_be_bytes, to_be_bytes}
use Rattle.std.proofs.lemmas.Bool.{lt-ltb, le-ltb, le-leb, lt-leb, and_from, and_left, and_right}
use Rattle.std.proofs.lemmas.Nat.{be_bytes_8, mul-le, pow-add}
use Rattle.std.proofs.Math.Nat.{one-le-pow, div-mul-le_self, lt-div-mul-add, pow-suc}
use Rattle.std.proofs.Math.Seq.{take-length}
use Rattle.cpg_io.proofs.Writes.{rest_of}
use Rattle.cpg_codec.specs.Reading.{digit_may, read_digits, read_number, within}
use Rattle.cpg_codec.specs.Fields.{field}
use Rattle.cpg_codec.proofs.Numbers.{field_reads}

-- ---- one byte

-- a byte with which the number may still be from `low` to `high` is read
digit_good : (low high w n b : ℕ) (rest : List ℕ) → b < 256 → low < (n * 256 + b + 1) * 256 ^ w →
    (n * 256 + b) * 256 ^ w ≤ high →
    read_digits (within low high) (suc w) n (b ∷ rest) ≡ read_digits (within low high) w (n * 256 + b) rest
unfolding read_digits
digit_good low high w n b rest lt reaches stays =
    let passes : digit_may (within low high) w n b ≡ true =
    and_from (ltb b 256) (within low high ((n * 256 + b) * 256 ^ w) ((n * 256 + b + 1) * 256 ^ w)) (lt-ltb b 256 lt)
    (and_from (ltb low ((n * 256 + b + 1) * 256 ^ w)) (leb ((n * 256 + b) * 256 ^ w) high)
    (lt-ltb low ((n * 256 + b + 1) * 256 ^ w) reaches) (le-leb ((n * 256 + b) * 256 ^ w) high stays)) in
    rw passes refl

-- a byte with which the number is below `low`, whatever follows, is refused
digit_under : (low high w n b : ℕ) (rest : List ℕ) → (n * 256 + b + 1) * 256 ^ w ≤ low →
    read_digits (within low high) (suc w) n (b ∷ rest) ≡ Err (suc (length rest))
unfolding read_digits
digit_under low high w n b rest le =
    let fails : digit_may (within low high) w n b ≡ false =
    and_right (ltb b 256) (within low high ((n * 256 + b) * 256 ^ w) ((n * 256 + b + 1) * 256 ^ w))
    (and_left (ltb low ((n * 256 + b + 1) * 256 ^ w)) (leb ((n * 256 + b) * 256 ^ w) high)
    (le-ltb low ((n * 256 + b + 1) * 256 ^ w) le)) in
    rw fails refl

-- a byte with which the number is above `high`, whatever follows, is refused
digit_bad : (low high w n b : ℕ) (rest : List ℕ) → high < (n * 256 + b) * 256 ^ w →
    read_digits (within low high) (suc w) n (b ∷ rest) ≡ Err (suc (length rest))
unfolding read_digits
digit_bad low high w n b rest lt =
    let fails : digit_may (within low high) w n b ≡ false =
    and_right (ltb b 256) (within low high ((n * 256 + b) * 256 ^ w) ((n * 256 + b + 1) * 256 ^ w))
    (and_right (ltb low ((n * 256 + b + 1) * 256 ^ w)) (leb ((n * 256 + b) * 256 ^ w) high)
    (lt-leb ((n * 256 + b) * 256 ^ w) high lt)) in
    rw fails refl

-- ---- the same for a slice of bytes, if k bytes of the number are left

-- the first byte is read if the number may still be from `low` to `high` with it; `k` digits are left before it, and
-- `w` after it
pub digit_goes_on : (low high k w n : ℕ) (bytes : List ℕ) → k ≡ suc w → 1 ≤ length bytes → get_or bytes 0 0 < 256 →
    low < (n * 256 + get_or bytes 0 0 + 1) * 256 ^ w →
    (n * 256 + get_or bytes 0 0) * 256 ^ w ≤ high
    → read_digits (within low high) k n bytes
    ≡ read_digits (within low high) w (n * 256 + get_or bytes 0 0) (take (length bytes - 1) (drop 1 bytes))
digit_goes_on low high k w n [] same some lt lo le = absurd (omega arith)
digit_goes_on low high k w n (b ∷ rest) e some lt lo le =
    rw e (digit_good low high w n b rest lt lo le
    ∙ ap (read_digits (within low high) w (n * 256 + b)) (sym (take_rest rest))) where
      take_rest : (rest : List ℕ) → take (suc (length rest) - 1) rest ≡ rest
      take_rest rest = let same : suc (length rest) - 1 ≡ length rest = omega arith in rw same (take-length rest)

-- if the number is above `high` with the first byte, this is the bad byte, and all bytes are left
pub digit_stops : (low high k w n : ℕ) (bytes : List ℕ) → k ≡ suc w → 1 ≤ length bytes →
    high < (n * 256 + get_or bytes 0 0) * 256 ^ w →
    read_digits (within low high) k n bytes ≡ Err (length bytes)
digit_stops low high k w n [] same some lt = absurd (omega arith)
digit_stops low high k w n (b ∷ rest) same some lt = rw same (digit_bad low high w n b rest lt)

-- if the number is below `low` with the first byte, this is the bad byte, and all bytes are left
pub digit_falls_short : (low high k w n : ℕ) (bytes : List ℕ) → k ≡ suc w → 1 ≤ length bytes →
    (n * 256 + get_or bytes 0 0 + 1) * 256 ^ w ≤ low →
    read_digits (within low high) k n bytes ≡ Err (length bytes)
digit_falls_short low high k w n [] same some le = absurd (omega arith)
digit_falls_short low high k w n (b ∷ rest) same some le = rw same (digit_under low high w n b rest le)

-- without a byte the number ends too early, and none is left
pub digit_none : (low high k w n : ℕ) (bytes : List ℕ) → k ≡ suc w → length bytes < 1 →
    read_digits (within low high) k n bytes ≡ Err 0
unfolding read_digits
digit_none low high k w n [] same none = rw same refl
digit_none low high k w n (b ∷ rest) same none = absurd (omega arith)

-- if no byte of the number is left, it is read
pub digit_done : (low high k n : ℕ) (bytes : List ℕ) → k ≡ 0 → read_digits (within low high) k n bytes ≡ Ok (n, bytes)
unfolding read_digits
digit_done low high k n bytes same = rw same refl

-- ---- the bounds without their last w bytes, which code gets by a shift

-- w bytes have 8 * w bits
pub pow_bytes : (w : ℕ) → 2 ^ (8 * w) ≡ 256 ^ w
pow_bytes zero = refl
pow_bytes (suc w) = let bits : 8 * suc w ≡ 8 * w + 8 = omega arith in
    rw (bits, pow-add 2 (8 * w) 8, pow_bytes w) (sym (pow-suc 256 w))

-- a number m above a bound without its last w bytes is above the bound with any w bytes after it
pub above_shift : (high w m : ℕ) → high / 2 ^ (8 * w) < m → high < m * 256 ^ w
above_shift high w m above =
    let positive : 1 ≤ 256 ^ w = one-le-pow w 256 (omega arith) in
    let quotient_below : high / 256 ^ w < m = rw (← pow_bytes w) above in
    let next_multiple : high < high / 256 ^ w * 256 ^ w + 256 ^ w = lt-div-mul-add positive in
    let multiple_below : (high / 256 ^ w + 1) * 256 ^ w ≤ m * 256 ^ w =
    mul-le (high / 256 ^ w + 1) (256 ^ w) m (256 ^ w) (omega arith) (omega arith) in
    omega (arith, next_multiple, multiple_below)

-- a number m that isn't above it is at most the bound with w zero bytes after it
pub within_shift : (high w m : ℕ) → m ≤ high / 2 ^ (8 * w) → m * 256 ^ w ≤ high
within_shift high w m holds =
    let quotient_holds : m ≤ high / 256 ^ w = rw (← pow_bytes w) holds in
    let multiple_below : high / 256 ^ w * 256 ^ w ≤ high = div-mul-le_self high (256 ^ w) in
    let below_multiple : m * 256 ^ w ≤ high / 256 ^ w * 256 ^ w =
    mul-le m (256 ^ w) (high / 256 ^ w) (256 ^ w) quotient_holds (omega arith) in
    omega (arith, multiple_below, below_multiple)

-- a number m below it is below the bound with any w bytes after it
pub under_shift : (low w m : ℕ) → m < low / 2 ^ (8 * w) → (m + 1) * 256 ^ w ≤ low
under_shift low w m below = within_shift low w (m + 1) (omega arith)

-- a number m that isn't below it reaches the bound with the greatest w bytes after it
pub reaches_shift : (low w m : ℕ) → low / 2 ^ (8 * w) ≤ m → low < (m + 1) * 256 ^ w
reaches_shift low w m reaches = above_shift low w (m + 1) (omega arith)

-- if a number with k zero bytes after it, at least one, is at most a bound of 64 bits, it fits 64 bits with one more byte
pub fits_more : (high k w n : ℕ) → k ≡ suc w → n * 256 ^ k ≤ high → high < 2 ^ 64 → n * 256 + 255 < 2 ^ 64
fits_more high k w n digits le lt =
    let positive : 1 ≤ 256 ^ w = one-le-pow w 256 (omega arith) in
    let power : 256 ^ suc w ≡ 256 ^ w * 256 = pow-suc 256 w in
    let bounded : n * (256 ^ w * 256) ≤ high = subst (λ (x : ℕ). n * x ≤ high) (ap (λ (x : ℕ). 256 ^ x) digits ∙ power)
    le in
    let grows : n * 256 * 1 ≤ n * 256 * 256 ^ w = mul-le (n * 256) 1 (n * 256) (256 ^ w) (omega arith) positive in
    omega (arith, bounded, grows)

-- ---- eight bytes at once

-- each number of a list is a byte
abbrev pub IsBytes : List ℕ → Type 0
IsBytes bytes = (i : ℕ) → get_or bytes i 0 < 256

-- the first eight bytes
abbrev pub first_8 : List ℕ → List ℕ
first_8 bytes = get_or bytes 0 0 ∷ get_or bytes 1 0 ∷ get_or bytes 2 0 ∷ get_or bytes 3 0 ∷ get_or bytes 4 0
    ∷ get_or bytes 5 0 ∷ get_or bytes 6 0 ∷ get_or bytes 7 0 ∷ []

-- bytes are a front, and after it what comes after the first eight bytes
abbrev one_more : List ℕ → List ℕ → Type 0
one_more bytes front = bytes ≡ front ++ drop 8 bytes

-- eight bytes or more are the first eight and the others
eight : (bytes : List ℕ) → 8 ≤ length bytes → bytes ≡ first_8 bytes ++ drop 8 bytes
eight (a ∷ b ∷ c ∷ d ∷ e ∷ f ∷ g ∷ h ∷ rest) le = refl
eight [] le = absurd (omega arith)
eight (a ∷ []) le = absurd (omega arith)
eight (a ∷ b ∷ []) le = absurd (omega arith)
eight (a ∷ b ∷ c ∷ []) le = absurd (omega arith)
eight (a ∷ b ∷ c ∷ d ∷ []) le = absurd (omega arith)
eight (a ∷ b ∷ c ∷ d ∷ e ∷ []) le = absurd (omega arith)
eight (a ∷ b ∷ c ∷ d ∷ e ∷ f ∷ []) le = absurd (omega arith)
eight (a ∷ b ∷ c ∷ d ∷ e ∷ f ∷ g ∷ []) le = absurd (omega arith)

-- the first eight of a list of bytes are a list of bytes, each looked at by itself
pub first_fits : (bytes : List ℕ) → IsBytes bytes → IsBytes (first_8 bytes)
first_fits bytes fits zero = fits 0
first_fits bytes fits (suc zero) = fits 1
first_fits bytes fits (suc (suc zero)) = fits 2
first_fits bytes fits (suc (suc (suc zero))) = fits 3
first_fits bytes fits (suc (suc (suc (suc zero)))) = fits 4
first_fits bytes fits (suc (suc (suc (suc (suc zero))))) = fits 5
first_fits bytes fits (suc (suc (suc (suc (suc (suc zero)))))) = fits 6
first_fits bytes fits (suc (suc (suc (suc (suc (suc (suc zero))))))) = fits 7
first_fits bytes fits (suc (suc (suc (suc (suc (suc (suc (suc i)))))))) = omega arith

-- bytes whose first eight spell a number from `low` to `high` are read as this number: they are its spelling and a rest
pub long_found : (low high n : ℕ) (bytes : List ℕ) → low ≤ high → high < 2 ^ 64 → 8 ≤ length bytes → IsBytes bytes →
    n ≡ from_be_bytes w64 (first_8 bytes) →
    (low ≤ n) × (n ≤ high)
    → read_number 8 (within low high) bytes ≡ Ok (n, take (length bytes - 8) (drop 8 bytes))
long_found low high n bytes some top long fits same between =
    let reads = field_reads 8 low high some (omega arith) in
    let spelled : to_be_bytes w64 n ≡ first_8 bytes = be_bytes_8 (first_8 bytes) n refl (first_fits bytes fits) same in
    let parts : bytes ≡ to_be_bytes w64 n ++ drop 8 bytes =
    eight bytes long ∙ ap (λ (t : List ℕ). t ++ drop 8 bytes) (sym spelled) in
    ap (read_number 8 (within low high)) parts ∙ reads.again n (drop 8 bytes) between
    ∙ ap (λ (t : List ℕ). Ok (n, t)) (sym (rest_of 8 bytes))

-- a number that the grammar reads is from `low` to `high`
pub number_only : (w low high : ℕ) (bytes : List ℕ) (n : ℕ) (rest : List ℕ) → low ≤ high → high < 256 ^ w →
    read_number w (within low high) bytes ≡ Ok (n, rest) →
    (low ≤ n) × (n ≤ high)
number_only w low high bytes n rest some top read_as = ((field_reads w low high some top).takes bytes n rest read_as).0

-- the number of a field of eight bytes is their big-endian number
pub field_is_long : (a b c d e f g h : ℕ) →
    field 0 8 (a ∷ b ∷ c ∷ d ∷ e ∷ f ∷ g ∷ h ∷ []) ≡ from_be_bytes w64 (a ∷ b ∷ c ∷ d ∷ e ∷ f ∷ g ∷ h ∷ [])
field_is_long a b c d e f g h = omega arith
