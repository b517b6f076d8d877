-- A number of one byte, as the grammar reads it and as code sees it.
use Rattle.std.proofs.Common.{◌≡◌, ℕ, suc, ◌+◌, ◌*◌, ◌-◌, ◌^◌, ◌<◌, ◌≤◌, true, false, ltb, leb, List, [], ◌∷◌, length}
use Rattle.std.proofs.Common.{get_or, take, drop, Ok, Err, refl, sym, ap, ◌∙◌, arith}
use Rattle.std.proofs.lemmas.Bool.{lt-ltb, le-ltb, le-leb, lt-leb, and_from, and_left, and_right}
use Rattle.std.proofs.Math.Seq.{take-length}
use Rattle.cpg_codec.specs.Reading.{digit_may, read_digits, within}
use Rattle.cpg_codec.specs.Grammar.{read_small}

-- as many bytes as are left after one are all of them
take_rest : (rest : List ℕ) → take (suc (length rest) - 1) rest ≡ rest
take_rest rest = let count_is : suc (length rest) - 1 ≡ length rest = omega arith in rw count_is (take-length rest)

-- a byte from `low` to `high` is read: as the last digit it makes a number from `low` to `high`, so it passes the test
pub small_good : (low high b : ℕ) (rest : List ℕ) → b < 256 → low ≤ b → b ≤ high →
    read_small low high (b ∷ rest) ≡ Ok (b, rest)
unfolding read_digits
small_good low high b rest lt lo hi =
    let passes : digit_may (within low high) 0 0 b ≡ true =
    and_from (ltb b 256) (within low high ((0 * 256 + b) * 256 ^ 0) ((0 * 256 + b + 1) * 256 ^ 0)) (lt-ltb b 256 lt)
    (and_from (ltb low ((0 * 256 + b + 1) * 256 ^ 0)) (leb ((0 * 256 + b) * 256 ^ 0) high) (lt-ltb low _ (omega arith))
    (le-leb _ high (omega arith))) in
    rw passes (ap (λ (n : ℕ). Ok (n, rest)) (first_digit b)) where
      first_digit : (b : ℕ) → 0 * 256 + b ≡ b
      first_digit b = omega arith

-- a byte below `low` is bad, so it and the rest are left
pub small_low : (low high b : ℕ) (rest : List ℕ) → b < low → read_small low high (b ∷ rest) ≡ Err (suc (length rest))
unfolding read_digits
small_low low high b rest lt =
    let fails : digit_may (within low high) 0 0 b ≡ false =
    and_right (ltb b 256) (within low high ((0 * 256 + b) * 256 ^ 0) ((0 * 256 + b + 1) * 256 ^ 0))
    (and_left (ltb low ((0 * 256 + b + 1) * 256 ^ 0)) (leb ((0 * 256 + b) * 256 ^ 0) high)
    (le-ltb low _ (omega arith))) in
    rw fails refl

-- a byte above `high` is bad, so it and the rest are left
pub small_high : (low high b : ℕ) (rest : List ℕ) → high < b → read_small low high (b ∷ rest) ≡ Err (suc (length rest))
unfolding read_digits
small_high low high b rest lt =
    let fails : digit_may (within low high) 0 0 b ≡ false =
    and_right (ltb b 256) (within low high ((0 * 256 + b) * 256 ^ 0) ((0 * 256 + b + 1) * 256 ^ 0))
    (and_right (ltb low ((0 * 256 + b + 1) * 256 ^ 0)) (leb ((0 * 256 + b) * 256 ^ 0) high)
    (lt-leb ((0 * 256 + b) * 256 ^ 0) high (omega arith))) in
    rw fails refl

-- without a byte the bytes end too early, and none is left
pub small_end : (low high : ℕ) → read_small low high [] ≡ Err 0
unfolding read_digits
small_end low high = refl

-- `small_good` of bytes that aren't empty, as code sees them
pub small_gives : (low high : ℕ) (bytes : List ℕ) → 1 ≤ length bytes → get_or bytes 0 0 < 256 → low ≤ get_or bytes 0 0 →
    get_or bytes 0 0 ≤ high
    → read_small low high bytes ≡ Ok (get_or bytes 0 0, take (length bytes - 1) (drop 1 bytes))
small_gives low high [] some lt lo hi = absurd (omega arith)
small_gives low high (b ∷ rest) some lt lo hi =
    small_good low high b rest lt lo hi ∙ ap (λ (t : List ℕ). Ok (b, t)) (sym (take_rest rest))

-- `small_low` of such bytes
pub small_under : (low high : ℕ) (bytes : List ℕ) → 1 ≤ length bytes → get_or bytes 0 0 < low →
    read_small low high bytes ≡ Err (length bytes)
small_under low high [] some lt = absurd (omega arith)
small_under low high (b ∷ rest) some lt = small_low low high b rest lt

-- `small_high` of such bytes
pub small_over : (low high : ℕ) (bytes : List ℕ) → 1 ≤ length bytes → high < get_or bytes 0 0 →
    read_small low high bytes ≡ Err (length bytes)
small_over low high [] some lt = absurd (omega arith)
small_over low high (b ∷ rest) some lt = small_high low high b rest lt

-- `small_end` of bytes that are empty, as code sees them
pub small_none : (low high : ℕ) (bytes : List ℕ) → length bytes < 1 → read_small low high bytes ≡ Err 0
small_none low high [] none = small_end low high
small_none low high (b ∷ rest) none = absurd (omega arith)
