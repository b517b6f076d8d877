-- Bytes parted at the first of some byte: the lines of a file at a line feed (10), the parts of a line at a blank (32).
use Rattle.std.proofs.Common.{ℕ, zero, suc, ◌+◌, ◌-◌, ◌<◌, ◌≡◌, ◌==◌, ◌^◌, true, false, List, [], ◌∷◌, ◌++◌, length}
use Rattle.std.proofs.Common.{get_or, take, drop, position, Some, None, arith, refl, sym, ap, ◌∙◌, subst, inl}
use Rattle.std.proofs.Common.{inr, eqb-true, eq-eqb, ne_eqb, lt-ltb, true≢false}
use Rattle.std.specs.List.{list_any, position_or_len}
use Rattle.std.specs.Fmt.{decimal}
use Rattle.std.specs.Str.Parse.{AllDigits}
use Rattle.std.proofs.lemmas.Bool.{cases_lt, cond-true, cond-false, or_from, or_parts}
use Rattle.std.proofs.lemmas.Grind.{common_steps}
use Rattle.std.proofs.lemmas.Fmt.{decimal_is_IsNumeral}
use Rattle.std.proofs.lemmas.List.Quantifiers.{position-Some}
use Rattle.std.proofs.lemmas.List.Sums.{fails_before_first}
use Rattle.std.proofs.lemmas.Option.{none-some}
use Rattle.std.proofs.lemmas.Str.Parse.{digit_from_value}
use Rattle.cpg_base.proofs.Lists.{list_any_false}
use Rattle.cpg_log.specs.Lines.{IsParted, lines, with_byte}

-- bytes `xs` are parted at place `i`, if the byte is there and not before; by induction on `i`
parts_at : (byte : ℕ) (xs : List ℕ) (i : ℕ) → i < length xs → (get_or xs i 0 == byte) ≡ true →
    ((k : ℕ) → k < i → (get_or xs k 0 == byte) ≡ false) →
    IsParted byte xs (take i xs) (drop (suc i) xs)
parts_at byte [] i inside is_byte none_before = absurd (omega arith)
parts_at byte (x ∷ xs) zero inside is_byte none_before =
    record { whole = ap (λ y. y ∷ xs) (eqb-true x byte is_byte); first = refl }
parts_at byte (x ∷ xs) (suc i) inside is_byte none_before =
    let parts = parts_at byte xs i (omega arith) is_byte (λ k m. none_before (suc k) (omega arith)) in
    record {
      whole = ap (λ ys. x ∷ ys) parts.whole;
      first = or_from (x == byte) (list_any (λ b. b == byte) (take i xs)) (none_before 0 (omega arith)) parts.first;
    }

-- bytes `xs` are parted at place `i`, which `position` finds as the first place of the byte
pub parted_at : (byte : ℕ) (xs : List ℕ) (i : ℕ) → position (λ b. b == byte) xs ≡ Some i →
    IsParted byte xs (take i xs) (drop (i + 1) xs)
parted_at byte xs i found = let first_place = position-Some (λ b. b == byte) xs i 0 found in
    subst (λ n. IsParted byte xs (take i xs) (drop n xs)) (let same : suc i ≡ i + 1 = omega arith in
    same) (parts_at byte xs i first_place.0 first_place.1 first_place.2)

-- if `position` finds no place of a byte in `xs`, the byte isn't in it
pub not_there : (byte : ℕ) (xs : List ℕ) → position (λ b. b == byte) xs ≡ None → list_any (λ b. b == byte) xs ≡ false
not_there byte xs none =
    list_any_false (λ b. b == byte) xs (λ x c. elim (cases_lt (position_or_len (λ b. b == byte) xs) (length xs)) [
      | inl inside ↦ absurd (none-some (position_or_len (λ b. b == byte) xs)
          (sym none ∙ cond-true _ _ _ (lt-ltb (position_or_len (λ b. b == byte) xs) (length xs) inside)))
      | inr past ↦ subst (λ y. (y == byte) ≡ false) c.2 (fails_before_first (λ b. b == byte) xs c.0 x
          (omega (arith, c.1)))
    ])

-- the lines of a line without a line feed, a line feed and a rest are that line and the lines of the rest; by induction on
-- the line
pub lines_cut : (line rest : List ℕ) → list_any (λ b. b == 10) line ≡ false →
    lines (line ++ 10 ∷ rest) ≡ line ∷ lines rest
lines_cut [] rest no_feed = refl
lines_cut (b ∷ bs) rest no_feed = let tests = or_parts (b == 10) (list_any (λ b. b == 10) bs) no_feed in
    cond-false (b == 10) ([] ∷ lines (bs ++ 10 ∷ rest)) (with_byte b (lines (bs ++ 10 ∷ rest))) tests.0
    ∙ ap (with_byte b) (lines_cut bs rest tests.1)

-- the lines of bytes with a line feed are the bytes before it and the lines of the rest
pub lines_parted : (bytes line rest : List ℕ) → IsParted 10 bytes line rest → lines bytes ≡ line ∷ lines rest
lines_parted bytes line rest parted = ap lines parted.whole ∙ lines_cut line rest parted.first

-- bytes without a line feed, if there are any, are one line
pub lines_whole : (bytes : List ℕ) → 0 < length bytes → list_any (λ b. b == 10) bytes ≡ false → lines bytes ≡ bytes ∷ []
lines_whole [] some no_feed = absurd (omega arith)
lines_whole (b ∷ []) some no_feed = cond-false (b == 10) ([] ∷ []) ((b ∷ []) ∷ []) (or_parts (b == 10) false no_feed).0
lines_whole (b ∷ c ∷ bs) some no_feed = let tests = or_parts (b == 10) (list_any (λ b. b == 10) (c ∷ bs)) no_feed in
    cond-false (b == 10) ([] ∷ lines (c ∷ bs)) (with_byte b (lines (c ∷ bs))) tests.0
    ∙ ap (with_byte b) (lines_whole (c ∷ bs) (omega arith) tests.1)

-- bytes are parted at the first of some byte in one way only, so `d` and `e` are equal, and `t` and `u`; by induction
-- on the first parts
pub same_parts : (byte : ℕ) (d e t u : List ℕ) → list_any (λ b. b == byte) d ≡ false →
    list_any (λ b. b == byte) e ≡ false → d ++ byte ∷ t ≡ e ++ byte ∷ u →
    (d ≡ e) × (t ≡ u)
same_parts byte [] [] t u d_without e_without is = (refl, ap (drop 1) is)
same_parts byte [] (x ∷ e) t u d_without e_without is =
    absurd (true≢false (sym (eq-eqb x byte (sym (ap (λ ys. get_or ys 0 0) is))) ∙ (or_parts (x == byte) _ e_without).0))
same_parts byte (x ∷ d) [] t u d_without e_without is =
    absurd (true≢false (sym (eq-eqb x byte (ap (λ ys. get_or ys 0 0) is)) ∙ (or_parts (x == byte) _ d_without).0))
same_parts byte (x ∷ d) (y ∷ e) t u d_without e_without is =
    let rest = same_parts byte d e t u (or_parts (x == byte) _ d_without).1 (or_parts (y == byte) _ e_without).1
    (ap (drop 1) is) in
    ((λ i. ap (λ ys. get_or ys 0 0) is i ∷ rest.0 i), rest.1)

-- decimal digits have no blank among them
spaceless : (ds : List ℕ) → AllDigits 10 ds → list_any (λ b. b == 32) ds ≡ false
spaceless [] all_digits = refl
spaceless (c ∷ cs) all_digits = or_from (c == 32) (list_any (λ b. b == 32) cs)
    (ne_eqb c 32 (λ e. omega (arith, digit_from_value c all_digits.0, e))) (spaceless cs all_digits.1)

-- the decimal digits of a number below 2^60 have no blank among them
pub decimal_spaceless : (n : ℕ) → n < 2 ^ 60 → list_any (λ b. b == 32) (decimal n) ≡ false
decimal_spaceless n below = spaceless (decimal n) (decimal_is_IsNumeral n (omega arith)).0.1

-- as many bytes as there are from a place on are all from there on
pub rest_of : (at : ℕ) (bytes : List ℕ) → take (length bytes - at) (drop at bytes) ≡ drop at bytes
rest_of at bytes = grind (arith, common_steps)
