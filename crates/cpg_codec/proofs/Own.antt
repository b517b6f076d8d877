-- An own deadline is eight bytes ff or a number up to 10^9; the first byte says which. In the lemmas n is the number
-- that the digits so far spell, b the next digit, and w how many digits follow.
use Rattle.std.proofs.Common.{◌≡◌, ℕ, zero, suc, ◌+◌, ◌*◌, ◌^◌, ◌<◌, ◌≤◌, Bool, true, false, cond, ltb, leb, ◌&&◌, ◌||◌}
use Rattle.std.proofs.Common.{List, [], ◌∷◌, length, get_or, Result, Ok, Err, refl, sym, ap, subst, ◌∙◌}
use Rattle.std.proofs.Common.{arith, inl, inr}
use Rattle.std.proofs.lemmas.Bool.{le-ltb, lt-leb, and_left, and_right, cases_lt}
use Rattle.std.proofs.lemmas.Nat.{mul-le}
use Rattle.std.proofs.Math.Nat.{pow-suc}
use Rattle.cpg_codec.specs.Reading.{onward, digit_may, read_digits, read_number, within}
use Rattle.cpg_codec.specs.Grammar.{deadline_may}

-- two tests agree on every range of numbers that begin with the digits n and have w more
pub Same : (ℕ → ℕ → Bool) → (ℕ → ℕ → Bool) → ℕ → ℕ → Type 0
Same may other w n =
    (from below : ℕ) → n * 256 ^ w ≤ from → below ≤ (n + 1) * 256 ^ w → may from below ≡ other from below

-- if two readers read on alike after a digit, they do so after its test, whichever its result (`passes`) is
go_same : (may other : ℕ → ℕ → Bool) (w n b : ℕ) (rest : List ℕ) (passes : Bool) →
    read_digits may w (n * 256 + b) rest ≡ read_digits other w (n * 256 + b) rest
    → onward (read_digits may w)
    (cond {A = Result (ℕ × List ℕ) ℕ} passes (Ok (n * 256 + b, rest)) (Err (suc (length rest))))
    ≡ onward (read_digits other w)
    (cond {A = Result (ℕ × List ℕ) ℕ} passes (Ok (n * 256 + b, rest)) (Err (suc (length rest))))
go_same may other w n b rest true alike = alike
go_same may other w n b rest false alike = refl

-- to give the digit and then add it to the number is to give the number with it
fold_go : (may : ℕ → ℕ → Bool) (w n b : ℕ) (rest : List ℕ) (passes : Bool)
    → onward (λ (d : ℕ). read_digits may w (n * 256 + d))
    (cond {A = Result (ℕ × List ℕ) ℕ} passes (Ok (b, rest)) (Err (suc (length rest)))) ≡ onward (read_digits may w)
    (cond {A = Result (ℕ × List ℕ) ℕ} passes (Ok (n * 256 + b, rest)) (Err (suc (length rest))))
fold_go may w n b rest true = refl
fold_go may w n b rest false = refl

-- two tests that agree on what begins with n and b agree on whether b may come next
tests_same : (may other : ℕ → ℕ → Bool) (w n b : ℕ) → Same may other w (n * 256 + b) →
    digit_may may w n b ≡ digit_may other w n b
unfolding Same
tests_same may other w n b agree = ap (λ (t : Bool). ltb b 256 && t)
    (agree ((n * 256 + b) * 256 ^ w) ((n * 256 + b + 1) * 256 ^ w) (omega arith) (omega arith))

-- if two tests agree on what begins with n and b, and read on alike after it, they read b and the rest alike
step_same : (may other : ℕ → ℕ → Bool) (w n b : ℕ) (rest : List ℕ) → Same may other w (n * 256 + b) →
    read_digits may w (n * 256 + b) rest ≡ read_digits other w (n * 256 + b) rest
    → read_digits may (suc w) n (b ∷ rest) ≡ read_digits other (suc w) n (b ∷ rest)
unfolding read_digits
step_same may other w n b rest agree alike =
    fold_go may w n b rest (digit_may may w n b)
    ∙ ap (λ (t : Bool). onward (read_digits may w) (cond {A = Result (ℕ × List ℕ) ℕ} t (Ok (n * 256 + b, rest))
    (Err (suc (length rest))))) (tests_same may other w n b agree)
    ∙ go_same may other w n b rest (digit_may other w n b) alike
    ∙ sym (fold_go other w n b rest (digit_may other w n b))

-- a number of 256 or more is no digit, so it is refused
refused : (may : ℕ → ℕ → Bool) (w n b : ℕ) (rest : List ℕ) → 256 ≤ b →
    read_digits may (suc w) n (b ∷ rest) ≡ Err (suc (length rest))
unfolding read_digits
refused may w n b rest le = let fails : digit_may may w n b ≡ false =
    and_left (ltb b 256) (may ((n * 256 + b) * 256 ^ w) ((n * 256 + b + 1) * 256 ^ w)) (le-ltb b 256 le) in
    rw fails refl

-- tests that agree on what begins with n agree on what begins with n and b
narrower : (may other : ℕ → ℕ → Bool) (w n b : ℕ) → b < 256 → Same may other (suc w) n → Same may other w (n * 256 + b)
unfolding Same
narrower may other w n b lt agree from below lo hi =
    let power : 256 ^ suc w ≡ 256 ^ w * 256 = pow-suc 256 w in
    let scaled : (b + 1) * 256 ^ w ≤ 256 * 256 ^ w = mul-le (b + 1) (256 ^ w) 256 (256 ^ w) (omega arith)
    (omega arith) in
    agree from below (subst (λ (x : ℕ). n * x ≤ from) (sym power) (omega arith))
    (subst (λ (x : ℕ). below ≤ (n + 1) * x) (sym power) (omega arith))

-- tests that agree on what begins with the digits n read the other w digits alike; by induction on w, digit by digit
pub digits_same : (may other : ℕ → ℕ → Bool) (w n : ℕ) (bytes : List ℕ) → Same may other w n →
    read_digits may w n bytes ≡ read_digits other w n bytes
unfolding read_digits
digits_same may other zero n bytes agree = refl
digits_same may other (suc w) n [] agree = refl
digits_same may other (suc w) n (b ∷ rest) agree = elim (cases_lt b 256) [
  | inl lt ↦ let narrow = narrower may other w n b lt agree in
      step_same may other w n b rest narrow (digits_same may other w (n * 256 + b) rest narrow)
  | inr le ↦ refused may w n b rest le ∙ sym (refused other w n b rest le)
]

-- a disjunction with a false second part is its first part
or_false : (t u : Bool) → u ≡ false → (t || u) ≡ t
or_false true u is_false = refl
or_false false u is_false = is_false

-- after a first byte ff the test of deadlines is that of the number for none: no number up to 10^9 begins so
none_same : Same deadline_may (within 18446744073709551615 18446744073709551615) 7 (0 * 256 + 255)
unfolding Same
none_same from below lo hi =
    let too_great : within 0 1000000000 from below ≡ false =
    and_right (ltb 0 below) (leb from 1000000000) (lt-leb from 1000000000 (omega arith)) in
    rw too_great refl

-- after any other first byte it is that of numbers up to 10^9: the number for none doesn't begin so
some_same : (b : ℕ) → b < 255 → Same deadline_may (within 0 1000000000) 7 (0 * 256 + b)
unfolding Same
some_same b lt from below lo hi =
    or_false (within 0 1000000000 from below) (within 18446744073709551615 18446744073709551615 from below)
    (and_left (ltb 18446744073709551615 below) (leb from 18446744073709551615)
    (le-ltb 18446744073709551615 below (omega arith)))

-- bytes that begin with ff are read as a deadline just as they are as the number for none
pub deadline_none : (bytes : List ℕ) → get_or bytes 0 0 ≡ 255 →
    read_number 8 deadline_may bytes ≡ read_number 8 (within 18446744073709551615 18446744073709551615) bytes
deadline_none [] is_ff = absurd (omega arith)
deadline_none (b ∷ rest) is_ff = ap (λ (d : ℕ). read_number 8 deadline_may (d ∷ rest)) is_ff
    ∙ step_same deadline_may (within 18446744073709551615 18446744073709551615) 7 0 255 rest none_same
    (digits_same deadline_may (within 18446744073709551615 18446744073709551615) 7 (0 * 256 + 255) rest none_same)
    ∙ ap (λ (d : ℕ). read_number 8 (within 18446744073709551615 18446744073709551615) (d ∷ rest)) (sym is_ff)

-- without a byte both readers fail with none left
deadline_end : read_number 8 deadline_may [] ≡ read_number 8 (within 0 1000000000) []
unfolding read_digits
deadline_end = refl

-- bytes that begin otherwise, or are empty, are read as a deadline just as they are as a number up to 10^9
pub deadline_some : (bytes : List ℕ) → get_or bytes 0 0 < 256 → (get_or bytes 0 0 ≡ 255 → ⊥) →
    read_number 8 deadline_may bytes ≡ read_number 8 (within 0 1000000000) bytes
deadline_some [] lt not_ff = deadline_end
deadline_some (b ∷ rest) lt not_ff =
    let agree = some_same b (below_255 b lt not_ff) in
    step_same deadline_may (within 0 1000000000) 7 0 b rest agree
    (digits_same deadline_may (within 0 1000000000) 7 (0 * 256 + b) rest agree) where
      below_255 : (b : ℕ) → b < 256 → (b ≡ 255 → ⊥) → b < 255
      below_255 b lt not_ff = elim (cases_lt b 255) [ inl below ↦ below | inr at_least ↦ absurd (not_ff (omega arith)) ]
