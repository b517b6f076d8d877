-- The decimal digits of numbers, as code writes them: the last one after those of a tenth. The digit d is the byte 48 + d.
use Rattle.std.proofs.Common.{◌≡◌, ℕ, ◌+◌, ◌<◌, ◌≤◌, ◌^◌, ◌/◌, ◌%◌, List, [], ◌∷◌, ◌++◌, length, sym, ap, ap₂, ◌∙◌}
use Rattle.std.proofs.Common.{arith, append_assoc}
use Rattle.std.specs.Fmt.{decimal}
use Rattle.std.proofs.lemmas.Fmt.{decimal_digit, decimal_step, length-decimal-le}
use Rattle.std.proofs.lemmas.List.{length-append}

-- a number below 10 has one digit, the byte 48 + n
one_digit : (n : ℕ) → n < 10 → (48 + n) ∷ [] ≡ decimal n
one_digit n below = sym (decimal_digit n below)

-- the text of a number below 10 is one byte long
pub one_long : (n : ℕ) → n < 10 → length (decimal n) ≡ 1
one_long n below = ap (λ (ds : List ℕ). length ds) (decimal_digit n below)

-- to write that digit after a text is to write the number after it
pub one_written : (n v : ℕ) (old new : List ℕ) → n < 10 → new ≡ old ++ v ∷ [] → v ≡ 48 + n → new ≡ old ++ decimal n
one_written n v old new below same d =
    same ∙ ap (λ x. old ++ x ∷ []) d ∙ ap (λ (ds : List ℕ). old ++ ds) (one_digit n below)

-- the text of a number from 10 on is one byte longer than that of its tenth
pub more_long : (n : ℕ) → 10 ≤ n → n < 2 ^ 64 → length (decimal n) ≡ length (decimal (n / 10)) + 1
more_long n l small =
    ap (λ (ds : List ℕ). length ds) (decimal_step n l small) ∙ length-append (decimal (n / 10)) ((48 + n % 10) ∷ [])

-- to write the digits of its tenth after a text, and then its last one, is to write the number after it
pub more_written : (n v : ℕ) (old mid new : List ℕ) → 10 ≤ n → n < 2 ^ 64 → mid ≡ old ++ decimal (n / 10) →
    new ≡ mid ++ v ∷ [] → v ≡ 48 + n % 10 →
    new ≡ old ++ decimal n
more_written n v old mid new l small same e d =
    e ∙ ap₂ (λ (front : List ℕ) x. front ++ x ∷ []) same d ∙ append_assoc old (decimal (n / 10)) ((48 + n % 10) ∷ [])
    ∙ ap (λ (ds : List ℕ). old ++ ds) (sym (decimal_step n l small))

-- a number of 64 bits has at most 20 digits
pub at_most_twenty : (n : ℕ) → n < 2 ^ 64 → length (decimal n) ≤ 20
at_most_twenty n small = length-decimal-le 20 n (omega arith) (omega (arith, small)) small
