-- What `parse` makes of decimal digits.
use Rattle.std.proofs.Common.{◌≡◌, ◌≤◌, ◌<◌, ℕ, Bool, true, List, [], ◌∷◌, Some, None, refl, ap, length, arith}
use Rattle.std.specs.Prelude.{Result, Ok, Err, if◌then◌else◌, ◌^◌, ◌&&◌, nat_lt, nat_le}
use Rattle.std.specs.Result.{result_ok}
use Rattle.std.specs.List.{list_all}
use Rattle.std.specs.Char.{is_ascii_digit}
use Rattle.std.specs.Str.{all_ascii_digits}
use Rattle.std.specs.Str.Parse.{ParsesUnsigned, digits_value}
use Rattle.std.proofs.lemmas.Str.Parse.{parse_digits, numerals_by_value, tells_all_ascii_digits}
use Rattle.std.proofs.lemmas.Bool.Decides.{nat_tests}
use Rattle.cpg_words.specs.Number.{number}

-- both tests of decimal digits say the same
pub digits_all : (w : List ℕ) → list_all is_ascii_digit w ≡ all_ascii_digits w
digits_all [] = refl
digits_all (b ∷ rest) = ap (λ (t : Bool). is_ascii_digit b && t) (digits_all rest)

-- digits that write a number below 2^64 are taken as this number
taken : (d : Bool) (n v x : ℕ) → d ≡ true → n ≤ 20 → 0 < n → v < 2 ^ 64 → x ≡ v
    → Some x ≡ (if (d && (nat_lt 0 n && nat_le n 20)) && nat_lt v (2 ^ 64) then Some v else None)
taken d n v x is few some low same = grind (arith, nat_tests)

-- digits that write no such number are refused
refused : (d : Bool) (n v : ℕ) → d ≡ true → n ≤ 20 → ((0 < n) × (v < 2 ^ 64) → ⊥)
    → None ≡ (if (d && (nat_lt 0 n && nat_le n 20)) && nat_lt v (2 ^ 64) then Some v else None)
refused d n v is few never = grind (arith, nat_tests)

-- a text of at most 20 digits is parsed exactly as the rule reads it
pub number_parsed : {E : Type 0} (w : List ℕ) (r : Result ℕ E) → ParsesUnsigned 64 10 w r → all_ascii_digits w ≡ true →
    length w ≤ 20 →
    result_ok r ≡ number w
number_parsed {E} w (Ok x) parses digits few =
    let parsed = parse_digits (numerals_by_value _ tells_all_ascii_digits) {E = E} 64 w (Ok x) parses digits in
    taken (all_ascii_digits w) (length w) (digits_value 10 w) x digits few parsed.0.0 parsed.0.1 parsed.1
number_parsed {E} w (Err e) parses digits few =
    let parsed = parse_digits (numerals_by_value _ tells_all_ascii_digits) {E = E} 64 w (Err e) parses digits in
    refused (all_ascii_digits w) (length w) (digits_value 10 w) digits few parsed
