-- A number as a word writes it.
use Rattle.std.specs.Prelude.{ℕ, ◌&&◌, ◌^◌, Bool, List, length, Option, Some, None, if◌then◌else◌, nat_le, nat_lt}
use Rattle.std.specs.Str.{all_ascii_digits}
use Rattle.std.specs.Str.Parse.{digits_value}

-- Whether a word is 1 to 20 decimal digits, and nothing else. The greatest number below 2^64 has 20.
abbrev pub is_numeral : List ℕ → Bool
is_numeral w = all_ascii_digits w && (nat_lt 0 (length w) && nat_le (length w) 20)

-- The number that a numeral writes in base ten, if it is below 2^64.
abbrev pub number : List ℕ → Option ℕ
number w = if is_numeral w && nat_lt (digits_value 10 w) (2 ^ 64) then Some (digits_value 10 w) else None
