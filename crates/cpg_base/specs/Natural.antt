-- Natural numbers of the integers that a file has.
use Rattle.std.specs.Prelude.{ℕ, ℤ, pos, negsuc}

-- an integer that isn't negative as a natural number, and 0 for a negative one; `negsuc n` is the integer - n - 1
abbrev pub natural : ℤ → ℕ
natural (pos n) = n
natural (negsuc n) = 0
