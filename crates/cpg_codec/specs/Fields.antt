-- Numbers in a record of bytes.
use Rattle.std.specs.Prelude.{ℕ, ◌+◌, ◌*◌, List, take, drop, fold}

-- the number that bytes spell in big-endian order
abbrev pub big_number : List ℕ → ℕ
big_number bytes = fold (λ n b. n * 256 + b) 0 bytes

-- the number that `count` bytes from place `from` on spell
abbrev pub field : ℕ → ℕ → List ℕ → ℕ
field from count bytes = big_number (take count (drop from bytes))
