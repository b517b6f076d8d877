-- Pseudo-random numbers: each gives the next, by a linear congruence modulo 2^64.
use Rattle.std.specs.Prelude.{ℕ, ◌+◌, ◌*◌, ◌^◌, ◌%◌}

-- the number that follows x; the factor and the summand are those of a common generator with the full period of 2^64
abbrev pub next_number : ℕ → ℕ
next_number x = (x * 6364136223846793005 + 1442695040888963407) % 2 ^ 64
