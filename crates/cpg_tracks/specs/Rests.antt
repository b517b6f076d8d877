-- How far keys are from 2^64 - 1, the greatest number that the code has.
use Rattle.std.specs.Prelude.{ℕ, ◌+◌, ◌-◌, ◌^◌, ◌≡◌, ◌<◌, List, length, get_or}

-- the rests are those of the first n keys
pub record AreRestsUpTo (keys : List ℕ) (n : ℕ) (rests : List ℕ) : Type 0 where
  -- there are n
  pub count : length rests ≡ n
  -- each key and its rest add up to 2^64 - 1
  pub each : (p : ℕ) → p < n → get_or rests p 0 + get_or keys p 0 ≡ 2 ^ 64 - 1

-- the rests are those of all keys
abbrev pub AreRests : List ℕ → List ℕ → Type 0
AreRests keys rests = AreRestsUpTo keys (length keys) rests
