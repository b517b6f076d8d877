-- What keys are made of, and their bounds.
use Rattle.std.specs.Prelude.{ℕ, ◌≤◌, List, Option, get_or}
use Rattle.cpg_base.specs.Numbers.{greatest}
use Rattle.cpg_tracks.specs.Tracks.{starts_in}

-- the latest start of a process in these schedules, or 0 if it has none in any
abbrev pub latest : List (List (Option ℕ)) → ℕ → ℕ
latest schedules p = greatest (starts_in schedules p)

-- no key is above a bound; a process without a key counts as one with key 0
abbrev pub AreLow : ℕ → List ℕ → Type 0
AreLow bound keys = (p : ℕ) → get_or keys p 0 ≤ bound
