-- What a shelf and a sink report, each as one value.
use Rattle.std.specs.Prelude.{ℕ, List, Option, length}
use Rattle.cpg_history.specs.Fetch.{Fetch, newest_given}

-- what a shelf reports
pub record ShelfState : Type 0 where
  -- the bytes that stand under a name; None if the shelf doesn't report them or there is no such name
  pub stands : List ℕ → Option (List ℕ)
  -- the bytes that are left of the fetched name, if the shelf reports them
  pub left : Option (List ℕ)
  -- the count of faults
  pub faults : ℕ
  -- all fetches, newest first, with what each gave
  pub history : List Fetch

-- how many bytes the newest fetch gave
abbrev pub given_count : ShelfState → ℕ
given_count s = length (newest_given s.history)

-- what a sink reports
pub record SinkState : Type 0 where
  -- the bytes that it took
  pub taken : List ℕ
  -- the count of faults
  pub faults : ℕ
