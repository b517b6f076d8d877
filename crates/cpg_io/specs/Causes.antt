-- When a call may answer with a fault: only if the count of faults rose during it, or has come to its greatest number.
use Rattle.std.specs.Prelude.{ℕ, ◌≡◌, ◌+◌, ◌-◌, ◌^◌, ◌≤◌, min, Result, OnErr, OnOk}

-- a count of 64 bits after n more; it stops at its greatest number
abbrev pub counted : ℕ → ℕ → ℕ
counted count n = min (count + n) (2 ^ 64 - 1)

-- the count rose from `old` to `new`, or has come to its greatest number
abbrev pub Rose : ℕ → ℕ → Type 0
Rose old new = counted old 1 ≤ new

-- In a call with this result the count of faults went from `old` to `new`. It didn't fall, it rose (or has come to its
-- greatest number) if the call failed, and it is the same if the call succeeded.
pub record HasCause {T E : Type 0} (old new : ℕ) (result : Result T E) : Type 0 where
  -- the count didn't fall
  pub later : old ≤ new
  -- if the call succeeded, the count is the same
  pub kept : OnOk result (new ≡ old)
  -- if the call failed, the count rose, or has come to its greatest number
  pub failed : OnErr result (Rose old new)
