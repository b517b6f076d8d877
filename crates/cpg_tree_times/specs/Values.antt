-- What functions on trees make of the value of a path.
use Rattle.std.specs.Prelude.{ℕ, ◌+◌, ◌-◌, ◌^◌, min, max, nat_lt, Bool, List, Option, Some, None, get_or, if◌then◌else◌}
use Rattle.cpg_bus.specs.Share.{ShareState, next_of}

-- the time if the value is true, and none otherwise
abbrev pub time_if : ℕ → Bool → Option ℕ
time_if time is = if is then Some time else None

-- the end of an execution with this many faults: its start and the duration with them, at most 2 ^ 64 - 1; none if it
-- doesn't start
abbrev pub ended : List ℕ → ℕ → Option ℕ → Option ℕ
ended durations faults None = None
ended durations faults (Some start) = Some (min (start + get_or durations faults 0) (2 ^ 64 - 1))

-- the first slot that starts at the time or later and isn't before `free`; none if there is no time, or if it is 2 ^
-- 59 or more, which no end of an admitted graph is
abbrev pub slot_from : ShareState → ℕ → Option ℕ → Option ℕ
slot_from share free None = None
slot_from share free (Some time) = if nat_lt time (2 ^ 59) then Some (max (next_of share time) free) else None

-- the first step to that: the first slot at the time or later, with 0 in place of none
abbrev pub slot_at : ShareState → Option ℕ → ℕ
slot_at share None = 0
slot_at share (Some time) = if nat_lt time (2 ^ 59) then next_of share time else 0

-- the last step: the slot that was found, if there is a time and it is less than 2 ^ 59
abbrev pub slot_if : ℕ → Option ℕ → Option ℕ
slot_if slot None = None
slot_if slot (Some time) = if nat_lt time (2 ^ 59) then Some slot else None
