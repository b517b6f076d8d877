-- How far times are past their due.
use Rattle.std.specs.Prelude.{ℕ, ◌-◌, nat_lt, Option, Some, None, if◌then◌else◌}

-- how far a time is past its due, if it is
abbrev pub time_past : ℕ → Option ℕ → Option ℕ
time_past due None = None
time_past due (Some time) = if nat_lt due time then Some (time - due) else None
