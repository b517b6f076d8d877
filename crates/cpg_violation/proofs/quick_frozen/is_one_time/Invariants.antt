-- Loops of `is_one_time`: whether all these columns have one time, also those that match in no scenario.
use Rattle.std.proofs.Common.{◌≡◌, All, take}
use Rattle.cpg_violation.proofs.quick_frozen.is_one_time.Given as goal

-- all columns so far have the same time
abbrev pub invariant-loop-column : goal.invariant-loop-column
invariant-loop-column l = All (λ c. c.time ≡ l.time) (take l.column-index l.columns)
