-- Loops of `are_same`: whether two lists of literals are the same, place by place.
use Rattle.std.proofs.Common.{◌≡◌, take}
use Rattle.cpg_check_rows.proofs.hears.are_same.Given as goal

-- the literals so far are the same in both lists
abbrev pub invariant-loop-place : goal.invariant-loop-place
invariant-loop-place l = take l.place l.literals ≡ take l.place l.others
