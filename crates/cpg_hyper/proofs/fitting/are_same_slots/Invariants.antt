-- Loops of `are_same_slots`: whether two lists of slots are equal.
use Rattle.std.proofs.Common.{◌≡◌, take}
use Rattle.cpg_hyper.proofs.fitting.are_same_slots.Given as goal

-- the slots before the place are equal
abbrev pub invariant-loop-place : goal.invariant-loop-place
invariant-loop-place l = take l.place l.slots ≡ take l.place l.others
