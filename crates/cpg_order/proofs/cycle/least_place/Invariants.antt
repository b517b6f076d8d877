-- Loops of `least_place`: returns the place of the least of these numbers, the first if there are several.
use Rattle.std.proofs.Common.{ℕ, ◌<◌, ◌≤◌, get_or, length}
use Rattle.cpg_order.proofs.cycle.least_place.Given as goal

-- `least` is the place of the least number so far
abbrev pub invariant-loop-place : goal.invariant-loop-place
invariant-loop-place l = record {
  -- it is a place of the list
  within : l.least < length l.numbers;
  -- no number so far is less than the one there
  below : (k : ℕ) → k < l.place → get_or l.numbers l.least 0 ≤ get_or l.numbers k 0;
}
