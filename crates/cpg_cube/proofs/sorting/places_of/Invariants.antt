-- Loops of `places_of`, which returns by variable how many places are left at it in a list of variables: 256 at the
-- first, one less at each that follows, and 0 at a variable that isn't in the list.
use Rattle.std.proofs.Common.{ℕ, ◌≡◌, ◌+◌, get_or, length, take}
use Rattle.cpg_cube.specs.Keys.{left_at}
use Rattle.cpg_cube.proofs.sorting.places_of.Given as goal

-- each variable so far has how many of 256 places were left at its turn, and the others have 0
abbrev pub invariant-loop-variable : goal.invariant-loop-variable
invariant-loop-variable l = record {
  left : l.left + l.variable-index ≡ 256;
  long : length l.places ≡ 256;
  places : (v : ℕ) → get_or l.places v 0 ≡ left_at 256 (take l.variable-index l.variables) v;
}
