-- Loops of `places_on_side`: those of these places that go to one side of a cut: below it, if `below`, or above it, if
-- not.
use Rattle.std.proofs.Common.{◌≡◌, ◌<◌, ℕ, Contains, length, nat_le, true, take}
use Rattle.cpg_base.specs.Scenario.{Scenario, number_of}
use Rattle.cpg_cube.specs.Cube.{matches}
use Rattle.cpg_cube.specs.Column.{column_at}
use Rattle.cpg_violation.proofs.sieve.places_on_side.Given as goal

-- each column so far that matches a scenario on this side of the cut is kept
abbrev pub invariant-loop-place : goal.invariant-loop-place
invariant-loop-place l = (s : Scenario) (i : ℕ) → Contains (take l.place-index l.places) i → i < length l.columns →
    matches (column_at l.columns i).cube s ≡ true →
    nat_le (number_of s l.cut.variable) l.cut.most ≡ l.below → Contains l.kept.items i
