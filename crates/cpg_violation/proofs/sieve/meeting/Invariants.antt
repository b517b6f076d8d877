-- Loops of `meeting`: those of these places whose columns may match a scenario together with a cube.
use Rattle.std.proofs.Common.{◌≡◌, ◌<◌, ℕ, Contains, length, true, take}
use Rattle.cpg_base.specs.Scenario.{Scenario}
use Rattle.cpg_cube.specs.Cube.{matches}
use Rattle.cpg_cube.specs.Column.{column_at}
use Rattle.cpg_violation.proofs.sieve.meeting.Given as goal

-- each column so far that shares a scenario with the cube is kept
abbrev pub invariant-loop-place : goal.invariant-loop-place
invariant-loop-place l = (s : Scenario) (i : ℕ) → Contains (take l.place-index l.places) i → i < length l.columns →
    matches (column_at l.columns i).cube s ≡ true → matches l.cube s ≡ true →
    Contains l.kept.items i
