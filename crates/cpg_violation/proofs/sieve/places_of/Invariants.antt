-- Loops of `places_of`: the places of all columns, from 0 on.
use Rattle.std.proofs.Common.{◌<◌, ℕ, Contains}
use Rattle.cpg_violation.proofs.sieve.places_of.Given as goal

-- the list has all places so far
abbrev pub invariant-loop-place : goal.invariant-loop-place
invariant-loop-place l = (i : ℕ) → i < l.place → Contains l.places.items i
