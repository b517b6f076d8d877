-- Loops of `place_in`, which returns the place of `number` in a key, whose numbers fall: behind all that are at least
-- as great.
use Rattle.std.proofs.Common.{◌≡◌, ◌+◌, ◌-◌, drop, length}
use Rattle.cpg_cube.specs.Keys.{place_in}
use Rattle.cpg_cube.proofs.sorting.place_in.Given as goal

-- all numbers so far stand before `number`, so its place is `place` further on than in the rest
abbrev pub invariant-loop-place : goal.invariant-loop-place
invariant-loop-place l = place_in l.number l.key ≡ l.place + place_in l.number (drop l.place l.key)

-- each turn goes on by one number of the key
abbrev pub decreases-loop-place : goal.decreases-loop-place
decreases-loop-place l = length l.key - l.place
