-- Proof of `place_in`, which returns the place of `number` in a key, whose numbers fall: behind all that are at least
-- as great.
use Rattle.std.proofs.Common.{arith, rules}
use Rattle.cpg_cube.proofs.KeyPlaces.{place_here, place_next}
use Rattle.cpg_cube.proofs.sorting.place_in.Goals as goal

-- at the first lesser number of the key the place is found
pub returns-then-key-place : goal.returns-then-key-place
returns-then-key-place c =
    place_here c.args.number c.loop-place.place _ c.args.key.now (omega arith) (search rules) c.loop-place.invariant

-- if the next number isn't less, the place is behind it
pub loop-place-preserved : goal.loop-place-preserved
loop-place-preserved c =
    place_next c.args.number c.loop-place.place _ c.args.key.now (omega arith) (search rules) c.loop-place.invariant
