-- Proof of `places_of`, which returns by variable how many places are left at it in a list of variables: 256 at the
-- first, one less at each that follows, and 0 at a variable that isn't in the list.
use Rattle.std.proofs.Common.{◌<◌, rules, arith, refl, length}
use Rattle.std.specs.Prelude.{slice_index_or}
use Rattle.cpg_cube.proofs.KeyPlaces.{places_none, places_more}
use Rattle.cpg_cube.proofs.sorting.places_of.Goals as goal

-- before the first variable no place is written: all are 0, and 256 are left
pub loop-variable-init : goal.loop-variable-init
loop-variable-init c = record { left = refl; long = refl; places = places_none }

-- with the next variable's place written, the places are those of one variable more
pub loop-variable-preserved : goal.loop-variable-preserved
loop-variable-preserved c =
    let invariant = c.loop-variable.invariant in
    let within : c.loop-variable.variable-index < length c.args.variables.now = omega arith in
    let small : slice_index_or c.args.variables.now c.loop-variable.variable-index 0 < 256 = omega arith in
    record {
      left = omega (arith, invariant.left, within, c.requires.few);
      long = search rules;
      places = places_more c.args.variables.now c.requires.apart c.loop-variable.variable-index 0 c.loop-variable.left
          within invariant.left c.loop-variable.places invariant.long small invariant.places;
    }
