-- Loops of `key_of`, which returns the key of a cube: its lows that aren't 0, in the order of the places, each as one
-- number with how many places are left.
use Rattle.std.proofs.Common.{◌≡◌, [], length}
use Rattle.cpg_cube.specs.Keys.{AreBytes, with_lows_of}
use Rattle.cpg_cube.proofs.sorting.key_of.Given as goal

-- the key with the lows of the literals left is the key of the whole cube; if those left are bytes, all are
abbrev pub invariant-loop-block : goal.invariant-loop-block
invariant-loop-block l = record {
  key : with_lows_of l.places l.cube [] ≡ with_lows_of l.places l.left l.key.items;
  bytes : AreBytes l.left → AreBytes l.cube;
}

-- each turn takes literals off the list
abbrev pub decreases-loop-block : goal.decreases-loop-block
decreases-loop-block l = length l.left
