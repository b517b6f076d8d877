-- Loops of `put_lows_of`, which puts the lows of literals into a key.
use Rattle.std.proofs.Common.{◌≡◌, drop, take}
use Rattle.cpg_cube.specs.Keys.{AreBytes, with_lows_of}
use Rattle.cpg_cube.proofs.sorting.put_lows_of.Given as goal

-- the key with the lows of the literals still to come is the whole key; the lows so far are bytes
abbrev pub invariant-loop-literal : goal.invariant-loop-literal
invariant-loop-literal l = record {
  key : with_lows_of l.places l.literals l.fn.key.items
      ≡ with_lows_of l.places (drop l.literal-index l.literals) l.key.items;
  bytes : AreBytes (take l.literal-index l.literals);
}
