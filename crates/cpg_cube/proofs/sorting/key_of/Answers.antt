-- Proof of `key_of`, which returns the key of a cube: its lows that aren't 0, in the order of the places, each as one
-- number with how many places are left.
use Rattle.std.proofs.Common.{◌≡◌, ◌<◌, ◌++◌, ◌∙◌, [], List, All, ap, sym, subst, rules}
use Rattle.std.proofs.lemmas.List.Elements.{All-append}
use Rattle.cpg_cube.specs.Cube.{Literal}
use Rattle.cpg_cube.specs.Keys.{AreBytes, with_lows_of}
use Rattle.cpg_cube.proofs.KeyPlaces.{key_made, lows_after}
use Rattle.cpg_cube.proofs.sorting.key_of.Goals as goal

-- with the lows of a block put, those of the rest are still to be put, and the whole key is the same
pub loop-block-preserved : goal.loop-block-preserved
loop-block-preserved c =
    let invariant = c.loop-block.invariant in
    let places = c.args.places.now in
    let block = c.in-Some.block.now in
    let rest = c.in-Some.rest.now in
    let parted : c.loop-block.left.now ≡ block ++ rest = search rules in
    record {
      key = invariant.key ∙ ap (λ ls. with_lows_of places ls c.loop-block.key.items) parted
          ∙ lows_after places block rest c.loop-block.key.items
          ∙ ap (with_lows_of places rest) (sym c.in_ok-put_block.ensures.key);
      bytes = λ later. invariant.bytes (subst AreBytes (sym parted)
          (All-append (λ (l : Literal). l.low < 256) block rest c.in_ok-put_block.ensures.bytes later));
    }

-- the lows of all literals were put one by one, which makes the key of the cube
pub returns-clause-key : goal.returns-clause-key
returns-clause-key c variables are =
    let bytes : AreBytes c.args.cube.now = c.loop-block.invariant.bytes c.in_ok-put_lows_of.ensures.bytes in
    let made : with_lows_of c.args.places.now c.args.cube.now [] ≡ c.put_lows_of.new.key.items =
    c.loop-block.invariant.key ∙ sym c.in_ok-put_lows_of.ensures.key in
    key_made variables c.args.places.now are c.args.cube.now bytes c.literals-left.ensures.rising
    c.put_lows_of.new.key.items made

-- the lows are bytes if those of all blocks and of the rest are
pub returns-clause-bytes : goal.returns-clause-bytes
returns-clause-bytes c = c.loop-block.invariant.bytes c.in_ok-put_lows_of.ensures.bytes
