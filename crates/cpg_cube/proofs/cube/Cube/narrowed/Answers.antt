-- Proof of `Cube::narrowed`, which returns the cube narrowed by a literal, even if that leaves its variable no number.
use Rattle.cpg_cube.proofs.Narrow.{rising-narrowed}
use Rattle.cpg_cube.proofs.cube.Cube.narrowed.Goals as goal

-- the copy has the cube's own literals, whose variables rise
pub put-requires : goal.put-requires
put-requires c =
    rw (c.in_ok-extend_from_slice.ensures.ok, c.in_ok-literals.ensures.items, c.literals-own.ensures.literals)
    c.literals-own.ensures.rising

-- the variables of the narrowed cube rise, as those of this cube do
pub invariant_of-result : goal.invariant_of-result
invariant_of-result c = rw (
  c.in_ok-put.ensures.narrowed,
  c.in_ok-extend_from_slice.ensures.ok,
  c.in_ok-literals.ensures.items,
  c.literals-own.ensures.literals,
)
    (rising-narrowed c.args.literal c.args.self.now c.literals-own.ensures.rising)
