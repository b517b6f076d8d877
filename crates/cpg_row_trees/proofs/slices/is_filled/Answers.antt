-- Proof of `is_filled`: whether a literal has all numbers of the space's range of its variable.
use Rattle.std.proofs.Common.{arith, rules}
use Rattle.std.specs.Prelude.{nat_le, get_or}
use Rattle.std.proofs.lemmas.Bool.{OnTrue_from, leb-true}
use Rattle.cpg_cube.proofs.CubeLows.{holds-from}
use Rattle.cpg_row_trees.proofs.slices.is_filled.Goals as goal

-- the literal allows all numbers from the low of the space to its high
pub returns : goal.returns
returns c =
    let literal = c.args.literal.now in
    OnTrue_from (nat_le (get_or c.args.space.now.high literal.variable 0) literal.high) _
    (λ e s lies. holds-from s literal
    (omega (arith, c.if-space-literal.false, lies.low literal.variable (search rules)))
    (omega (
      arith,
      lies.high literal.variable (search rules),
      leb-true (get_or c.args.space.now.high literal.variable 0) literal.high e,
    )))
