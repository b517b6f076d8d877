-- Proof of `sifted`: a sieve of these places, with at most `depth` cuts below one another.
use Rattle.std.proofs.Common.{rules, ◌≡◌, Option, subst}
use Rattle.std.specs.Prelude.{IfSome}
use Rattle.cpg_violation.specs.declared.sieve.SieveSides.{SieveSides}
use Rattle.cpg_violation.specs.Parts.{ArePartsOf}
use Rattle.cpg_violation.proofs.SieveLaws.{sifts_cut}
use Rattle.cpg_violation.proofs.sieve.+sifted.Goals as goal

-- each side sifts its places, and no place that a scenario needs is lost, so the cut sifts all
pub returns : goal.returns
returns t c =
    -- the boxes hold the two sieves, and the sides are those of the cut
    let low : c.in_ok-below-2.below.value ≡ c.in_ok-below.below = search rules in
    let high : c.in_ok-above-2.above.value ≡ c.in_ok-above.above = search rules in
    let parts : ArePartsOf c.args.columns.now c.as_slice.result.now c.in-Some.sides = subst
    (λ (o : Option SieveSides). IfSome o (ArePartsOf c.args.columns.now c.as_slice.result.now)) c.in-Some.is
    c.in_ok-sides.ensures in
    rw (low, high) (sifts_cut c.args.columns.now c.in-Some.sides.cut.variable c.in-Some.sides.cut.most
    c.args.places.items c.in-Some.sides.low.items c.in-Some.sides.high.items c.in_ok-below.below
    c.in_ok-above.above
    (rw c.as_slice.ensures.value at parts.low)
    (rw c.as_slice.ensures.value at parts.high) c.in_ok-below.ensures c.in_ok-above.ensures)
