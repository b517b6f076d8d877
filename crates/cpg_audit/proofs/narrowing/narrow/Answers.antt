-- Proof of `narrow`: narrows a space to the scenarios that none of these cubes matches, as far as each depends on one
-- variable.
use Rattle.std.proofs.Common.{◌≡◌, ◌∙◌, ap, sym, drop, arith}
use Rattle.std.specs.List.{list_any}
use Rattle.cpg_cube.specs.Cube.{matches}
use Rattle.cpg_audit.proofs.NarrowingLaws.{one_before}
use Rattle.cpg_audit.proofs.narrowing.narrow.Goals as goal

-- the cube matches just where a literal holds, so a scenario that it doesn't match stays when those are taken off
pub loop-place-preserved-in-Where : goal.loop-place-preserved-in-Where
loop-place-preserved-in-Where c = record {
  within = omega (arith, c.loop-place.invariant.within);
  left = λ s off lies.
      let parts = one_before (λ b. matches b.now s) c.args.by.now c.loop-place.place c.index-by-place.result
      c.loop-place-test.true c.loop-place.invariant.within c.index-by-place.is off in
      let old = c.loop-place.invariant.left s parts.0 lies in
      c.exclude.ensures s old (sym (rw c.literals.ensures.literals at c.in-Where.ensures s old) ∙ parts.1);
}

-- the cube matches nowhere in the space, or it isn't known where: the space stays as it is
pub loop-place-preserved : goal.loop-place-preserved
loop-place-preserved c = record {
  within = omega (arith, c.loop-place.invariant.within);
  left = λ s off lies.
      let parts = one_before (λ b. matches b.now s) c.args.by.now c.loop-place.place c.index-by-place.result
      c.loop-place-test.true c.loop-place.invariant.within c.index-by-place.is off in
      c.loop-place.invariant.left s parts.0 lies;
}

-- the place is 0, so all cubes are gone over
pub returns : goal.returns
returns c s off lies =
    let first : c.loop-place.place ≡ 0 = omega (arith, c.loop-place-test.false) in
    c.loop-place.invariant.left s (ap (λ k. list_any (λ b. matches b.now s) (drop k c.args.by.now)) first ∙ off) lies
