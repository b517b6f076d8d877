-- Proof of `take_off_all`: narrows a space to the scenarios that none of these cubes matches, as far as each depends on
-- one variable, and adds to `kept` those that match something of what is left at their turn.
use Rattle.std.proofs.Common.{rules, ◌≡◌, ◌-◌, ◌∙◌, ◌||◌, ap, drop, arith, Bor, List, subst, sym}
use Rattle.std.specs.List.{list_any}
use Rattle.cpg_cube.specs.Cube.{matches}
use Rattle.cpg_cube.specs.declared.literal.Literal.{Literal}
use Rattle.cpg_cube.specs.Fit.{IsKnown}
use Rattle.cpg_audit.proofs.NarrowingLaws.{before_place}
use Rattle.cpg_audit.proofs.narrowing.take_off_all.Goals as goal

-- with the next cube taken off, the kept cubes match where one cube more does
pub loop-place-preserved : goal.loop-place-preserved
loop-place-preserved c =
    let inv = c.loop-place.invariant in
    let by = c.args.by.now in
    record {
      within = omega (arith, inv.within);
      -- the kept cubes match where they did before or the cube taken off does
      same = λ s leaves.
          let held = list_any (λ b. matches b.now s) c.args.kept.now.items in
          c.in_ok-take_off.ensures.same s (inv.left s leaves)
          ∙ ap (λ b. b || matches c.index-by-place.result.now s) (inv.same s leaves)
          ∙ before_place (λ b. matches b.now s) by c.loop-place.place c.index-by-place.result held
          c.loop-place-test.true inv.within c.index-by-place.is;
      -- what they leave lies in the space
      left = λ s leaves. c.in_ok-take_off.ensures.space s (inv.left s leaves);
      grows = search rules;
      known = λ g all first. c.in_ok-take_off.ensures.known g
          (subst (λ (b : Bor (List Literal)). IsKnown g b.now) (sym c.index-by-place.is) (all (c.loop-place.place - 1)
          c.index-by-place.result (omega (arith, c.loop-place-test.true, inv.within))))
          (inv.known g all first);
    }

-- the place is 0, so all cubes are gone over
pub returns-clause-same : goal.returns-clause-same
returns-clause-same c s leaves =
    let first : c.loop-place.place ≡ 0 = omega (arith, c.loop-place-test.false) in
    c.loop-place.invariant.same s leaves ∙ ap (λ k. list_any (λ b. matches b.now s) c.args.kept.now.items
    || list_any (λ b. matches b.now s) (drop k c.args.by.now)) first
