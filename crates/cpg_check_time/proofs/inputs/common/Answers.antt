-- Proof of `common`: the cube that matches where two cubes both do; `None` exactly if their ranges of some variable
-- have no number in common.
use Rattle.std.proofs.Common.{◌≡◌, ◌&&◌, ◌∙◌, false, sym, subst}
use Rattle.cpg_base.specs.Scenario.{Scenario}
use Rattle.cpg_cube.specs.Cube.{matches}
use Rattle.cpg_cube.specs.Fit.{IsKnown}
use Rattle.cpg_check_time.proofs.CommonCubes.{common_more, common_none, known_more}
use Rattle.cpg_check_time.proofs.inputs.common.Goals as goal

-- one literal of the other cube leaves no number, so no scenario matches both cubes
pub returns-in_default-clause-none : goal.returns-in_default-clause-none
returns-in_default-clause-none c =
    let none = rw c.in_default.is at c.in_ok-next.ensures.none in
    subst (λ other. (s : Scenario) → (matches c.args.cube.now s && matches other s) ≡ false)
    c.literals-literal-items.ensures.literals
    (common_none c.args.cube.now c.literals-literal-items.result.now c.loop-literal.part c.loop-literal.literal-index
    (record { variable = 0; low = 0; high = 0 }) c.loop-literal-test.true c.loop-literal.invariant.both none)

-- narrowed by the next literal, the part matches exactly where the cube and one literal more do
pub loop-literal-preserved : goal.loop-literal-preserved
loop-literal-preserved c =
    let both = rw c.in-Some.is at c.in_ok-next.ensures.both in
    record {
      both = common_more c.args.cube.now c.literals-literal-items.result.now c.loop-literal.part
          c.loop-literal.literal-index
          (record { variable = 0; low = 0; high = 0 }) c.loop-literal-test.true c.loop-literal.invariant.both
          c.in-Some.next both;
      known = λ g a b. known_more g c.loop-literal.part c.literals-literal-items.result.now c.in-Some.next
          c.loop-literal.literal-index
          (record { variable = 0; low = 0; high = 0 }) c.loop-literal-test.true
          (c.loop-literal.invariant.known g a b) (subst (IsKnown g) (sym c.literals-literal-items.ensures.literals) b)
          (sym c.in_ok-next.ensures.cube ∙ c.in-Some.is);
    }
