-- Proof of `Bounds::raise`, which raises each low to that of a cube, if the cube's is greater.
use Rattle.std.proofs.Common.{rules, arith}
use Rattle.cpg_cube.proofs.BoundSteps.{raised_push}
use Rattle.cpg_cube.proofs.bounds.Bounds.raise.Goals as goal

-- with the low of the next literal raised, the lows are raised by one literal more
pub loop-literal-preserved : goal.loop-literal-preserved
loop-literal-preserved c =
    let invariant = c.loop-literal.invariant in
    record {
      raised = rw c.max.ensures (raised_push c.args.literals.now c.loop-literal.literal-index _ c.requires
          (omega arith) c.args.self.now.low c.loop-literal.self.low invariant.long (search rules) invariant.raised);
      long = search rules;
    }
