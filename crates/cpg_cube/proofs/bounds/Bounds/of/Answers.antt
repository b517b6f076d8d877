-- Proof of `Bounds::of`, which returns the ranges of a cube, given as its literals.
use Rattle.std.proofs.Common.{rules, arith}
use Rattle.cpg_cube.proofs.BoundSteps.{bounds_whole, bounds_push}
use Rattle.cpg_cube.proofs.bounds.Bounds.of.Goals as goal

-- before the first literal each range is whole
pub loop-literal-init : goal.loop-literal-init
loop-literal-init c = record { bounds = bounds_whole; lows = search rules; highs = search rules }

-- with the range of the next literal written, the arrays are the bounds of one literal more
pub loop-literal-preserved : goal.loop-literal-preserved
loop-literal-preserved c =
    let invariant = c.loop-literal.invariant in
    record {
      bounds = bounds_push c.args.literals.now c.loop-literal.literal-index _ c.requires
          (omega arith) c.loop-literal.low c.loop-literal.high invariant.lows invariant.highs
          (search rules) invariant.bounds;
      lows = search rules;
      highs = search rules;
    }
