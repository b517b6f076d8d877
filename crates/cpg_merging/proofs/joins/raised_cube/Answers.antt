-- Proof of `raised_cube`, which returns a copy of the cube with `high` as the end of the variable's range.
use Rattle.std.proofs.Common.{arith, sym, subst}
use Rattle.cpg_cube.specs.Cube.{IsRising}
use Rattle.cpg_merging.proofs.MergingCubes.{raised_before}
use Rattle.cpg_merging.proofs.joins.raised_cube.Goals as goal

-- the literals before this one have lower variables, so it can be pushed behind them
pub push-requires : goal.push-requires
push-requires c = record {
  last = raised_before c.args.variable c.args.high c.literals-literal-items.result.now c.loop-literal.literal-index _
      c.loop-literal.raised
      (subst IsRising (sym c.literals-literal-items.ensures.literals) c.literals-literal-items.ensures.rising)
      (omega arith) c.loop-literal.invariant;
}
