-- Proof of `shorn_cube`, which returns a copy of the cube without the literals that have the whole range of their
-- variable.
use Rattle.std.proofs.Common.{arith, sym, subst}
use Rattle.cpg_cube.specs.Cube.{IsRising}
use Rattle.cpg_merging.proofs.MergingCubes.{shorn_before}
use Rattle.cpg_merging.proofs.joins.shorn_cube.Goals as goal

-- the literals that are left before this one have lower variables, so it can be pushed behind them
pub push-requires : goal.push-requires
push-requires c = record {
  last =
      shorn_before c.args.faults c.literals-literal-items.result.now c.loop-literal.literal-index _ c.loop-literal.shorn
      (subst IsRising (sym c.literals-literal-items.ensures.literals) c.literals-literal-items.ensures.rising)
      (omega arith) c.loop-literal.invariant;
}
