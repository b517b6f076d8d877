-- Proof of `fewest_of_cube`, which returns how many faults a scenario has at least if a cube doesn't match it: the
-- least of its literals' numbers, and 255 for the cube without literals, which always matches.
use Rattle.std.proofs.Common.{arith}
use Rattle.cpg_cover.proofs.FewestLaws.{outside_more}
use Rattle.cpg_cover.proofs.fewest.fewest_of_cube.Goals as goal

-- a scenario outside of the cube fails a literal so far or this one, so the lesser of both bounds holds
pub loop-literal-preserved : goal.loop-literal-preserved
loop-literal-preserved c = rw c.min-fewest.ensures
    (outside_more c.literals-literal-items.result.now c.loop-literal.literal-index _ c.loop-literal.fewest
    c.fewest_of_literal.result
    (omega arith) c.loop-literal.invariant c.fewest_of_literal.ensures.count c.fewest_of_literal.ensures.fewest)
