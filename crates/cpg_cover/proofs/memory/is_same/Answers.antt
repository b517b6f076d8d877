-- Proof of `is_same`: whether two literals are equal.
use Rattle.std.proofs.Common.{arith}
use Rattle.cpg_cube.proofs.Ranges.{same_literal}
use Rattle.cpg_cover.proofs.memory.is_same.Goals as goal

-- two literals with the same variable, low and high are the same
pub returns : goal.returns
returns c = same_literal c.args.literal.now c.args.other.now (omega arith) (omega arith) (omega arith)
