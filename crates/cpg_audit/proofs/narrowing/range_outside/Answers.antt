-- Proof of `range_outside`: a range that a literal's variable is in, in all scenarios of a space in which the literal
-- doesn't hold. Without such a range nothing is to be shown.
use Rattle.std.proofs.Common.{arith}
use Rattle.cpg_audit.proofs.NarrowingLaws.{above_range, below_range}
use Rattle.cpg_audit.proofs.narrowing.range_outside.Goals as goal

-- the literal begins at or below the least value, so a value outside it lies above it
pub returns-then-literal-most : goal.returns-then-literal-most
returns-then-literal-most c s lies off = above_range s c.args.literal off c.most-most.result
    (omega (arith, c.if-literal-least.true, c.least-least.ensures s lies)) (c.most-most.ensures s lies)

-- the literal ends at or above the greatest value, so a value outside it lies below it
pub returns-then-most-literal : goal.returns-then-most-literal
returns-then-most-literal c s lies off = below_range s c.args.literal off c.least-least.result
    (c.least-least.ensures s lies) (omega (arith, c.if-most-literal.true, c.most-most.ensures s lies))
