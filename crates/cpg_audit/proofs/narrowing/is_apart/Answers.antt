-- Proof of `is_apart`: whether a literal holds in no scenario of a space: its range has no number that the space leaves
-- the variable.
use Rattle.std.proofs.Common.{arith}
use Rattle.std.specs.Prelude.{nat_lt}
use Rattle.std.proofs.lemmas.Bool.{OnTrue_from, ltb-true}
use Rattle.cpg_tree.proofs.Holding.{above_high, below_low}
use Rattle.cpg_audit.proofs.narrowing.is_apart.Goals as goal

-- the greatest value of the space is below the literal, so it holds nowhere there
pub returns-then-most-literal : goal.returns-then-most-literal
returns-then-most-literal c = OnTrue_from (nat_lt c.most.result c.args.literal.now.low) _
    (λ e s lies. below_low s c.args.literal.now
    (omega (arith, c.most.ensures s lies, ltb-true c.most.result c.args.literal.now.low e)))

-- the least value of the space is above the literal, so it holds nowhere there
pub returns-else-most-literal : goal.returns-else-most-literal
returns-else-most-literal c = OnTrue_from (nat_lt c.args.literal.now.high c.least.result) _
    (λ e s lies. above_high s c.args.literal.now
    (omega (arith, c.least.ensures s lies, ltb-true c.args.literal.now.high c.least.result e)))
