-- Proof of `Space::most`, which returns the greatest number that a variable can have, by its range and the faults left.
use Rattle.std.proofs.Common.{rules}
use Rattle.cpg_tree.proofs.Spaces.{count_le}
use Rattle.cpg_tree.proofs.space.Space.most.Goals as goal

-- a value is at most the high
pub returns-then-variable-ge-FIRST_VALUE : goal.returns-then-variable-ge-FIRST_VALUE
returns-then-variable-ge-FIRST_VALUE c s lies = lies.high c.args.variable (search rules)

-- the high is not above the low, so it is the one number
pub returns-then-high-low : goal.returns-then-high-low
returns-then-high-low c s lies = lies.high c.args.variable (search rules)

-- the faults that are left reach from the low to the high
pub returns-then-high-low-2 : goal.returns-then-high-low-2
returns-then-high-low-2 c s lies = lies.high c.args.variable (search rules)

-- they reach less far: a count is at most the low and the faults that are left
pub returns : goal.returns
returns c s lies = count_le c.args.self.now s lies c.args.variable 0 (search rules) c.if-variable-ge-FIRST_VALUE.false
