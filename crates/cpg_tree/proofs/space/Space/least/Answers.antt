-- Proof of `Space::least`, which returns the least number that a variable can have.
use Rattle.std.proofs.Common.{rules}
use Rattle.cpg_tree.proofs.space.Space.least.Goals as goal

-- no scenario of the space has a number below the low
pub returns : goal.returns
returns c s lies = lies.low c.args.variable (search rules)
