-- Proof of `Space::lower`, which narrows the space to the scenarios in which a variable is at most `high`.
use Rattle.std.proofs.Common.{rules}
use Rattle.cpg_tree.proofs.Spaces.{lies_below}
use Rattle.cpg_tree.proofs.space.Space.lower.Goals as goal

-- a scenario whose number is at most the high stays in the space
pub returns-clause-lies : goal.returns-clause-lies
returns-clause-lies c s lies h =
    lies_below c.args.self.now s lies c.args.variable c.args.high (search rules) (search rules) h
