-- Proof of `Space::lift`, which narrows the space to the scenarios in which a variable is at least `low`.
use Rattle.cpg_base.specs.Scenario.{number_of}
use Rattle.cpg_tree.proofs.Forks.{from_false}
use Rattle.cpg_tree.proofs.Holding.{under, over}
use Rattle.cpg_tree.proofs.space.Space.lift.Goals as goal

-- the space has no number from the low on, so no scenario has one
pub returns-then-not-is_open_above-clause-none : goal.returns-then-not-is_open_above-clause-none
returns-then-not-is_open_above-clause-none c s lies = under c.args.low (number_of s c.args.variable) c.if-low-eq0.false
    (from_false c.is_open_above.result c.if-not-is_open_above.true c.is_open_above.ensures.none s lies)

-- a number that is at least the low is above the cut, which is 1 less
pub returns-clause-lies : goal.returns-clause-lies
returns-clause-lies c s lies h =
    c.raise.ensures.lies s lies (over c.args.low (number_of s c.args.variable) c.if-low-eq0.false h)
