-- Proof of `GuardHearing::test`, which returns the tree of when a node has heard what a guard that tests a condition
-- tests on the scenario's way, given the trees of its two sides.
use Rattle.cpg_expand.proofs.GuardTrees.{heard_test}
use Rattle.cpg_expand.proofs.guarded.GuardHearingDescentU64.test.Goals as goal

-- the node has heard the test and what the side that its value picks tests, whichever is later
pub returns-clause-fits : goal.returns-clause-fits
returns-clause-fits c off on of_off of_on =
    heard_test c.args.self.now.problem.now c.args.self.now.forest.now c.args.self.now.node c.args.condition off on
    c.args.no.now c.args.yes.now c.in_ok-further.further c.in_ok-both.both of_off of_on
    c.in_ok-further.ensures.picks c.in_ok-both.ensures.both
