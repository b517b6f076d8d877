-- Proof of `at_items`, which returns the value at the leaf that a scenario comes to in a tree, given as its list.
use Rattle.std.proofs.Common.{arith}
use Rattle.cpg_tree.proofs.AtLaws.{at_leaf, at_below, at_above}
use Rattle.cpg_tree.proofs.at.+at_items.Goals as goal

-- a leaf has one value, to which each scenario comes
pub returns-in-Value : goal.returns-in-Value
returns-in-Value g t c n are =
    at_leaf c.args.items.now n are c.args.scenario.now c.in-Value.value c.in-Value.ensures.shows

-- the scenario's number is at most the cut, so its value is that of the side below
pub returns-then-number-cut : goal.returns-then-number-cut
returns-then-number-cut g t c n are =
    -- what the top shows: the trees of both sides (0, 1), and that the lists are theirs (2, 3) and their fork's (4)
    let shows = c.in-Cut.ensures.shows in
    at_below c.args.items.now n are c.args.scenario.now c.in-Cut.variable c.in-Cut.cut shows.0 shows.1 shows.4
    c.at_items.result (omega (arith, c.number.ensures, c.if-number-cut.true))
    (c.at_items.ensures shows.0 shows.2)

-- the scenario's number is above the cut, so its value is that of the side above
pub returns-else-number-cut : goal.returns-else-number-cut
returns-else-number-cut g t c n are =
    -- what the top shows: the trees of both sides (0, 1), and that the lists are theirs (2, 3) and their fork's (4)
    let shows = c.in-Cut.ensures.shows in
    at_above c.args.items.now n are c.args.scenario.now c.in-Cut.variable c.in-Cut.cut shows.0 shows.1 shows.4
    c.at_items-else-number-cut.result (omega
    (arith, c.number.ensures, c.if-number-cut.false)) (c.at_items-else-number-cut.ensures shows.1 shows.3)
