-- Loops of `ways_of`: returns, for each number of fault counts up to 128, in how many ways they add up to at most
-- `faults`.
use Rattle.cpg_reach.specs.WaysTable.{AreWays}
use Rattle.cpg_reach.proofs.ways.ways_of.Given as goal

-- the table has for up to 128 counts the ways to add up to at most `limit`
abbrev pub invariant-loop-limit : goal.invariant-loop-limit
invariant-loop-limit l = AreWays l.limit l.table
