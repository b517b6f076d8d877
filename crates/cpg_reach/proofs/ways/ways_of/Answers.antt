-- Proof of `ways_of`: returns, for each number of fault counts up to 128, in how many ways they add up to at most
-- `faults`.
use Rattle.cpg_reach.proofs.Raising.{ways_first}
use Rattle.cpg_reach.proofs.ways.ways_of.Goals as goal

-- with no fault there is one way for each number of counts
pub loop-limit-init : goal.loop-limit-init
loop-limit-init c = ways_first
