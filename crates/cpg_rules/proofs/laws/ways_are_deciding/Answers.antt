-- Proof of `ways_are_deciding`: the way of an outcome through the tree of a process tests exactly the conditions that
-- decide the process in that outcome, in urgency order.
use Rattle.cpg_rules.proofs.Ways.{ways_are_deciding}
use Rattle.cpg_rules.proofs.laws.ways_are_deciding.Goals as goal

-- the lemma of this name is the law
pub returns : goal.returns
returns c = ways_are_deciding
