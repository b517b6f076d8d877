-- Proof of `cycles_have_the_same_slots`: if a node has a slot, its occurrences have the same times in each cycle,
-- counted from the cycle's begin.
use Rattle.cpg_cluster.proofs.Cycles.{same_slots as law}
use Rattle.cpg_cluster.proofs.cycles_have_the_same_slots.Goals as goal

-- `same_slots` of `Cycles` proves this law
pub returns : goal.returns
returns c = law
