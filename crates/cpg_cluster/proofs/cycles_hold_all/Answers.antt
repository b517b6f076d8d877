-- Proof of `cycles_hold_all`: all that nodes do in a play of valid tables is over by the end of its cycle.
use Rattle.cpg_cluster.proofs.Cycles.{cycles_hold_all as law}
use Rattle.cpg_cluster.proofs.cycles_hold_all.Goals as goal

-- `cycles_hold_all` of `Cycles` proves this law
pub returns : goal.returns
returns c = law
