-- Proof of `least_cycles_are_least`: `least_cycle` is the least cycle time: the least after which the tables may be used
-- again.
use Rattle.cpg_cluster.proofs.Cycles.{least_cycles as law}
use Rattle.cpg_cluster.proofs.least_cycles_are_least.Goals as goal

-- `least_cycles` of `Cycles` proves this law: `least_cycle` is a cycle time, and none is less
pub returns : goal.returns
returns c = law
