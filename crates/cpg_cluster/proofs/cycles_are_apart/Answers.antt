-- Proof of `cycles_are_apart`: what nodes do in one cycle is over before a node does anything in a later one. Cycles begin
-- at multiples of one cycle time.
use Rattle.cpg_cluster.proofs.Cycles.{cycles_are_apart as law}
use Rattle.cpg_cluster.proofs.cycles_are_apart.Goals as goal

-- `cycles_are_apart` of `Cycles` proves this law
pub returns : goal.returns
returns c = law
