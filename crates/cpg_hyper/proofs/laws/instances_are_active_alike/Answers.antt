-- Proof of `instances_are_active_alike`: if the graph of all instances has a topological order, a process of an
-- instance is active exactly if the part's process is, in what the scenario is for the instance.
use Rattle.cpg_hyper.proofs.Alike.{active_alike}
use Rattle.cpg_hyper.proofs.laws.instances_are_active_alike.Goals as goal

-- a process of an instance is active exactly if its part's process is, by proofs/Alike.antt
pub returns : goal.returns
returns c = active_alike
