-- Proof of `instances_have_conditions`: a process of an instance has a condition exactly if the part's process has one.
use Rattle.cpg_hyper.proofs.Alike.{have_conditions}
use Rattle.cpg_hyper.proofs.laws.instances_have_conditions.Goals as goal

-- a process of an instance has a condition exactly if its part's process has one, by proofs/Alike.antt
pub returns : goal.returns
returns c = have_conditions
