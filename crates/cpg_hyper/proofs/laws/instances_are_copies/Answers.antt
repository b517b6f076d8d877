-- Proof of `instances_are_copies`: the processes of an instance are the copies of its part's processes.
use Rattle.cpg_hyper.proofs.Copies.{are_copies}
use Rattle.cpg_hyper.proofs.laws.instances_are_copies.Goals as goal

-- each process of an instance is the copy of its part's process, by proofs/Copies.antt
pub returns : goal.returns
returns c = are_copies
