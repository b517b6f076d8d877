-- Proof of `generated_have_no_cycle`: the graph of no number has a cycle.
use Rattle.cpg_gen_laws.proofs.Kept.{no_cycle}
use Rattle.cpg_gen_laws.proofs.generated_have_no_cycle.Goals as goal

-- each edge leads to a process of a higher number, so there is no cycle; by proofs/Kept.antt
pub returns : goal.returns
returns c = no_cycle
