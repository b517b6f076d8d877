-- Proof of `generated_show_no_fault`: the graph of every number keeps all rules: it isn't refused, except that memory
-- may run out.
use Rattle.cpg_gen_laws.proofs.Kept.{no_fault}
use Rattle.cpg_gen_laws.proofs.generated_show_no_fault.Goals as goal

-- the graph keeps each rule, so none of the faults can be shown; by proofs/Kept.antt
pub returns : goal.returns
returns c = no_fault
