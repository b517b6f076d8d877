-- Proof of `admitted_show_no_fault`: a graph that keeps all rules shows no fault but that memory runs out.
use Rattle.cpg_rules.proofs.Exact.{no_fault}
use Rattle.cpg_rules.proofs.admitted_show_no_fault.Goals as goal

-- each fault but `OutOfMemory` shows a rule broken that an admitted graph keeps
pub returns : goal.returns
returns c = no_fault
