-- Proof of `tuned_show_no_fault`: with its best parts and another fault number an admitted graph isn't refused, except
-- that memory may run out.
use Rattle.cpg_tune.proofs.Kept.{tuned_no_fault}
use Rattle.cpg_tune.proofs.tuned_show_no_fault.Goals as goal

-- the best parts are one number for each process, so this is a retuned graph
pub returns : goal.returns
returns c = tuned_no_fault
