-- Proof of `retuned_show_no_fault`: with other parts and another fault number an admitted graph isn't refused, except
-- that memory may run out.
use Rattle.cpg_tune.specs.Retuned.{retuned}
use Rattle.cpg_tune.proofs.Kept.{keeps_rules, no_fault}
use Rattle.cpg_tune.proofs.retuned_show_no_fault.Goals as goal

-- each fault would break a rule that the retuned graph keeps
pub returns : goal.returns
returns c = λ g order guards is parts faults one_each.
    no_fault g (retuned g parts faults) order guards is (keeps_rules g parts faults one_each)
