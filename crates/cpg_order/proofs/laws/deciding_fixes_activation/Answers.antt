-- Proof of `deciding_fixes_activation`: two outcomes that agree on each condition that decides a process in the first
-- give it the same activation.
use Rattle.cpg_order.proofs.DecidingLaws.{deciding_fixes}
use Rattle.cpg_order.proofs.laws.deciding_fixes_activation.Goals as goal

-- a condition on which the outcomes differ doesn't decide the process, so it can be changed in turn
pub returns : goal.returns
returns c g order urgency a b p la lb agree = deciding_fixes g order urgency a p b la lb agree
