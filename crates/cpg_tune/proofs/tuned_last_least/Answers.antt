-- Proof of `tuned_last_least`: with all k faults no execution is shorter in other parts than in the best.
use Rattle.cpg_tune.proofs.AsBefore.{tuned_least}
use Rattle.cpg_tune.proofs.tuned_last_least.Goals as goal

-- each process has its best parts, with which no execution is longer than with others
pub returns : goal.returns
returns c = tuned_least
