-- Proof of `best_parts`: returns the best number of parts of each process, by number.
use Rattle.std.proofs.Common.{rules}
use Rattle.cpg_tune.proofs.AsBefore.{best_parts_push}
use Rattle.cpg_tune.proofs.tuning.best_parts.Goals as goal

-- the best parts of one more process are found
pub loop-process-preserved : goal.loop-process-preserved
loop-process-preserved c =
    rw c.in_ok-push.ensures.items
    (best_parts_push c.args.problem.now c.loop-process.process c.best_parts_at.result c.loop-process.parts.items
    (search rules) c.loop-process.invariant c.best_parts_at.ensures.parts)
