-- Proof of `Lane::excess`: how far an end with all the faults is past its due at most, in time units, or 0 if none is.
use Rattle.std.proofs.Common.{◌∙◌, ◌-◌, max, ap, ap₂}
use Rattle.cpg_base.specs.Duration.{due}
use Rattle.cpg_run.specs.Run.{end_in}
use Rattle.cpg_latest.proofs.Found.{greatest_below}
use Rattle.cpg_latest.proofs.lanes.Lane.excess.Goals as goal

-- the greatest over one process more is the greater of the one so far and of the excess of this process
pub loop-process-preserved : goal.loop-process-preserved
loop-process-preserved c =
    greatest_below (λ p. end_in c.index-course.result.now.known p - due c.args.problem.now p) c.loop-process.process
    c.loop-process.most c.max-most.result c.loop-process.invariant
    (c.max-most.ensures ∙ ap (λ v. max c.loop-process.most v)
    (c.saturating_sub.ensures ∙ ap₂ (λ e d. e - d) c.end-end.ensures c.due.ensures))
