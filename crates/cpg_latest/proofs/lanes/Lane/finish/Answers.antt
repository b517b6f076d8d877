-- Proof of `Lane::finish`: the greatest end with all the faults, in time units, or 0 if no process is active.
use Rattle.std.proofs.Common.{◌∙◌, max, ap}
use Rattle.cpg_run.specs.Run.{end_in}
use Rattle.cpg_latest.proofs.Found.{greatest_below}
use Rattle.cpg_latest.proofs.lanes.Lane.finish.Goals as goal

-- the greatest over one process more is the greater of the one so far and of the end of this process
pub loop-process-preserved : goal.loop-process-preserved
loop-process-preserved c =
    greatest_below (λ p. end_in c.index-course.result.now.known p) c.loop-process.process c.loop-process.latest
    c.max-latest.result c.loop-process.invariant
    (c.max-latest.ensures ∙ ap (λ v. max c.loop-process.latest v) c.end.ensures)
