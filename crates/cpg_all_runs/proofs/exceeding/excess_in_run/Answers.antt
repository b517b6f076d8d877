-- Proof of `excess_in_run`: how far an end of a run is past its due at most, or 0 if none is.
use Rattle.std.proofs.Common.{◌∙◌, ap₂, max, sym}
use Rattle.cpg_run.specs.Finish.{excess_of}
use Rattle.cpg_all_runs.proofs.Firsts.{greatest_more, the_max}
use Rattle.cpg_all_runs.proofs.exceeding.excess_in_run.Goals as goal

-- the greatest excess so far takes in one more process
pub loop-process-preserved : goal.loop-process-preserved
loop-process-preserved c =
    c.max-most.ensures ∙ the_max c.loop-process.most c.excess_of.result
    ∙ ap₂ max c.loop-process.invariant c.excess_of.ensures
    ∙ sym (greatest_more (excess_of c.args.problem.now c.args.times.now) c.loop-process.process)
