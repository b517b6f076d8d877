-- Proof of `durations`: returns for each process how long an execution with all faults lasts.
use Rattle.std.proofs.Common.{◌∙◌, ap}
use Rattle.cpg_base.specs.Duration.{duration}
use Rattle.cpg_base.proofs.Lists.{map_below_push}
use Rattle.cpg_tracks.proofs.timing.durations.Goals as goal

-- the duration of one more process is found
pub loop-process-preserved : goal.loop-process-preserved
loop-process-preserved c = map_below_push (λ p. duration c.args.problem.now p c.args.problem.now.faults)
    c.loop-process.durations.items c.push.new.self.items c.duration.result c.loop-process.process
    c.loop-process.invariant
    (c.duration.ensures.duration ∙ ap (λ f. duration c.args.problem.now c.loop-process.process f)
    c.faults-faults.ensures.faults) c.in_ok-push.ensures.items
