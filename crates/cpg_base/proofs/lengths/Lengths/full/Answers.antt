-- Proof of `Lengths::full`: returns the longest executions of a scenario: for each process, its duration with its
-- fault count in the scenario.
use Rattle.std.proofs.Common.{◌∙◌, ap}
use Rattle.cpg_base.specs.Duration.{duration}
use Rattle.cpg_base.specs.Scenario.{fault_of}
use Rattle.cpg_base.proofs.Lists.{map_below_push}
use Rattle.cpg_base.proofs.lengths.Lengths.full.Goals as goal

-- one more process has its longest execution
pub loop-process-preserved : goal.loop-process-preserved
loop-process-preserved c =
    map_below_push (λ p. duration c.args.problem.now p (fault_of c.args.scenario.now p)) c.loop-process.lengths.items
    c.push.new.self.items c.duration.result c.loop-process.process
    c.loop-process.invariant (c.duration.ensures.duration
    ∙ ap (duration c.args.problem.now c.loop-process.process) c.fault.ensures) c.in_ok-push.ensures.items
