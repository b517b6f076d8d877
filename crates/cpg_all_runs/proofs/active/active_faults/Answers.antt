-- Proof of `active_faults`: `active_fault` of each process, in the order of their numbers.
use Rattle.cpg_base.proofs.Lists.{map_below_push}
use Rattle.cpg_all_runs.specs.Active.{active_fault}
use Rattle.cpg_all_runs.proofs.active.active_faults.Goals as goal

-- the number of one more process is added
pub loop-process-preserved : goal.loop-process-preserved
loop-process-preserved c = map_below_push (active_fault c.args.problem.now c.args.scenario.now)
    c.loop-process.numbers.items c.push.new.self.items c.active_fault.result c.loop-process.process
    c.loop-process.invariant c.active_fault.ensures c.in_ok-push.ensures.items
