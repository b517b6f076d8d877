-- Proof of `beginnings`: for each of these scenarios, progress with nothing known of its run.
use Rattle.cpg_all_runs.proofs.Swept.{beginnings_more}
use Rattle.cpg_all_runs.proofs.sweeping.beginnings.Goals as goal

-- one more scenario of whose run nothing is known is added
pub loop-preserved : goal.loop-preserved
loop-preserved c = beginnings_more c.args.problem.now c.loop.counter c.loop.found.items c.push.new.self.items
    c.in_ok-none.field-0 c.loop.invariant c.in_ok-none.ensures c.in_ok-push.ensures.items
