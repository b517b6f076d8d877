-- Proof of `runs`: the run of each scenario of a list, in its order, given the result of `first_alike` for the list.
use Rattle.cpg_all_runs.proofs.Measured.{runs_more}
use Rattle.cpg_all_runs.proofs.running.runs.Goals as goal

-- the run of one more scenario is added
pub loop-at-preserved : goal.loop-at-preserved
loop-at-preserved c =
    let found = rw (c.of-setting.ensures.problem, c.of-setting.ensures.order) at c.in_ok-times.ensures in
    runs_more c.args.admitted.now.graph c.args.order.now c.args.frozen.now c.loop-at.at c.args.scenarios.now
    c.loop-at.runs.items c.push.new.self.items c.in_ok-times.times
    c.loop-at.invariant found c.in_ok-push.ensures.items
