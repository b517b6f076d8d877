-- Proof of `active_numbers`: `active_fault` of each process and then `active_value` of each condition.
use Rattle.std.proofs.Common.{map}
use Rattle.cpg_base.specs.Numbers.{numbers_below}
use Rattle.cpg_base.specs.Graph.{process_count}
use Rattle.cpg_all_runs.specs.Active.{active_fault, active_value}
use Rattle.cpg_all_runs.proofs.Placed.{map_below_after}
use Rattle.cpg_all_runs.proofs.active.active_numbers.Goals as goal

-- the number of one more condition is added behind those of the processes
pub loop-condition-preserved : goal.loop-condition-preserved
loop-condition-preserved c =
    let g = c.args.problem.now in
    map_below_after (active_value g c.args.scenario.now)
    (map (active_fault g c.args.scenario.now) (numbers_below (process_count g)))
    c.loop-condition.numbers.items c.push.new.self.items c.active_value.result c.loop-condition.condition
    c.loop-condition.invariant c.active_value.ensures c.in_ok-push.ensures.items
