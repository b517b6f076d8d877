-- Proof of `shares`: returns the share of each node that has a slot, by node.
use Rattle.cpg_base.proofs.Lists.{map_below_push}
use Rattle.cpg_bus.specs.Plan.{share_if}
use Rattle.cpg_bus.proofs.plan.shares.Goals as goal

-- the share of one more node, or `None` if it has no slot, is added
pub loop-node-preserved : goal.loop-node-preserved
loop-node-preserved c = map_below_push (share_if c.args.problem.now) c.loop-node.shares.items c.push.new.self.items
    c.share_if.result c.loop-node.node c.loop-node.invariant c.share_if.ensures
    c.in_ok-push.ensures.items
