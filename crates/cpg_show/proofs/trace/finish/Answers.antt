-- Proof of `finish`: the greatest planned end that any node has come to, in time units; 0 if there is none.
use Rattle.std.proofs.Common.{ap, fold, map, max, ◌∙◌}
use Rattle.cpg_show.proofs.TraceSteps.{one_finish}
use Rattle.cpg_show.proofs.trace.finish.Goals as goal

-- the greatest of the ends so far and of those of this node is the greatest up to this node
pub loop-node-preserved : goal.loop-node-preserved
loop-node-preserved c = one_finish c.args.cluster.now.cluster.ends c.loop-node.node c.loop-node.last
    c.last_of-last.result c.loop-node.invariant
    (c.last_of-last.ensures ∙ ap (λ ends. fold max c.loop-node.last (map (λ e. e.0) ends)) c.ends.ensures)
