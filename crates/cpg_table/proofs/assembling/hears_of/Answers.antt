-- Proof of `hears_of`: the rows that each node hears.
use Rattle.cpg_table.specs.Writing.{hears_at}
use Rattle.cpg_table.proofs.OwnRows.{view_more}
use Rattle.cpg_table.proofs.assembling.hears_of.Goals as goal

-- the list had the heard rows of the nodes so far, and gets those of this node
pub loop-node-preserved : goal.loop-node-preserved
loop-node-preserved c = view_more (λ h. h.items) (hears_at c.args.problem.now c.args.rows.now) c.loop-node.node
    c.loop-node.all.items c.push.new.self.items c.in_ok-heard.heard c.loop-node.invariant
    c.in_ok-heard.ensures c.in_ok-push.ensures.items
