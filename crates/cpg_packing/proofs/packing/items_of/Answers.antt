-- Proof of `items_of`, which returns for each of the first `count` nodes what it starts, sends and hears.
use Rattle.cpg_table.specs.Items.{lists_of}
use Rattle.cpg_packing.proofs.MoreItems.{map_more}
use Rattle.cpg_packing.proofs.packing.items_of.Goals as goal

-- the list had the items of the nodes so far, and gets those of this node
pub loop-node-preserved : goal.loop-node-preserved
loop-node-preserved c = map_more (lists_of c.args.head.now) c.loop-node.node c.loop-node.nodes.items
    c.push.new.self.items c.in_ok-items.items c.loop-node.invariant c.in_ok-items.ensures
    c.in_ok-push.ensures.items
