-- Proof of `put_nodes`, which puts the rows of each node, one after another.
use Rattle.std.proofs.Common.{subst, sym}
use Rattle.std.proofs.lemmas.Result.{err_from_is_err_and}
use Rattle.cpg_codec.proofs.Puts.{Puts-failed, item_fails}
use Rattle.cpg_packing.specs.PackBytes.{AreItemsWithin, node_bytes}
use Rattle.cpg_packing.proofs.packing.put_nodes.Goals as goal

-- the items of this node are the graph's, as those of all nodes are
pub put_node-requires-clause-items : goal.put_node-requires-clause-items
put_node-requires-clause-items g c =
    subst (AreItemsWithin c.args.problem.now) (sym c.items-item.is)
    (c.requires.items c.loop-items.items-index c.items-item.result c.loop-items-test.true)

-- the sink took a proper prefix of the nodes before this one and of this one, and so one of all
pub returns-in_err-put_node-clause-put : goal.returns-in_err-put_node-clause-put
returns-in_err-put_node-clause-put g c =
    let p = err_from_is_err_and c.from_residual.result c.from_residual.ensures.1 in
    Puts-failed _ _ _ _ _ c.from_residual.result p.0 p.1
    (item_fails (node_bytes c.args.problem.now c.args.rows.now) _ _ _ _ _ c.args.nodes.now c.loop-items.items-index
    c.items-item.result c.items-item.is c.loop-items-test.true
    c.loop-items.invariant.put c.in_err-put_node.ensures.put)
