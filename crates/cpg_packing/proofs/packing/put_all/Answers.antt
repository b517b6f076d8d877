-- Proof of `put_all`, which puts the head of a graph, and then the rows of each node.
use Rattle.std.proofs.Common.{◌∙◌, All, subst, sym}
use Rattle.std.specs.List.{flat_map}
use Rattle.std.proofs.lemmas.Result.{err_from_is_err_and}
use Rattle.cpg_codec.specs.Spelling.{head_bytes}
use Rattle.cpg_codec.proofs.Puts.{Puts-then, Puts-first}
use Rattle.cpg_head.specs.GraphHead.{head_of}
use Rattle.cpg_packing.specs.PackBytes.{AreItemsWithin, items_of_nodes, node_bytes}
use Rattle.cpg_packing.proofs.Fitting.{nodes_within}
use Rattle.cpg_packing.proofs.packing.put_all.Goals as goal

-- under the head of a graph the items of each node are the graph's
pub put_nodes-requires-clause-items : goal.put_nodes-requires-clause-items
put_nodes-requires-clause-items g c =
    subst (All (AreItemsWithin c.args.problem.now)) (sym (c.as_slice.ensures.value ∙ c.requires.nodes))
    (nodes_within c.args.problem.now c.nodes-nodes.ensures.within)

-- the sink took only a proper prefix of the head, with which the pack begins
pub returns-in_err-put_head-clause-put : goal.returns-in_err-put_head-clause-put
returns-in_err-put_head-clause-put g c =
    let h = c.args.problem.now in
    let p = err_from_is_err_and c.from_residual.result c.from_residual.ensures.1 in
    Puts-first _ _ _ _ (head_bytes (head_of h)) (flat_map (node_bytes h c.args.rows.now) (items_of_nodes h))
    c.from_residual.result p.0 p.1 (rw c.requires.head at c.in_err-put_head.ensures.put)

-- the head is put, so what becomes of the rows of the nodes becomes of the pack
pub returns-clause-put : goal.returns-clause-put
returns-clause-put g c =
    let h = c.args.problem.now in
    Puts-then _ _ _ _ _ _ (head_bytes (head_of h))
    (flat_map (node_bytes h c.args.rows.now) (items_of_nodes h)) c.put_nodes.result
    (rw c.requires.head at c.in_ok-put_head.ensures.put)
    (rw (c.as_slice.ensures.value, c.requires.nodes) at c.put_nodes.ensures.put)
