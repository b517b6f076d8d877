-- Proof of `node_hears`: the rows that a node hears.
use Rattle.std.proofs.Common.{◌∙◌, ap, refl}
use Rattle.cpg_base.specs.Graph.{item_count}
use Rattle.cpg_head.specs.GraphHead.{head_of}
use Rattle.cpg_table.specs.Items.{ItemLists, hears_of, lists_of}
use Rattle.cpg_table.proofs.NodeRows.{all_below, hear_below}
use Rattle.cpg_table.proofs.assembling.node_hears.Goals as goal

-- what a node hears under the graph's head is an item of the graph
pub all_heard-requires-clause-items : goal.all_heard-requires-clause-items
all_heard-requires-clause-items c =
    let problem = c.args.problem.now in
    all_below (item_count problem) (item_count problem) c.hears.result.now (hears_of (head_of problem) c.args.node) refl
    (c.hears.ensures
    ∙ ap (λ (i : ItemLists). i.hears) (c.in_ok-items.ensures ∙ ap (λ h. lists_of h c.args.node) c.requires.head))
    (hear_below problem c.nodes-nodes.ensures.within c.args.node c.requires.node)
