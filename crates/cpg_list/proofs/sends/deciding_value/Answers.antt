-- Proof of `deciding_value`: the condition whose value decides whether an item is sent once its process has ended, or
-- `None` if it always is.
use Rattle.std.proofs.Common.{◌≡◌, ◌∙◌, true, is_some, sym, ap, rules}
use Rattle.cpg_base.specs.Graph.{item_at, edge_at, source, producer_of_item}
use Rattle.cpg_base.specs.declared.item.Item.TheVariants.{Message}
use Rattle.cpg_list.proofs.CodeSends.{queue_by, queue_within, value_of}
use Rattle.cpg_list.proofs.sends.deciding_value.Goals as goal

-- what a process sends is an item of the graph
pub item-requires : goal.item-requires
item-requires c = queue_within c.args.problem.now c.args.process c.args.item c.requires.item

-- the item is the message of an edge with a `when`, so the condition of its source decides whether it is sent
pub returns : goal.returns
returns c =
    let graph = c.args.problem.now in
    let item = c.args.item in
    let edge = c.in-Message.edge in
    let at : item_at graph item ≡ Message edge = sym c.item.ensures.item ∙ c.in-Message.is in
    let from : source graph edge ≡ c.args.process =
    ap (producer_of_item graph) (sym at) ∙ queue_by graph c.args.process item c.requires.item in
    let on : is_some (edge_at graph edge).when ≡ true = search rules in
    value_of graph item edge c.args.process at from on c.condition_of.result (sym c.condition_of.ensures)
