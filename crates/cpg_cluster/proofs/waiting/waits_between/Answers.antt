-- Proof of `waits_between`: whether a member waits on `sender`, the member with number `other`, before it takes the
-- instant `time`.
use Rattle.std.proofs.Common.{length, ◌∙◌, ap}
use Rattle.std.specs.List.{list_any}
use Rattle.cpg_node.specs.Dispatcher.{zip_with}
use Rattle.cpg_cluster.specs.Keeping.{waits_by}
use Rattle.cpg_cluster.proofs.Arriving.{any_index, index_at}
use Rattle.cpg_cluster.proofs.waiting.waits_between.Goals as goal

-- the arrival times of a sender that the member keeps are in order
pub waits_on-requires : goal.waits_on-requires
waits_on-requires c = (index_at c.args.member.now.node.dispatcher.table.hears c.args.member.now.senders.items
    (length c.args.member.now.arrivals.items) c.args.member.now.arrivals.items c.args.other
    c.index-times.result.now c.as_slice.result.now c.requires.indexed c.requires.other c.index-times.ensures
    c.as_slice.ensures.value).rises

-- The times that the member keeps of the sender are those in the rows of that sender, so one of them makes it wait
-- exactly if a column of such a row does.
pub returns : goal.returns
returns c =
    let member = c.args.member.now in
    c.waits_on.ensures ∙ any_index c.args.time c.next.result c.args.sender.now.slot c.args.other
    member.node.dispatcher.table.hears member.senders.items c.as_slice.result.now
    (index_at member.node.dispatcher.table.hears member.senders.items (length member.arrivals.items)
    member.arrivals.items c.args.other
    c.index-times.result.now c.as_slice.result.now c.requires.indexed c.requires.other
    c.index-times.ensures c.as_slice.ensures.value)
    ∙ ap (λ comes. list_any (λ w. w) (zip_with (waits_by c.args.other c.args.time comes c.args.sender.now.slot)
    member.node.dispatcher.table.hears member.senders.items)) c.next.ensures.next
