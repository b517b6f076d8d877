-- Proof of `Share::of`: returns the share of a node that has a slot.
use Rattle.std.proofs.Common.{◌∙◌, arith}
use Rattle.cpg_bus.specs.Share.{share_of}
use Rattle.cpg_bus.proofs.Shares.{is_share, offset_is, length_is, is_share_of}
use Rattle.cpg_bus.proofs.share.Share.of.Goals as goal

-- the slots before the node's last no longer than the round, which fits 64 bits
pub total-requires : goal.total-requires
total-requires c =
    let share = is_share c.args.problem.now c.args.node c.slots-slots.ensures.within c.requires in
    let before = offset_is c.args.problem.now c.args.node c.unwrap_or-place.result c.slot_index.result
    c.slots-slots.result.now c.slots-slots.ensures.slots c.slot_index.ensures
    c.unwrap_or-place.ensures in
    omega (arith, share.inside, share.short)

-- the share keeps its invariant: its slot is the node's, which takes time and lies in the round
pub invariant_of-result : goal.invariant_of-result
invariant_of-result c =
    is_share_of _ (share_of c.args.problem.now c.args.node)
    (c.total.ensures ∙ offset_is c.args.problem.now c.args.node c.unwrap_or-place.result c.slot_index.result
    c.slots-slots.result.now c.slots-slots.ensures.slots c.slot_index.ensures
    c.unwrap_or-place.ensures)
    (length_is c.args.problem.now c.args.node c.unwrap_or-place.result c.slot_index.result c.slots-slots.result.now
    c.slots-slots.ensures.slots c.slot_index.ensures c.unwrap_or-place.ensures)
    c.round.ensures
    (is_share c.args.problem.now c.args.node c.slots-slots.ensures.within c.requires)
