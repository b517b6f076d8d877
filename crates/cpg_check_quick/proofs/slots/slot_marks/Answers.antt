-- Proof of `slot_marks`: a mark for each item, by number: whether V7 is known to hold there.
use Rattle.cpg_table.specs.declared.rule.Rule.{Rule}
use Rattle.cpg_violation.proofs.SureLaws.{one_more}
use Rattle.cpg_check_quick.proofs.slots.slot_marks.Goals as goal

-- if the mark of the next item is set, V7 is sure there, as `has_own_slots` says
pub loop-item-preserved : goal.loop-item-preserved
loop-item-preserved c = rw c.in_ok-push.ensures.items
    (one_more c.args.admitted.now.graph c.args.tables.now.nodes Rule.Slot c.loop-item.item c.loop-item.marks.items
    c.in_ok-is_sure.is_sure c.loop-item.invariant c.in_ok-is_sure.ensures)

-- the loop has gone over all items, so each that is marked is sure
pub returns : goal.returns
returns c = c.loop-item.invariant.sure
