-- Loops of `slot_marks`: a mark for each item, by number: whether V7 is known to hold there.
use Rattle.cpg_table.specs.declared.rule.Rule.{Rule}
use Rattle.cpg_violation.proofs.SureLaws.{AreSoFar}
use Rattle.cpg_check_quick.proofs.slots.slot_marks.Given as goal

-- there is a mark for each item so far, and V7 is sure at each that is marked
abbrev pub invariant-loop-item : goal.invariant-loop-item
invariant-loop-item l = AreSoFar l.admitted.graph l.tables.nodes Rule.Slot l.item l.marks.items
