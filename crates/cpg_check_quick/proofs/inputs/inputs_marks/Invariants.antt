-- Loops of `inputs_marks`: a mark for each item, by number: whether V5 is known to hold there.
use Rattle.cpg_table.specs.declared.rule.Rule.{Rule}
use Rattle.cpg_violation.proofs.SureLaws.{AreSoFar}
use Rattle.cpg_check_quick.proofs.inputs.inputs_marks.Given as goal

-- there is a mark for each item so far, and V5 is sure at each that is marked
abbrev pub invariant-loop-item : goal.invariant-loop-item
invariant-loop-item l = AreSoFar l.admitted.graph l.tables.nodes Rule.Inputs l.item l.marks.items
