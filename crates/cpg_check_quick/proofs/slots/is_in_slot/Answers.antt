-- Proof of `is_in_slot`: whether a slot of a node starts at the time of a column, or no scenario matches the column.
use Rattle.cpg_violation.proofs.SpaceLaws.{not_none}
use Rattle.cpg_check_quick.proofs.slots.is_in_slot.Goals as goal

-- no scenario matches the column, so there is nothing to show
pub returns-in_default : goal.returns-in_default
returns-in_default c = λ s law it_matches.
    absurd (not_none c.args.problem.now c.faults.result c.faults.ensures.faults s law
    c.args.column.now.cube c.literals.result.now c.literals.ensures.literals it_matches
    c.of.result c.in_default.is c.of.ensures.none)
