-- Proof of `are_in_slots`: whether for each of these columns a slot of a node starts at its time, or no scenario
-- matches it.
use Rattle.std.proofs.Common.{◌≡◌, true}
use Rattle.std.proofs.lemmas.Bool.{OnTrue_at}
use Rattle.cpg_base.specs.Bus.{next_slot}
use Rattle.cpg_base.specs.Scenario.{Scenario, IsScenario}
use Rattle.cpg_cube.specs.Cube.{matches}
use Rattle.cpg_cube.specs.declared.column.Column.{Column}
use Rattle.cpg_violation.proofs.SureLaws.{each_all, each_more}
use Rattle.cpg_check_quick.proofs.slots.are_in_slots.Goals as goal

-- the test passed for the next column, so what it guarantees holds of one column more
pub loop-column-preserved : goal.loop-column-preserved
loop-column-preserved c = each_more (λ (d : Column). (s : Scenario) → IsScenario c.args.problem.now s →
    matches d.cube s ≡ true → next_slot c.args.problem.now c.args.node d.time ≡ d.time)
    c.args.columns.now c.loop-column.column-index c.column-item.result c.loop-column-test.true c.column-item.is
    c.loop-column.invariant (OnTrue_at c.if-not-is_in_slot.false c.is_in_slot.ensures)

-- the loop has gone over all columns, so what its invariant says of those so far holds of each
pub returns : goal.returns
returns c = each_all (λ (d : Column). (s : Scenario) → IsScenario c.args.problem.now s → matches d.cube s ≡ true →
    next_slot c.args.problem.now c.args.node d.time ≡ d.time)
    c.args.columns.now c.loop-column.column-index c.loop-column-test.false c.loop-column.invariant
