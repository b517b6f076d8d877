-- Loops of `are_in_slots`: whether for each of these columns a slot of a node starts at its time, or no scenario
-- matches it.
use Rattle.std.proofs.Common.{◌≡◌, All, take, true}
use Rattle.cpg_base.specs.Bus.{next_slot}
use Rattle.cpg_base.specs.Scenario.{Scenario, IsScenario}
use Rattle.cpg_cube.specs.Cube.{matches}
use Rattle.cpg_cube.specs.declared.column.Column.{Column}
use Rattle.cpg_check_quick.proofs.slots.are_in_slots.Given as goal

-- at the time of each column so far a slot of the node starts, if a scenario matches the column
abbrev pub invariant-loop-column : goal.invariant-loop-column
invariant-loop-column l = All (λ (c : Column). (s : Scenario) → IsScenario l.problem s → matches c.cube s ≡ true →
    next_slot l.problem l.node c.time ≡ c.time) (take l.column-index l.columns)
