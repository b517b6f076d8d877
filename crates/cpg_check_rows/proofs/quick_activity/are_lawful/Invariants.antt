-- Loops of `are_lawful`: whether for each of these columns an item and the processes of the column's literals are all
-- active wherever the column matches.
use Rattle.std.proofs.Common.{◌≡◌, All, false, true, take}
use Rattle.cpg_base.specs.Scenario.{Scenario, IsScenario}
use Rattle.cpg_cube.specs.Cube.{matches}
use Rattle.cpg_table.specs.Valid.{breaks_activity}
use Rattle.cpg_check_rows.proofs.quick_activity.are_lawful.Given as goal

-- no column so far breaks V1 in a scenario that it matches
abbrev pub invariant-loop-column : goal.invariant-loop-column
invariant-loop-column l = All (λ c. (s : Scenario) → IsScenario l.admitted.graph s → matches c.cube s ≡ true →
    breaks_activity l.admitted.graph s l.item c ≡ false) (take l.column-index l.columns)
