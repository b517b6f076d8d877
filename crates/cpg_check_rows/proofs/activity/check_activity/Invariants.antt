-- Loops of `check_activity`: the first violation of V1, by item and column, with the least scenario in the urgency
-- order in which it occurs: the column matches, and the item or the process of one of the column's literals isn't
-- active.
use Rattle.std.proofs.Common.{ℕ, ◌≡◌, ◌<◌, false, Option}
use Rattle.cpg_base.specs.Scenario.{Scenario, IsScenario}
use Rattle.cpg_table.specs.Valid.{breaks}
use Rattle.cpg_table.specs.declared.rule.Rule.{Rule}
use Rattle.cpg_check_rows.proofs.activity.check_activity.Given as goal

-- V1 is broken in no scenario at any item so far, whatever the column
abbrev pub invariant-loop-item : goal.invariant-loop-item
invariant-loop-item l = (x : ℕ) (column : Option ℕ) (s : Scenario) → x < l.item → IsScenario l.admitted.graph s →
    breaks Rule.Activity l.admitted.graph l.tables.nodes s x column ≡ false
