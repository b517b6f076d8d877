-- Loops of `check_present`: the first violation of V3, by item, with the least scenario in the urgency order in which
-- it occurs: the item is active and no column of its row matches.
use Rattle.std.proofs.Common.{ℕ, ◌≡◌, ◌<◌, false, Option}
use Rattle.cpg_base.specs.Scenario.{Scenario, IsScenario}
use Rattle.cpg_table.specs.Valid.{breaks}
use Rattle.cpg_table.specs.declared.rule.Rule.{Rule}
use Rattle.cpg_check_rows.proofs.present.check_present.Given as goal

-- V3 is broken in no scenario at any item so far, whatever the column
abbrev pub invariant-loop-item : goal.invariant-loop-item
invariant-loop-item l = (x : ℕ) (column : Option ℕ) (s : Scenario) → x < l.item → IsScenario l.admitted.graph s →
    breaks Rule.Present l.admitted.graph l.tables.nodes s x column ≡ false
