-- Loops of `check_heard`: the first violation of V4, by item and column, with the least scenario in the urgency order
-- in which it occurs: the column matches, and one of its literals isn't heard at the item's node by the column's time.
use Rattle.std.proofs.Common.{ℕ, ◌≡◌, ◌<◌, false, Option}
use Rattle.cpg_base.specs.Scenario.{Scenario, IsScenario}
use Rattle.cpg_table.specs.Valid.{breaks}
use Rattle.cpg_table.specs.declared.rule.Rule.{Rule}
use Rattle.cpg_check_heard.proofs.heard.check_heard.Given as goal

-- V4 is broken in no scenario at any item so far, whatever the column
abbrev pub invariant-loop-item : goal.invariant-loop-item
invariant-loop-item l = (x : ℕ) (column : Option ℕ) (s : Scenario) → x < l.item → IsScenario l.admitted.graph s →
    breaks Rule.Heard l.admitted.graph l.tables.nodes s x column ≡ false
