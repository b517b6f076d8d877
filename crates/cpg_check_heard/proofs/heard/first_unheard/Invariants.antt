-- Loops of `first_unheard`: the place of the first column of an item's row that matches in a scenario in which the
-- item's node hasn't heard one of the column's literals by its time, with the least such scenario.
use Rattle.std.proofs.Common.{ℕ, ◌≡◌, ◌<◌, false}
use Rattle.cpg_base.specs.Scenario.{Scenario, IsScenario}
use Rattle.cpg_check_heard.specs.Unheard.{is_unheard}
use Rattle.cpg_check_heard.proofs.heard.first_unheard.Given as goal

-- no column so far is unheard in any scenario
abbrev pub invariant-loop-place : goal.invariant-loop-place
invariant-loop-place l = (i : ℕ) (s : Scenario) → i < l.place → IsScenario l.hearing.admitted.now.graph s →
    is_unheard l.hearing.admitted.now.graph l.hearing.tables.now.nodes l.item l.columns i s ≡ false
