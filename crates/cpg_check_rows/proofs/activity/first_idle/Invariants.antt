-- Loops of `first_idle`: the place of the first column of an item's row that breaks V1 in some scenario, with the least
-- such scenario.
use Rattle.std.proofs.Common.{ℕ, ◌≡◌, ◌<◌, false}
use Rattle.cpg_base.specs.Scenario.{Scenario, IsScenario}
use Rattle.cpg_check_rows.specs.Active.{is_idle}
use Rattle.cpg_check_rows.proofs.activity.first_idle.Given as goal

-- no column so far breaks V1 in any scenario
abbrev pub invariant-loop-place : goal.invariant-loop-place
invariant-loop-place l = (i : ℕ) (s : Scenario) → i < l.place → IsScenario l.admitted.graph s →
    is_idle l.admitted.graph l.item l.columns i s ≡ false
