-- Loops of `first_double`: the place of the first column of a row that matches together with an earlier one in some
-- scenario, with the least such scenario.
use Rattle.std.proofs.Common.{ℕ, ◌≡◌, ◌<◌, false}
use Rattle.cpg_base.specs.Scenario.{Scenario, IsScenario}
use Rattle.cpg_check_rows.specs.Single.{is_double}
use Rattle.cpg_check_rows.proofs.single.first_double.Given as goal

-- no column so far matches together with an earlier one in any scenario
abbrev pub invariant-loop-column : goal.invariant-loop-column
invariant-loop-column l =
    (i : ℕ) (s : Scenario) → i < l.column → IsScenario l.problem s → is_double l.columns i s ≡ false
