-- Loops of `first_in_row`: the place of the first column of an item that breaks the judge's rule in some scenario, with
-- the least such scenario.
use Rattle.std.proofs.Common.{ℕ, ◌≡◌, ◌<◌, Some, false}
use Rattle.cpg_base.specs.Scenario.{Scenario, IsScenario}
use Rattle.cpg_table.specs.Valid.{breaks}
use Rattle.cpg_check_time.proofs.judge.first_in_row.Given as goal

-- the rule is broken at no column so far in any scenario
abbrev pub invariant-loop-place : goal.invariant-loop-place
invariant-loop-place g l = (i : ℕ) (s : Scenario) → i < l.place → IsScenario l.admitted.graph s →
    breaks g.J.TimeJudge.rule l.admitted.graph l.tables.nodes s l.item (Some i) ≡ false
