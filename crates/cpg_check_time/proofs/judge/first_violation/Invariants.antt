-- Loops of `first_violation`: the first violation of the judge's rule, by item and column, with the least scenario in
-- the urgency order in which it occurs.
use Rattle.std.proofs.Common.{ℕ, ◌≡◌, ◌<◌, Option, false}
use Rattle.cpg_base.specs.Scenario.{Scenario, IsScenario}
use Rattle.cpg_table.specs.Valid.{breaks}
use Rattle.cpg_check_time.proofs.judge.first_violation.Given as goal

-- the rule is broken at no item so far in any scenario, whatever the column
abbrev pub invariant-loop-item : goal.invariant-loop-item
invariant-loop-item g l = (x : ℕ) (column : Option ℕ) (s : Scenario) → x < l.item → IsScenario l.admitted.graph s →
    breaks g.J.TimeJudge.rule l.admitted.graph l.tables.nodes s x column ≡ false
