-- What V3 asks of a scenario in which no column of a row matches.
use Rattle.std.specs.Prelude.{ℕ, ◌≡◌, false, Option, None}
use Rattle.cpg_base.specs.Graph.{Graph, item_at}
use Rattle.cpg_base.specs.Activity.{item_active}
use Rattle.cpg_base.specs.Scenario.{Scenario, IsScenario}

-- if `place`, that of the column that matches in scenario `s` of the graph, is `None`, item `x` is inactive in `s`
abbrev pub IsInactiveIfNone : Graph → ℕ → Option ℕ → Scenario → Type 0
IsInactiveIfNone g x place s = place ≡ None → IsScenario g s → item_active g s.values (item_at g x) ≡ false
