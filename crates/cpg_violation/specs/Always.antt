-- Processes and items that are active in every scenario.
use Rattle.std.specs.Prelude.{ℕ, ◌≡◌, ◌<◌, Bool, true, false, List, get_or}
use Rattle.cpg_base.specs.Graph.{Graph, item_at, process_count}
use Rattle.cpg_base.specs.Activity.{active, item_active}
use Rattle.cpg_base.specs.Scenario.{Scenario, IsScenario}

-- process `p` is active in every scenario of the graph
abbrev pub IsAlways : Graph → ℕ → Type 0
IsAlways g p = (s : Scenario) → IsScenario g s → active g s.values p ≡ true

-- each process that is marked is active in every scenario; none is marked past the end of `marks`
abbrev pub AreAlways : Graph → List Bool → Type 0
AreAlways g marks = (p : ℕ) → p < process_count g → get_or marks p false ≡ true → IsAlways g p

-- all processes are active in every scenario
abbrev pub AllAlways : Graph → Type 0
AllAlways g = (p : ℕ) → p < process_count g → IsAlways g p

-- item `x` is active in every scenario of the graph
abbrev pub IsUnconditional : Graph → ℕ → Type 0
IsUnconditional g x = (s : Scenario) → IsScenario g s → item_active g s.values (item_at g x) ≡ true
