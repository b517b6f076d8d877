-- Loops of `are_active`: whether the processes of these literals are all active in each scenario of a space.
use Rattle.std.proofs.Common.{◌≡◌, false, not, take}
use Rattle.std.specs.List.{list_any}
use Rattle.cpg_base.specs.Activity.{active}
use Rattle.cpg_base.specs.Graph.{process_of_variable}
use Rattle.cpg_base.specs.Scenario.{Scenario, IsScenario}
use Rattle.cpg_tree.specs.Space.{IsInSpace}
use Rattle.cpg_check_rows.proofs.quick_activity.are_active.Given as goal

-- in each scenario of the space the process of each literal so far is active
abbrev pub invariant-loop-literal : goal.invariant-loop-literal
invariant-loop-literal l = (s : Scenario) → IsScenario l.admitted.graph s → IsInSpace l.space s →
    list_any (λ l'. not (active l.admitted.graph s.values (process_of_variable l.admitted.graph l'.variable)))
    (take l.literal-index l.literals) ≡ false
