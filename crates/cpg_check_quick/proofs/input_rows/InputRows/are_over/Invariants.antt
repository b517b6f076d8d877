-- Loops of `InputRows::are_over`: whether what each of these inputs comes by is over by a time in those scenarios of a
-- space in which the input is live.
use Rattle.std.proofs.Common.{◌≡◌, List, All, take, true}
use Rattle.cpg_base.specs.Activity.{live}
use Rattle.cpg_base.specs.Scenario.{Scenario, IsScenario}
use Rattle.cpg_table.specs.Table.{NodeTable}
use Rattle.cpg_tree.specs.Space.{IsInSpace}
use Rattle.cpg_check_quick.specs.Inputs.{IsInputOver, AreInputRows}
use Rattle.cpg_check_quick.proofs.input_rows.InputRows.are_over.Given as goal

-- in each scenario of the space, what each input so far comes by is over by `time`, if the input is live
abbrev pub invariant-loop-edge : goal.invariant-loop-edge
invariant-loop-edge l = (tables : List NodeTable) (s : Scenario) →
    AreInputRows l.self.admitted.now.graph tables l.self →
    IsScenario l.self.admitted.now.graph s → IsInSpace l.space s →
    All (λ e. live l.self.admitted.now.graph s.values e ≡ true →
    IsInputOver l.self.admitted.now.graph tables e l.time s) (take l.edge-index l.edges)
