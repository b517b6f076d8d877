-- Loops of `InputRows::are_early`: whether what each of these inputs comes by is over by a time even if it begins by
-- its last column and lasts longest.
use Rattle.std.proofs.Common.{List, All, take}
use Rattle.cpg_base.specs.Scenario.{Scenario, IsScenario}
use Rattle.cpg_table.specs.Table.{NodeTable}
use Rattle.cpg_check_quick.specs.Inputs.{IsInputOver, AreInputRows}
use Rattle.cpg_check_quick.proofs.input_rows.InputRows.are_early.Given as goal

-- in each scenario, what each input so far comes by is over by `time`
abbrev pub invariant-loop-edge : goal.invariant-loop-edge
invariant-loop-edge l = (tables : List NodeTable) (s : Scenario) →
    AreInputRows l.self.admitted.now.graph tables l.self →
    IsScenario l.self.admitted.now.graph s →
    All (λ e. IsInputOver l.self.admitted.now.graph tables e l.time s) (take l.edge-index l.edges)
