-- Loops of `Listener::are_over`: whether the process of each of these literals is on the node, and over by a time in
-- the scenarios of a space.
use Rattle.std.proofs.Common.{List, All, take}
use Rattle.cpg_base.specs.Scenario.{Scenario, IsScenario}
use Rattle.cpg_cube.specs.declared.literal.Literal.{Literal}
use Rattle.cpg_table.specs.Table.{NodeTable}
use Rattle.cpg_tree.specs.Space.{IsInSpace}
use Rattle.cpg_check_quick.specs.Hearing.{IsOwnOver}
use Rattle.cpg_check_quick.specs.Order.{execution}
use Rattle.cpg_check_quick.specs.Sequences.{AreSequences}
use Rattle.cpg_check_quick.proofs.listening.Listener.are_over.Given as goal

-- in each scenario of the space, the process of each literal so far is on the listener's node and over by `time`
abbrev pub invariant-loop-literal : goal.invariant-loop-literal
invariant-loop-literal l = (tables : List NodeTable) (s : Scenario) →
    AreSequences (execution l.self.admitted.now.graph) l.self.admitted.now.graph tables l.self.sequences.now →
    IsScenario l.self.admitted.now.graph s → IsInSpace l.space s →
    All (λ (m : Literal). IsOwnOver l.self.admitted.now.graph tables l.self.node m.variable l.time s)
    (take l.literal-index l.literals)
