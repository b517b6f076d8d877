-- Loops of `SpannedRows::are_over`: whether each of these items is over by a time in the scenarios of a space, by
-- whichever columns match there.
use Rattle.std.proofs.Common.{ℕ, List, All, take}
use Rattle.cpg_base.specs.Graph.{Graph}
use Rattle.cpg_base.specs.Scenario.{Scenario, IsScenario}
use Rattle.cpg_table.specs.Table.{NodeTable}
use Rattle.cpg_tree.specs.Space.{IsInSpace}
use Rattle.cpg_check_quick.specs.SpannedRows.{AreSpannedRows}
use Rattle.cpg_check_quick.specs.Order.{IsOverBy}
use Rattle.cpg_check_quick.proofs.spanned_rows.SpannedRows.are_over.Given as goal

-- in each scenario of the space, each item so far is over by `time`
abbrev pub invariant-loop-item : goal.invariant-loop-item
invariant-loop-item l = (g : Graph) (tables : List NodeTable) (lasts : ℕ → Scenario → ℕ) (s : Scenario) →
    AreSpannedRows lasts g tables l.self → IsScenario g s → IsInSpace l.space s →
    All (λ y. IsOverBy tables (lasts y s) y l.time s) (take l.item-index l.items)
