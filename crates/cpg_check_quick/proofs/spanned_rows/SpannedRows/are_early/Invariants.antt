-- Loops of `SpannedRows::are_early`: whether each of these items is over by a time even if it begins by its last column
-- and lasts longest.
use Rattle.std.proofs.Common.{ℕ, List, All, take}
use Rattle.cpg_base.specs.Graph.{Graph}
use Rattle.cpg_base.specs.Scenario.{Scenario, IsScenario}
use Rattle.cpg_table.specs.Table.{NodeTable}
use Rattle.cpg_check_quick.specs.SpannedRows.{AreSpannedRows}
use Rattle.cpg_check_quick.specs.Order.{IsOverBy}
use Rattle.cpg_check_quick.proofs.spanned_rows.SpannedRows.are_early.Given as goal

-- in each scenario, each item so far is over by `time`
abbrev pub invariant-loop-item : goal.invariant-loop-item
invariant-loop-item l = (g : Graph) (tables : List NodeTable) (lasts : ℕ → Scenario → ℕ) (s : Scenario) →
    AreSpannedRows lasts g tables l.self → IsScenario g s →
    All (λ y. IsOverBy tables (lasts y s) y l.time s) (take l.item-index l.items)
