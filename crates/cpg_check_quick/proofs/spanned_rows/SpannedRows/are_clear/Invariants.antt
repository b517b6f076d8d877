-- Loops of `SpannedRows::are_clear`: whether each of these items and another, which begins at `time`, are apart
-- whichever columns match.
use Rattle.std.proofs.Common.{ℕ, List, All, take}
use Rattle.cpg_base.specs.Graph.{Graph}
use Rattle.cpg_base.specs.Scenario.{Scenario, IsScenario}
use Rattle.cpg_table.specs.Table.{NodeTable}
use Rattle.cpg_check_quick.specs.SpannedRows.{AreSpannedRows, IsSpannedRow}
use Rattle.cpg_check_quick.specs.Order.{IsApartAt}
use Rattle.cpg_check_quick.proofs.spanned_rows.SpannedRows.are_clear.Given as goal

-- in each scenario, each item so far is over by `time`, or begins only when the other one, begun at `time`, is over
abbrev pub invariant-loop-item : goal.invariant-loop-item
invariant-loop-item l = (g : Graph) (tables : List NodeTable) (lasts : ℕ → Scenario → ℕ) (x : ℕ) (s : Scenario) →
    AreSpannedRows lasts g tables l.self → IsSpannedRow g tables (lasts x) x l.other →
    IsScenario g s → All (λ y. IsApartAt tables (lasts y s) y (lasts x s) l.time s) (take l.item-index l.items)
