-- Loops of `SpannedRows::end_before`: whether each of these items is over by the time of another, which has a tree,
-- wherever a column of each matches.
use Rattle.std.proofs.Common.{ℕ, ◌≡◌, List, All, Some, take}
use Rattle.cpg_base.specs.Graph.{Graph}
use Rattle.cpg_base.specs.Scenario.{Scenario}
use Rattle.cpg_table.specs.Table.{NodeTable}
use Rattle.cpg_check_quick.specs.SpannedRows.{AreSpannedRows, IsSpannedRow}
use Rattle.cpg_check_quick.specs.Order.{IsOver}
use Rattle.cpg_check_quick.proofs.spanned_rows.SpannedRows.end_before.Given as goal

-- each item so far is over by the time of the other, wherever a column of each matches
abbrev pub invariant-loop-item : goal.invariant-loop-item
invariant-loop-item l = (g : Graph) (tables : List NodeTable) (lasts : ℕ → Scenario → ℕ) (long : Scenario → ℕ) (x : ℕ) →
    AreSpannedRows lasts g tables l.self → IsSpannedRow g tables long x l.row →
    l.row.tree.now ≡ Some l.tree →
    All (λ y. IsOver lasts g tables y x) (take l.item-index l.items)
