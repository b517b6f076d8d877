-- Loops of `SpannedRows::come_before`: whether each of these items is over by the time of another, which has these
-- columns, wherever a column of each matches.
use Rattle.std.proofs.Common.{ℕ, ◌≡◌, List, All, take, true}
use Rattle.cpg_base.specs.Graph.{Graph}
use Rattle.cpg_base.specs.Scenario.{Scenario, IsScenario}
use Rattle.cpg_cube.specs.Cube.{matches}
use Rattle.cpg_table.specs.Table.{NodeTable}
use Rattle.cpg_cube.specs.declared.column.Column.{Column}
use Rattle.cpg_check_quick.specs.SpannedRows.{AreSpannedRows}
use Rattle.cpg_check_quick.specs.Order.{IsOverBy}
use Rattle.cpg_check_quick.proofs.spanned_rows.SpannedRows.come_before.Given as goal

-- in each scenario, all items are over by the time of each column so far that matches
abbrev pub invariant-loop-column : goal.invariant-loop-column
invariant-loop-column l = (g : Graph) (tables : List NodeTable) (lasts : ℕ → Scenario → ℕ) (s : Scenario) →
    AreSpannedRows lasts g tables l.self → IsScenario g s →
    All (λ (c : Column). matches c.cube s ≡ true → All (λ y. IsOverBy tables (lasts y s) y c.time s) l.items)
    (take l.column-index l.columns)
