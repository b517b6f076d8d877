-- Loops of `SpannedRows::are_apart`: whether each of these items and another are apart wherever a column of each
-- matches.
use Rattle.std.proofs.Common.{ℕ, ◌≡◌, List, All, take, true}
use Rattle.cpg_base.specs.Graph.{Graph}
use Rattle.cpg_base.specs.Scenario.{Scenario, IsScenario}
use Rattle.cpg_cube.specs.Cube.{matches}
use Rattle.cpg_table.specs.Table.{NodeTable}
use Rattle.cpg_cube.specs.declared.column.Column.{Column}
use Rattle.cpg_check_quick.specs.SpannedRows.{AreSpannedRows, IsSpannedRow}
use Rattle.cpg_check_quick.specs.Order.{IsApartAt}
use Rattle.cpg_check_quick.proofs.spanned_rows.SpannedRows.are_apart.Given as goal

-- in each scenario, for each column so far that matches: each of the items is over by its time, or begins only when the
-- other one, begun at that time, is over
abbrev pub invariant-loop-column : goal.invariant-loop-column
invariant-loop-column l = (g : Graph) (tables : List NodeTable) (lasts : ℕ → Scenario → ℕ) (x : ℕ) (s : Scenario) →
    AreSpannedRows lasts g tables l.self → IsSpannedRow g tables (lasts x) x l.other →
    IsScenario g s → All (λ (c : Column). matches c.cube s ≡ true →
    All (λ y. IsApartAt tables (lasts y s) y (lasts x s) c.time s) l.items)
    (take l.column-index l.other.columns.now)
