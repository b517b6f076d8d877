-- The rows of merged entries are found rows.
use Rattle.std.specs.Prelude.{ℕ, ◌≡◌, List, Option}
use Rattle.cpg_base.specs.Numbers.{numbers_below}
use Rattle.cpg_base.specs.Graph.{Graph, item_count}
use Rattle.cpg_table.specs.Shape.{items_of}
use Rattle.cpg_table.specs.Table.{Row}
use Rattle.cpg_run.specs.Found.{columns_of_rows, AreRowsFound}
use Rattle.cpg_run.specs.Known.{AreEarly}
use Rattle.cpg_run.specs.RowLaws.{IsTimed}
use Rattle.cpg_run.specs.Rows.{AreRows}
use Rattle.cpg_run.proofs.ListedRows.{listed_rows_carry}

-- the rows of merged entries of all items, with the frozen times, are what a builder has to find: by `listed_rows_carry` a
-- column says no more than is carried
pub found_rows : (g : Graph) (urgency order : List ℕ) (frozen : List (Option ℕ)) (rows : List Row) →
    IsTimed g urgency order frozen → AreEarly frozen →
    items_of rows ≡ numbers_below (item_count g) →
    AreRows g urgency order frozen (columns_of_rows rows) → AreRowsFound g urgency order frozen rows
found_rows g urgency order frozen rows timed early items are = record {
  frozen_times = timed.frozen_times;
  early = early;
  items = items;
  found = listed_rows_carry g urgency order frozen (columns_of_rows rows) timed are;
}
