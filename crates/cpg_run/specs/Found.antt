-- What a builder finds about a graph before it writes the tables, and what it then answers.
use Rattle.std.specs.Prelude.{ℕ, ◌*◌, ◌≡◌, ◌≤◌, ◌<◌, false, All, List, Option, length, map, sum_by}
use Rattle.cpg_base.specs.Numbers.{numbers_below}
use Rattle.cpg_base.specs.Graph.{Graph, item_at, item_count}
use Rattle.cpg_base.specs.declared.limits.TheConstants.{MOST_COLUMNS, MOST_LOAD}
use Rattle.cpg_base.specs.Limits.{IsWithinLimits}
use Rattle.cpg_order.specs.Reach.{Reach, IsReach, is_too_wide, rows_of_item}
use Rattle.cpg_table.specs.Shape.{items_of}
use Rattle.cpg_table.specs.Table.{Row}
use Rattle.cpg_cube.specs.declared.column.Column.{Column}
use Rattle.cpg_table.specs.Writing.{AreWritable, AreTablesWith, row_for}
use Rattle.cpg_run.specs.declared.built.Built.{Built}
use Rattle.cpg_run.specs.Alike.{Admitted}
use Rattle.cpg_run.specs.Built.{IsBuiltFor}
use Rattle.cpg_run.specs.Carrying.{AreCarrying}
use Rattle.cpg_run.specs.Finish.{IsWorst, IsExcess}
use Rattle.cpg_run.specs.Frozen.{AreFrozenTimes}
use Rattle.cpg_run.specs.Known.{AreEarly}

-- the columns of each row
abbrev pub columns_of_rows : List Row → List (List Column)
columns_of_rows rows = map (λ (r : Row). r.columns) rows

-- the frozen times of the graph, and a row for each item
pub record AreRowsFound (g : Graph) (urgency order : List ℕ) (frozen : List (Option ℕ)) (rows : List Row) : Type 0 where
  -- the frozen times are those of the graph
  pub frozen_times : AreFrozenTimes g order frozen
  -- each frozen time is below 2 ^ 58, so that sums of times don't overflow
  pub early : AreEarly frozen
  -- a row for each item, by number
  pub items : items_of rows ≡ numbers_below (item_count g)
  -- a column says no more than what is carried beside its time
  pub found : AreCarrying g urgency order frozen (columns_of_rows rows)

-- what a builder has found: tables with these rows, and the greatest finish and excess of the runs
pub record AreTablesFound (g : Graph) (urgency order : List ℕ) (rows : List Row) (b : Built) : Type 0 where
  -- the frozen times are those of the graph, and each item has a row
  pub found : AreRowsFound g urgency order b.frozen rows
  -- the tables have these rows, and the head of the graph
  pub written : AreTablesWith g rows b.tables
  -- the greatest finish, with the least scenario and process that have it
  pub worst : IsWorst g urgency order b.frozen b.worst b.worst_in b.worst_by
  -- how far an end is past its due at most, with the least scenario and process that have it
  pub excess : IsExcess g urgency order b.frozen b.excess b.excess_in b.excess_by

-- no item is too wide, whichever reach of the graph is taken
abbrev pub NoneIsTooWide : Graph → List ℕ → Type 0
NoneIsTooWide g order = (r : Reach) → IsReach g order r → (x : ℕ) → x < item_count g → is_too_wide g r x ≡ false

-- each row has few enough columns, and so have all rows of all nodes together
pub record DoRowsFit (g : Graph) (rows : List Row) : Type 0 where
  -- no row has more than the limit
  pub few : All (λ row. length row.columns ≤ MOST_COLUMNS) rows
  -- an item's columns count once for each row that they are in: at the node that starts or sends it, and at each that
  -- hears it
  pub loads : sum_by (λ x. length (row_for rows x).columns * rows_of_item g (item_at g x))
      (numbers_below (item_count g)) ≤ MOST_LOAD

-- rows that are found fit if no item is too wide
abbrev pub FoundRowsFit : Type 0
FoundRowsFit = (g : Graph) (urgency order : List ℕ) (frozen : List (Option ℕ)) (rows : List Row) → IsWithinLimits g →
    Admitted g urgency order →
    AreRowsFound g urgency order frozen rows → NoneIsTooWide g order → DoRowsFit g rows

-- rows that are found can be written if they fit
abbrev pub FoundRowsAreWritable : Type 0
FoundRowsAreWritable = (g : Graph) (urgency order : List ℕ) (frozen : List (Option ℕ)) (rows : List Row) →
    IsWithinLimits g → Admitted g urgency order →
    AreRowsFound g urgency order frozen rows → DoRowsFit g rows → AreWritable g rows

-- tables that are found have all that a builder promises
abbrev pub FoundTablesAreBuilt : Type 0
FoundTablesAreBuilt =
    (g : Graph) (urgency order : List ℕ) (rows : List Row) (b : Built) → IsWithinLimits g → Admitted g urgency order →
    AreTablesFound g urgency order rows b → IsBuiltFor g urgency order b
