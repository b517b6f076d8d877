-- Tables that are written from rows that are found under an order.
use Rattle.std.specs.Prelude.{ℕ, List, Option}
use Rattle.cpg_base.specs.Graph.{Graph}
use Rattle.cpg_table.specs.Table.{Row}
use Rattle.cpg_table.specs.Lawful.{Tables}
use Rattle.cpg_table.specs.Writing.{AreTablesWith}
use Rattle.cpg_run.specs.Found.{AreRowsFound}

-- the tables are written from some rows, and these are found under the order and the frozen times
pub record AreTablesOfRows (g : Graph) (urgency order : List ℕ) (frozen : List (Option ℕ))
    (tables : Tables) : Type 0 where
  -- the rows from which the tables are written
  pub rows : List Row
  -- a row for each item, which says no more than what is carried beside its times
  pub found : AreRowsFound g urgency order frozen rows
  -- the tables have these rows, and the head of the graph
  pub written : AreTablesWith g rows tables
