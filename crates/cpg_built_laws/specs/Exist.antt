-- What the law promises: rows that a builder may find, and tables with these rows.
use Rattle.std.specs.Prelude.{ℕ, List, Option}
use Rattle.cpg_base.specs.Graph.{Graph}
use Rattle.cpg_order.specs.Urgency.{IsTopological}
use Rattle.cpg_reach.specs.Wide.{IsNarrow}
use Rattle.cpg_rules.specs.Admission.{IsAdmitted}
use Rattle.cpg_rules.specs.Guards.{Guards}
use Rattle.cpg_table.specs.Lawful.{Tables}
use Rattle.cpg_table.specs.Table.{Row}
use Rattle.cpg_table.specs.Writing.{AreTablesWith}
use Rattle.cpg_run.specs.Found.{AreRowsFound, DoRowsFit}
use Rattle.cpg_run.specs.Frozen.{AreFrozenTimes}

-- There are rows with the times of the order's runs, none of which exceeds the limits of columns, and tables with
-- these rows.
pub record HasTables (g : Graph) (urgency order : List ℕ) (frozen : List (Option ℕ)) : Type 0 where
  -- the rows have what the runs under the order and these frozen times ask for
  pub rows : List Row
  pub found : AreRowsFound g urgency order frozen rows
  -- no row has too many columns, nor have the rows of all tables together
  pub fit : DoRowsFit g rows
  -- the tables have these rows and no others
  pub tables : Tables
  pub written : AreTablesWith g rows tables

-- An admitted graph has such tables under each topological order in which no item is too wide by its views, with the
-- frozen times of that order.
abbrev pub TablesExist : Type 0
TablesExist = (g : Graph) (urgency order : List ℕ) (guards : Guards) (frozen : List (Option ℕ)) →
    IsAdmitted g urgency guards → IsTopological g order →
    IsNarrow g order → AreFrozenTimes g order frozen → HasTables g urgency order frozen
