-- The rows of all items under an order, and the tables that are assembled from them.
use Rattle.std.specs.Prelude.{ℕ, ◌≡◌, List}
use Rattle.cpg_base.specs.Graph.{Graph}
use Rattle.cpg_table.specs.Lawful.{Tables}
use Rattle.cpg_table.specs.Writing.{AreTablesWith}
use Rattle.cpg_run.specs.declared.built.Built.{Built}
use Rattle.cpg_run.specs.Finish.{IsWorst, IsExcess}
use Rattle.cpg_run.specs.Found.{AreRowsFound, DoRowsFit}
use Rattle.cpg_core.specs.declared.built_rows.BuiltRows.{BuiltRows}

-- `r` is what is built under the order except its tables: the rows are those of its runs, beside its frozen times and
-- measures, and they are within the limits of columns.
pub record AreBuiltRows (g : Graph) (urgency order : List ℕ) (r : BuiltRows) : Type 0 where
  -- they are of this order
  pub same : r.order ≡ order
  -- each row is found under the order and these frozen times
  pub found : AreRowsFound g urgency order r.frozen r.rows.items
  -- no row has too many columns, nor have the rows of all tables together
  pub fit : DoRowsFit g r.rows.items
  -- `worst` is the greatest finish and `excess` the greatest excess, each with the least scenario that has it and the
  -- least process that has it there; an excess of 0 has no process
  pub worst : IsWorst g urgency order r.frozen r.worst.time r.worst.scenario r.worst.process
  pub excess : IsExcess g urgency order r.frozen r.excess.time r.excess.scenario r.excess.process

-- what is built of the rows r: the tables t, beside the frozen times and the measures of r
abbrev pub built_of : BuiltRows → Tables → Built
built_of r t = record {
  tables = t;
  frozen = r.frozen;
  worst = r.worst.time;
  worst_in = r.worst.scenario;
  worst_by = r.worst.process;
  excess = r.excess.time;
  excess_in = r.excess.scenario;
  excess_by = r.excess.process;
}

-- b has tables of the rows r, and their frozen times and measures
pub record IsAssembledOf (g : Graph) (r : BuiltRows) (b : Built) : Type 0 where
  -- the tables have these rows and no others
  pub written : AreTablesWith g r.rows.items b.tables
  -- all else of b is copied from r
  pub same : b ≡ built_of r b.tables
