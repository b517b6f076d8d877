-- Proof of `BuiltRows::assemble`, which returns the tables that are assembled from the rows, with the frozen times and
-- the measures. The one error is `OutOfMemory`.
use Rattle.std.proofs.Common.{refl}
use Rattle.cpg_core.proofs.built_rows.BuiltRows.assemble.Goals as goal

-- the tables are those of the rows, with the frozen times and the measures
pub returns : goal.returns
returns c = record {
  written = c.in_ok-tables.ensures;
  same = refl;
}
