-- Rows of tables that keep V1 and V2.
use Rattle.std.proofs.Common.{Some}
use Rattle.cpg_table.specs.Table.{columns_of}
use Rattle.cpg_run.proofs.RowLaw.{columns_within_views}
use Rattle.cpg_run.proofs.RowRules.{row_keeps}
use Rattle.cpg_laws.specs.Tables.{FormedRowsHaveFewColumns}

-- a formed row has no more columns than there are ways in which its variables can stand
pub formed_rows_have_few_columns : FormedRowsHaveFewColumns
formed_rows_have_few_columns g tables urgency reached x few activity single inside formed =
    columns_within_views g few reached urgency (columns_of tables x) formed
    (row_keeps g tables x (λ s i law. (activity s law x inside (Some i), single s law x inside (Some i))))
