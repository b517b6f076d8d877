-- Proof of `sieved_rows_of`: the sieved rows of all items, by number, none of them sifted yet.
use Rattle.std.proofs.Common.{arith, ap, length}
use Rattle.cpg_table.proofs.RowColumns.{columns_few}
use Rattle.cpg_violation.proofs.sieved_rows.sieved_rows_of.Goals as goal

-- a row of lawful tables has at most `MOST_LOAD` columns
pub sieved_row_of-requires : goal.sieved_row_of-requires
sieved_row_of-requires c = omega (
  arith,
  ap length c.columns_of.ensures.columns,
  columns_few c.args.tables.now.head c.args.tables.now.nodes c.columns_of.ensures.lawful c.loop-item.item,
)
