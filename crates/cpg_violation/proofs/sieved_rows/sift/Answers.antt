-- Proof of `sift`: makes the sieve of an item's row part its columns, so that asking the row is quick.
use Rattle.std.proofs.Common.{arith}
use Rattle.cpg_table.proofs.RowColumns.{columns_few}
use Rattle.cpg_violation.proofs.SievedRowLaws.{rows_sifted}
use Rattle.cpg_violation.proofs.sieved_rows.sift.Goals as goal

-- a row of lawful tables has at most `MOST_LOAD` columns
pub sift-requires : goal.sift-requires
sift-requires c = rw c.columns_of.ensures.columns
    (columns_few c.args.tables.now.head c.args.tables.now.nodes c.columns_of.ensures.lawful c.args.item)

-- sifted anew, the row still has the columns of its item, and all other rows are as before
pub returns : goal.returns
returns c = λ items. rows_sifted c.args.tables.now.nodes items c.args.rows.now c.args.item c.index-rows-item.result
    c.sift.new.self (omega (arith, c.if-item-rows.false))
    (rw c.columns_of.ensures.columns at c.in_ok-sift.ensures)
