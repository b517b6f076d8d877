-- Proof of `put_row`, which puts a row: how many columns it has, and then these, each later by a delay.
use Rattle.std.proofs.Common.{length, subst}
use Rattle.std.specs.Int.{w16, to_be_bytes}
use Rattle.std.proofs.lemmas.Result.{err_from_is_err_and}
use Rattle.cpg_codec.specs.Writing.{Puts}
use Rattle.cpg_codec.proofs.Puts.{Puts-then, Puts-first}
use Rattle.cpg_packing.specs.PackBytes.{later_bytes}
use Rattle.cpg_packing.proofs.Fitting.{row_later}
use Rattle.cpg_packing.proofs.rows.put_row.Goals as goal

-- the sink took only a proper prefix of the count, with which the row begins
pub returns-in_err-put_short-clause-put : goal.returns-in_err-put_short-clause-put
returns-in_err-put_short-clause-put g c =
    let columns = c.args.row.now.columns in
    let p = err_from_is_err_and c.from_residual.result c.from_residual.ensures.1 in
    subst (Puts _ _ _ _ c.from_residual.result) (row_later c.args.row.now.item c.args.delay columns)
    (Puts-first _ _ _ _ (to_be_bytes w16 (length columns)) (later_bytes c.args.delay columns) c.from_residual.result p.0
    p.1 (rw c.count.ensures at c.in_err-put_short.ensures.put))

-- the count is put, so what becomes of the columns becomes of the row
pub returns-clause-put : goal.returns-clause-put
returns-clause-put g c =
    let columns = c.args.row.now.columns in
    subst (Puts _ _ _ _ c.put_columns.result) (row_later c.args.row.now.item c.args.delay columns)
    (Puts-then _ _ _ _ _ _ (to_be_bytes w16 (length columns)) (later_bytes c.args.delay columns) c.put_columns.result
    (rw c.count.ensures at c.in_ok-put_short.ensures.put) c.put_columns.ensures.put)
