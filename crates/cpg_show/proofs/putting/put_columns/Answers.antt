-- Proof of `put_columns`, which puts the lines of columns, one after another.
use Rattle.std.proofs.Common.{◌∙◌}
use Rattle.std.proofs.lemmas.Result.{err_from_is_err_and}
use Rattle.cpg_label.specs.CubeText.{column_line}
use Rattle.cpg_codec.proofs.Puts.{item_more, item_fails, Puts-failed}
use Rattle.cpg_show.proofs.putting.put_columns.Goals as goal

-- the lines so far are put, and so is that of this column; neither met a fault
pub loop-column-preserved : goal.loop-column-preserved
loop-column-preserved g c = record {
  put = item_more (column_line c.args.labels.now) _ _ _ _ _ _ c.args.columns.now c.loop-column.column-index
      c.column-item.result c.column-item.is c.loop-column-test.true c.loop-column.invariant.put
      (rw c.literals-literals.ensures.literals at c.in_ok-put_next.ensures.put);
  kept = c.in_ok-put_next.ensures.cause.kept ∙ c.loop-column.invariant.kept;
  line = c.in_ok-put_next.ensures.line;
}

-- the sink took a proper prefix of the lines before this one and of this one, and so one of all
pub returns-in_err-put_next-clause-put : goal.returns-in_err-put_next-clause-put
returns-in_err-put_next-clause-put g c =
    let failed = err_from_is_err_and c.from_residual.result c.from_residual.ensures.1 in
    Puts-failed _ _ _ _ _ c.from_residual.result failed.0 failed.1
    (item_fails (column_line c.args.labels.now) _ _ _ _ _ c.args.columns.now c.loop-column.column-index
    c.column-item.result c.column-item.is c.loop-column-test.true c.loop-column.invariant.put
    (rw c.literals-literals.ensures.literals at c.in_err-put_next.ensures.put))
