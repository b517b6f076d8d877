-- Proof of `put_later`, which puts columns, one after another, each later by a delay.
use Rattle.std.proofs.Common.{◌∙◌}
use Rattle.std.proofs.lemmas.Result.{err_from_is_err_and}
use Rattle.cpg_codec.specs.Spelling.{column_bytes}
use Rattle.cpg_codec.proofs.Puts.{item_more, item_fails, Puts-failed}
use Rattle.cpg_cube.specs.declared.column.Column.{Column}
use Rattle.cpg_table.specs.Valid.{later_by}
use Rattle.cpg_packing.proofs.rows.put_later.Goals as goal

-- the columns so far are put, and so is this one; neither met a fault
pub loop-column-preserved : goal.loop-column-preserved
loop-column-preserved g c = record {
  put = item_more (λ (x : Column). column_bytes (later_by c.args.delay x)) _ _ _ _ _ _ c.args.columns.now
      c.loop-column.column-index c.column-item.result c.column-item.is c.loop-column-test.true
      c.loop-column.invariant.put (rw c.literals.ensures.literals at c.in_ok-put_column.ensures.put);
  kept = c.in_ok-put_column.ensures.cause.kept ∙ c.loop-column.invariant.kept;
}

-- the sink took a proper prefix of the columns before this one and of this one, and so one of all
pub returns-in_err-put_column-clause-put : goal.returns-in_err-put_column-clause-put
returns-in_err-put_column-clause-put g c =
    let p = err_from_is_err_and c.from_residual.result c.from_residual.ensures.1 in
    Puts-failed _ _ _ _ _ c.from_residual.result p.0 p.1
    (item_fails (λ (x : Column). column_bytes (later_by c.args.delay x)) _ _ _ _ _ c.args.columns.now
    c.loop-column.column-index c.column-item.result c.column-item.is c.loop-column-test.true
    c.loop-column.invariant.put (rw c.literals.ensures.literals at c.in_err-put_column.ensures.put))
