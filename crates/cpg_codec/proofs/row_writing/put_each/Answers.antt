-- Proof of `put_each`, which puts literals, one after another.
use Rattle.std.proofs.Common.{◌∙◌}
use Rattle.std.proofs.lemmas.Result.{err_from_is_err_and}
use Rattle.cpg_codec.specs.Spelling.{literal_bytes}
use Rattle.cpg_codec.proofs.Puts.{puts_more, puts_fail, Puts-failed}
use Rattle.cpg_codec.proofs.row_writing.put_each.Goals as goal

-- the bytes so far are put, and so are those of this literal; neither met a fault
pub loop-literal-preserved : goal.loop-literal-preserved
loop-literal-preserved g c = record {
  put = puts_more literal_bytes _ _ _ _ _ _ (c.args.literals.now) (c.loop-literal.literal-index)
      (record { variable = 0; low = 0; high = 0 }) c.loop-literal-test.true c.loop-literal.invariant.put
      c.in_ok-put.ensures.put;
  kept = c.in_ok-put.ensures.cause.kept ∙ c.loop-literal.invariant.kept;
}

-- this literal failed: the literals before it are put, and the sink took a proper prefix of the bytes still held and
-- this literal; in all that is a proper prefix of the bytes held first and all literals
pub returns-in_err-put-clause-put : goal.returns-in_err-put-clause-put
returns-in_err-put-clause-put g c =
    let failure = err_from_is_err_and c.from_residual.result c.from_residual.ensures.1 in
    Puts-failed _ _ _ _ _ c.from_residual.result failure.0 failure.1
    (puts_fail literal_bytes _ _ _ _ _ (c.args.literals.now) (c.loop-literal.literal-index)
    (record { variable = 0; low = 0; high = 0 }) c.loop-literal-test.true c.loop-literal.invariant.put
    c.in_err-put.ensures.put)
