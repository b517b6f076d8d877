-- Proof of `put_names`: names, one after another.
use Rattle.std.proofs.Common.{◌∙◌}
use Rattle.std.proofs.lemmas.Result.{err_from_is_err_and}
use Rattle.cpg_codec.specs.Spelling.{name_bytes}
use Rattle.cpg_codec.proofs.Puts.{item_more, item_fails, Puts-failed}
use Rattle.cpg_codec.proofs.head_writing.put_names.Goals as goal

-- the bytes so far are put, and so are those of this name; neither met a fault
pub loop-name-preserved : goal.loop-name-preserved
loop-name-preserved g c = record {
  put = item_more name_bytes _ _ _ _ _ _ c.args.names.now c.loop-name.name-index c.name-item.result c.name-item.is
      c.loop-name-test.true c.loop-name.invariant.put c.in_ok-put_name.ensures.put;
  kept = c.in_ok-put_name.ensures.cause.kept ∙ c.loop-name.invariant.kept;
}

-- this name failed: the names before it are put, and the sink took a proper prefix of the bytes still held and this
-- name; in all that is a proper prefix of the bytes held first and all names
pub returns-in_err-put_name-clause-put : goal.returns-in_err-put_name-clause-put
returns-in_err-put_name-clause-put g c =
    let failure = err_from_is_err_and c.from_residual.result c.from_residual.ensures.1 in
    Puts-failed _ _ _ _ _ c.from_residual.result failure.0 failure.1
    (item_fails name_bytes _ _ _ _ _ c.args.names.now c.loop-name.name-index c.name-item.result c.name-item.is
    c.loop-name-test.true c.loop-name.invariant.put c.in_err-put_name.ensures.put)
