-- Proof of `put_sheet_parts`, which puts the parts of a sheet, one after another.
use Rattle.std.proofs.Common.{◌∙◌}
use Rattle.std.proofs.lemmas.Result.{err_from_is_err_and}
use Rattle.cpg_show.specs.Sheet.{part_text}
use Rattle.cpg_codec.proofs.Puts.{item_more, item_fails, Puts-failed}
use Rattle.cpg_show.proofs.sheet.put_sheet_parts.Goals as goal

-- the parts so far are put, and so is this one; neither met a fault
pub loop-part-preserved : goal.loop-part-preserved
loop-part-preserved g c = record {
  put = item_more (part_text c.args.labels.now) _ _ _ _ _ _ c.args.parts.now c.loop-part.part-index c.part-item.result
      c.part-item.is c.loop-part-test.true c.loop-part.invariant.put
      c.in_ok-put_part.ensures.put;
  kept = c.in_ok-put_part.ensures.cause.kept ∙ c.loop-part.invariant.kept;
  line = c.in_ok-put_part.ensures.line;
  path = c.in_ok-put_part.ensures.path;
}

-- the sink took a proper prefix of the parts before this one and of this one, and so one of all
pub returns-in_err-put_part-clause-put : goal.returns-in_err-put_part-clause-put
returns-in_err-put_part-clause-put g c =
    let failed = err_from_is_err_and c.from_residual.result c.from_residual.ensures.1 in
    Puts-failed _ _ _ _ _ c.from_residual.result failed.0 failed.1
    (item_fails (part_text c.args.labels.now) _ _ _ _ _ c.args.parts.now c.loop-part.part-index c.part-item.result
    c.part-item.is c.loop-part-test.true c.loop-part.invariant.put
    c.in_err-put_part.ensures.put)
