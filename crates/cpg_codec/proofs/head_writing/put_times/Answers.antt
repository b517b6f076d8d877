-- Proof of `put_times`: times, one after another.
use Rattle.std.proofs.Common.{◌∙◌}
use Rattle.std.proofs.lemmas.Result.{err_from_is_err_and}
use Rattle.std.specs.Int.{w64, to_be_bytes}
use Rattle.cpg_codec.proofs.Puts.{puts_more, puts_fail, Puts-failed}
use Rattle.cpg_codec.proofs.head_writing.put_times.Goals as goal

-- the bytes so far are put, and so are those of this time; neither met a fault
pub loop-time-preserved : goal.loop-time-preserved
loop-time-preserved g c = record {
  put = puts_more (to_be_bytes w64) _ _ _ _ _ _ (c.args.times.now) (c.loop-time.time-index)
      (0) c.loop-time-test.true c.loop-time.invariant.put c.in_ok-put_long.ensures.put;
  kept = c.in_ok-put_long.ensures.cause.kept ∙ c.loop-time.invariant.kept;
}

-- this time failed: the times before it are put, and the sink took a proper prefix of the bytes still held and this
-- time; in all that is a proper prefix of the bytes held first and all times
pub returns-in_err-put_long-clause-put : goal.returns-in_err-put_long-clause-put
returns-in_err-put_long-clause-put g c =
    let failure = err_from_is_err_and c.from_residual.result c.from_residual.ensures.1 in
    Puts-failed _ _ _ _ _ c.from_residual.result failure.0 failure.1
    (puts_fail (to_be_bytes w64) _ _ _ _ _ (c.args.times.now) (c.loop-time.time-index)
    (0) c.loop-time-test.true c.loop-time.invariant.put c.in_err-put_long.ensures.put)
