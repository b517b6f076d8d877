-- Proof of `put_edges`: edges, one after another.
use Rattle.std.proofs.Common.{◌∙◌}
use Rattle.std.proofs.lemmas.Result.{err_from_is_err_and}
use Rattle.cpg_codec.specs.Spelling.{edge_bytes}
use Rattle.cpg_codec.proofs.Puts.{puts_more, puts_fail, Puts-failed}
use Rattle.cpg_codec.proofs.head_writing.put_edges.Goals as goal

-- the bytes so far are put, and so are those of this edge; neither met a fault
pub loop-from-preserved : goal.loop-from-preserved
loop-from-preserved g c = record {
  put = puts_more edge_bytes _ _ _ _ _ _ (c.args.edges.now) (c.loop-from.from-index)
      ((0, 0)) c.loop-from-test.true c.loop-from.invariant.put c.in_ok-put.ensures.put;
  kept = c.in_ok-put.ensures.cause.kept ∙ c.loop-from.invariant.kept;
}

-- this edge failed: the edges before it are put, and the sink took a proper prefix of the bytes still held and this
-- edge; in all that is a proper prefix of the bytes held first and all edges
pub returns-in_err-put-clause-put : goal.returns-in_err-put-clause-put
returns-in_err-put-clause-put g c =
    let failure = err_from_is_err_and c.from_residual.result c.from_residual.ensures.1 in
    Puts-failed _ _ _ _ _ c.from_residual.result failure.0 failure.1
    (puts_fail edge_bytes _ _ _ _ _ (c.args.edges.now) (c.loop-from.from-index)
    ((0, 0)) c.loop-from-test.true c.loop-from.invariant.put c.in_err-put.ensures.put)
