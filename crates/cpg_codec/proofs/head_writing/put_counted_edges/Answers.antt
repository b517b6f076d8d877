-- Proof of `put_counted_edges`: how many edges there are, and these.
use Rattle.std.proofs.Common.{length}
use Rattle.std.specs.List.{flat_map}
use Rattle.std.proofs.lemmas.Result.{err_from_is_err_and}
use Rattle.cpg_codec.specs.Spelling.{edge_bytes}
use Rattle.std.specs.Int.{w16, to_be_bytes}
use Rattle.cpg_codec.proofs.Puts.{Puts-then, Puts-first}
use Rattle.cpg_codec.proofs.head_writing.put_counted_edges.Goals as goal

-- the count failed: the sink took a proper prefix of the held bytes and the count, and so one of the held bytes and the
-- counted edges
pub returns-in_err-put_short-clause-put : goal.returns-in_err-put_short-clause-put
returns-in_err-put_short-clause-put g c =
    let failure = err_from_is_err_and c.from_residual.result c.from_residual.ensures.1 in
    Puts-first _ _ _ _ (to_be_bytes w16 (length c.args.edges.now))
    (flat_map edge_bytes c.args.edges.now) c.from_residual.result failure.0 failure.1 c.in_err-put_short.ensures.put

-- the count is put first, in two bytes, and then the edges
pub returns-clause-put : goal.returns-clause-put
returns-clause-put g c = Puts-then _ _ _ _ _ _ (to_be_bytes w16 (length c.args.edges.now))
    (flat_map edge_bytes c.args.edges.now) c.put_edges.result c.in_ok-put_short.ensures.put
    c.put_edges.ensures.put
