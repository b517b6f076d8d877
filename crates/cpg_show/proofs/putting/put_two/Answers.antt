-- Proof of `put_two`, which puts two texts, one after the other.
use Rattle.std.proofs.lemmas.Result.{err_from_is_err_and}
use Rattle.cpg_codec.proofs.Puts.{Puts-then, Puts-first}
use Rattle.cpg_show.proofs.putting.put_two.Goals as goal

-- the sink took only a proper prefix of the first text, with which both begin
pub returns-in_err-put_text-clause-put : goal.returns-in_err-put_text-clause-put
returns-in_err-put_text-clause-put g c =
    let failed = err_from_is_err_and c.from_residual.result c.from_residual.ensures.1 in
    Puts-first _ _ _ _ (c.args.first.now)
    (c.args.second.now) c.from_residual.result failed.0 failed.1 c.in_err-put_text.ensures.put

-- the first text is put, so both are put as far as the second is
pub returns-clause-put : goal.returns-clause-put
returns-clause-put g c = Puts-then _ _ _ _ _ _ (c.args.first.now)
    (c.args.second.now) c.put_text-2.result c.in_ok-put_text.ensures.put c.put_text-2.ensures.put
