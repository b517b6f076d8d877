-- Proof of `put_parts`, which puts the line of a column, its time and the text of its literals, part by part.
use Rattle.std.proofs.Common.{◌++◌, codes, decimal}
use Rattle.std.proofs.lemmas.Result.{err_from_is_err_and}
use Rattle.cpg_codec.proofs.Puts.{Puts-then, Puts-first}
use Rattle.cpg_show.proofs.putting.put_parts.Goals as goal

-- the sink took only a proper prefix of the line without its end, with which the line begins
pub returns-in_err-put_timed-clause-put : goal.returns-in_err-put_timed-clause-put
returns-in_err-put_timed-clause-put g c =
    let failed = err_from_is_err_and c.from_residual.result c.from_residual.ensures.1 in
    Puts-first _ _ _ _ (codes "  " ++ decimal c.args.time ++ codes ": " ++ c.args.text.now)
    (codes "\n") c.from_residual.result failed.0 failed.1 c.in_err-put_timed.ensures.put

-- the line without its end is put, so the line is put as far as its end is
pub returns-clause-put : goal.returns-clause-put
returns-clause-put g c = Puts-then _ _ _ _ _ _ (codes "  " ++ decimal c.args.time ++ codes ": " ++ c.args.text.now)
    (codes "\n") c.put_text.result c.in_ok-put_timed.ensures.put
    c.put_text.ensures.put
