-- Proof of `put_timed`, which puts the line of a column without its end: its time, and the text of its literals.
use Rattle.std.proofs.Common.{◌++◌, codes, decimal}
use Rattle.std.proofs.lemmas.Result.{err_from_is_err_and}
use Rattle.cpg_codec.proofs.Puts.{Puts-then, Puts-first}
use Rattle.cpg_show.proofs.putting.put_timed.Goals as goal

-- the sink took only a proper prefix of the time with its colon, with which the line begins
pub returns-in_err-put_time-clause-put : goal.returns-in_err-put_time-clause-put
returns-in_err-put_time-clause-put g c =
    let failed = err_from_is_err_and c.from_residual.result c.from_residual.ensures.1 in
    Puts-first _ _ _ _ (codes "  " ++ decimal c.args.time ++ codes ": ")
    (c.args.text.now) c.from_residual.result failed.0 failed.1 c.in_err-put_time.ensures.put

-- the time with its colon is put, so the whole is put as far as the text is
pub returns-clause-put : goal.returns-clause-put
returns-clause-put g c = Puts-then _ _ _ _ _ _ (codes "  " ++ decimal c.args.time ++ codes ": ")
    (c.args.text.now) c.put_any.result c.in_ok-put_time.ensures.put c.put_any.ensures.put
