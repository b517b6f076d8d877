-- Proof of `put_three`, which puts three texts, one after another.
use Rattle.std.proofs.Common.{◌++◌}
use Rattle.std.proofs.lemmas.Result.{err_from_is_err_and}
use Rattle.cpg_codec.proofs.Puts.{Puts-then, Puts-first}
use Rattle.cpg_show.proofs.putting.put_three.Goals as goal

-- the sink took only a proper prefix of the first two texts, with which all three begin
pub returns-in_err-put_two-clause-put : goal.returns-in_err-put_two-clause-put
returns-in_err-put_two-clause-put g c =
    let failed = err_from_is_err_and c.from_residual.result c.from_residual.ensures.1 in
    Puts-first _ _ _ _ (c.args.first.now ++ c.args.second.now)
    (c.args.third.now) c.from_residual.result failed.0 failed.1 c.in_err-put_two.ensures.put

-- the first two texts are put, so the whole is put as far as the third is
pub returns-clause-put : goal.returns-clause-put
returns-clause-put g c = Puts-then _ _ _ _ _ _ (c.args.first.now ++ c.args.second.now)
    (c.args.third.now) c.put_text.result c.in_ok-put_two.ensures.put c.put_text.ensures.put
