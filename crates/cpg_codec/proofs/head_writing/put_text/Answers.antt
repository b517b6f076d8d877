-- Proof of `put_text`: the bytes of a name, after how many there are.
use Rattle.std.proofs.Common.{length}
use Rattle.std.proofs.lemmas.Result.{err_from_is_err_and}
use Rattle.cpg_codec.specs.Spelling.{byte}
use Rattle.cpg_codec.proofs.Puts.{Puts-then, Puts-first}
use Rattle.cpg_codec.proofs.head_writing.put_text.Goals as goal

-- the length failed: the sink took a proper prefix of the held bytes and the length, and so one of the held bytes and
-- the name
pub returns-in_err-put-clause-put : goal.returns-in_err-put-clause-put
returns-in_err-put-clause-put g c =
    let failure = err_from_is_err_and c.from_residual.result c.from_residual.ensures.1 in
    Puts-first _ _ _ _ (byte (length c.args.text.now))
    (c.args.text.now) c.from_residual.result failure.0 failure.1 c.in_err-put.ensures.put

-- the byte of the length is put first, and then the text
pub returns-clause-put : goal.returns-clause-put
returns-clause-put g c = Puts-then _ _ _ _ _ _ (byte (length c.args.text.now))
    (c.args.text.now) c.put-2.result c.in_ok-put.ensures.put c.put-2.ensures.put
