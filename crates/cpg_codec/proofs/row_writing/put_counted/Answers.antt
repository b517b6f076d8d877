-- Proof of `put_counted`, which puts how many literals a column has, and these.
use Rattle.std.proofs.Common.{length}
use Rattle.std.specs.List.{flat_map}
use Rattle.std.proofs.lemmas.Result.{err_from_is_err_and}
use Rattle.cpg_codec.specs.Spelling.{byte, literal_bytes}
use Rattle.cpg_codec.proofs.Puts.{Puts-then, Puts-first}
use Rattle.cpg_codec.proofs.row_writing.put_counted.Goals as goal

-- the count failed: the sink took a proper prefix of the held bytes and the count, and so one of the held bytes and the
-- counted literals
pub returns-in_err-put-clause-put : goal.returns-in_err-put-clause-put
returns-in_err-put-clause-put g c =
    let failure = err_from_is_err_and c.from_residual.result c.from_residual.ensures.1 in
    Puts-first _ _ _ _ (byte (length c.args.literals.now))
    (flat_map literal_bytes c.args.literals.now) c.from_residual.result failure.0 failure.1 c.in_err-put.ensures.put

-- the byte of the count is put first, and then the literals
pub returns-clause-put : goal.returns-clause-put
returns-clause-put g c = Puts-then _ _ _ _ _ _ (byte (length c.args.literals.now))
    (flat_map literal_bytes c.args.literals.now) c.put_each.result c.in_ok-put.ensures.put c.put_each.ensures.put
