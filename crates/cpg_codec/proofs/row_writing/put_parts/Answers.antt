-- Proof of `put_parts`, which puts a column of this time and these literals, part by part.
use Rattle.std.proofs.Common.{◌++◌, length}
use Rattle.std.specs.List.{flat_map}
use Rattle.std.proofs.lemmas.Result.{err_from_is_err_and}
use Rattle.cpg_codec.specs.Spelling.{byte, literal_bytes}
use Rattle.std.specs.Int.{w64, to_be_bytes}
use Rattle.cpg_codec.proofs.Puts.{Puts-then, Puts-first}
use Rattle.cpg_codec.proofs.row_writing.put_parts.Goals as goal

-- the time failed: the sink took a proper prefix of the held bytes and the time, and so one of the held bytes and the
-- column
pub returns-in_err-put_long-clause-put : goal.returns-in_err-put_long-clause-put
returns-in_err-put_long-clause-put g c =
    let failure = err_from_is_err_and c.from_residual.result c.from_residual.ensures.1 in
    Puts-first _ _ _ _ (to_be_bytes w64 c.args.time)
    (byte (length c.args.literals.now) ++ flat_map literal_bytes c.args.literals.now) c.from_residual.result failure.0
    failure.1 c.in_err-put_long.ensures.put

-- the time is put first, and then the count with the literals
pub returns-clause-put : goal.returns-clause-put
returns-clause-put g c = Puts-then _ _ _ _ _ _ (to_be_bytes w64 c.args.time)
    (byte (length c.args.literals.now) ++ flat_map literal_bytes c.args.literals.now) c.put_counted.result
    c.in_ok-put_long.ensures.put c.put_counted.ensures.put
