-- Proof of `put_part`, which puts a part: its line, and the lines of its columns.
use Rattle.std.proofs.Common.{string_bytes}
use Rattle.std.proofs.lemmas.Result.{err_from_is_err_and}
use Rattle.cpg_codec.proofs.Puts.{Puts-then, Puts-first}
use Rattle.cpg_label.specs.CubeText.{columns_text}
use Rattle.cpg_show.specs.Sheet.{columns_of_source}
use Rattle.cpg_show.proofs.sheet.put_part.Goals as goal

-- the sink took only a proper prefix of the line, with which the part begins
pub returns-in_err-put_text-clause-put : goal.returns-in_err-put_text-clause-put
returns-in_err-put_text-clause-put g c =
    let failed = err_from_is_err_and c.from_residual.result c.from_residual.ensures.1 in
    Puts-first _ _ _ _ (string_bytes c.args.part.now.head)
    (columns_text c.args.labels.now (columns_of_source c.args.part.now.columns))
    c.from_residual.result failed.0 failed.1
    (rw c.as_str.ensures.value at c.in_err-put_text.ensures.put)

-- the line is put, so what becomes of the columns becomes of the part
pub returns-clause-put : goal.returns-clause-put
returns-clause-put g c = Puts-then _ _ _ _ _ _ (string_bytes c.args.part.now.head)
    (columns_text c.args.labels.now (columns_of_source c.args.part.now.columns)) c.put_source.result
    (rw c.as_str.ensures.value at c.in_ok-put_text.ensures.put) c.put_source.ensures.put
