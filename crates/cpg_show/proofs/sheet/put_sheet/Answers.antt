-- Proof of `put_sheet`, which puts a sheet: its front and its parts.
use Rattle.std.proofs.Common.{flat_map, string_bytes}
use Rattle.std.proofs.lemmas.Result.{err_from_is_err_and}
use Rattle.cpg_codec.proofs.Puts.{Puts-then, Puts-first}
use Rattle.cpg_show.specs.Sheet.{part_text}
use Rattle.cpg_show.proofs.sheet.put_sheet.Goals as goal

-- the sink took only a proper prefix of the front, with which the sheet begins
pub returns-in_err-put_text-clause-put : goal.returns-in_err-put_text-clause-put
returns-in_err-put_text-clause-put g c =
    let failed = err_from_is_err_and c.from_residual.result c.from_residual.ensures.1 in
    Puts-first _ _ _ _ (string_bytes c.args.sheet.now.front)
    (flat_map (part_text c.args.sheet.now.labels) c.args.sheet.now.parts.items) c.from_residual.result failed.0 failed.1
    (rw c.as_str.ensures.value at c.in_err-put_text.ensures.put)

-- the front is put, so what becomes of the parts becomes of the sheet
pub returns-clause-put : goal.returns-clause-put
returns-clause-put g c = Puts-then _ _ _ _ _ _ (string_bytes c.args.sheet.now.front)
    (flat_map (part_text c.args.sheet.now.labels) c.args.sheet.now.parts.items) c.put_sheet_parts.result
    (rw c.as_str.ensures.value at c.in_ok-put_text.ensures.put) (rw c.as_slice.ensures.value at c.put_sheet_parts.ensures.put)
