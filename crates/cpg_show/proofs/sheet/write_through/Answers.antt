-- Proof of `write_through`, which writes a sheet through an empty buffer.
use Rattle.cpg_codec.proofs.Puts.{rest_fails}
use Rattle.cpg_show.specs.Sheet.{sheet_text}
use Rattle.cpg_show.proofs.sheet.write_through.Goals as goal

-- all is put, and of what the buffer held at the end only a proper prefix was taken: so a proper prefix of all
pub returns-clause-part : goal.returns-clause-part
returns-clause-part g c = rest_fails _ _ _ c.args.buffer.now _
    (sheet_text c.args.sheet.now) c.write.result c.requires.empty c.in_ok-put_sheet.ensures.put c.write.ensures.part
