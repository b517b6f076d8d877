-- Proof of `write_through`, which writes the head and the rows of each node through an empty buffer.
use Rattle.cpg_packing.specs.PackBytes.{pack_bytes}
use Rattle.cpg_codec.proofs.Puts.{rest_fails}
use Rattle.cpg_packing.proofs.packing.write_through.Goals as goal

-- all is put, and of what the buffer held at the end only a proper prefix was taken: so a proper prefix of all
pub returns-clause-part : goal.returns-clause-part
returns-clause-part g c = rest_fails _ _ _ c.args.buffer.now _ (pack_bytes c.args.problem.now c.args.rows.now)
    c.write.result c.requires.empty c.in_ok-put_all.ensures.put c.write.ensures.part
