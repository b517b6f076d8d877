-- Proof of `Buffer::put_any`, which adds a piece of any length.
use Rattle.cpg_codec.proofs.Puts.{Puts-past}
use Rattle.cpg_codec.proofs.buffer.Buffer.put_any.Goals as goal

-- what was held is written and then the piece; the buffer is left empty
pub returns-clause-put : goal.returns-clause-put
returns-clause-put g c = Puts-past _ _ _ c.args.self.now c.write.new.self c.args.piece.now c.write_all.result
    c.in_ok-write.ensures.whole c.in_ok-write.ensures.empty c.write_all.ensures.whole
    c.write_all.ensures.part
