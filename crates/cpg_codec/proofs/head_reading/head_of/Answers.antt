-- Proof of `head_of`: a head.
use Rattle.cpg_codec.proofs.HeadFields.{head_reads}
use Rattle.cpg_codec.specs.Parts.{head_of_parts}
use Rattle.cpg_codec.proofs.head_reading.head_of.Goals as goal

-- a head that the grammar reads is lawful, and the parts make just this head
pub joined-requires-clause-lawful : goal.joined-requires-clause-lawful
joined-requires-clause-lawful c = (head_reads.takes c.args.bytes.now
    (head_of_parts c.in_ok-parts.parts) c.in_ok-parts.rest.now c.in_ok-parts.ensures.gives).0
