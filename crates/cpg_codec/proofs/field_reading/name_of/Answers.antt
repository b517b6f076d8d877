-- Proof of `name_of`: a name.
use Rattle.cpg_codec.proofs.HeadFields.{name_reads}
use Rattle.cpg_codec.proofs.field_reading.name_of.Goals as goal

-- letters that the grammar reads as a name are a well-formed name
pub named-requires : goal.named-requires
named-requires c = rw c.as_slice.ensures.value
    (name_reads.takes c.args.bytes.now c.in_ok-text.text.items c.in_ok-text.rest.now c.in_ok-text.ensures).0
