-- Proof of `literal_of`: a literal with `left` more after it.
use Rattle.cpg_codec.proofs.Records.{literal_found}
use Rattle.cpg_codec.proofs.row_reading.literal_of.Goals as goal

-- the literal of the three bytes may stand here, so it is what the grammar reads
pub returns-then-is_next : goal.returns-then-is_next
returns-then-is_next c =
    let within = c.is_next.ensures c.if-is_next.true in
    literal_found c.args.space.now c.args.left c.args.least c.args.bytes.now c.new-fields.result
    c.literal_variable.result c.literal_low.result c.literal_high.result c.requires
    c.in-len3-up.len_at_least c.new-fields.ensures c.literal_variable.ensures c.literal_low.ensures
    c.literal_high.ensures within.0 within.1 within.2 within.3
