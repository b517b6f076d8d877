-- Proof of `long_of`: a number of eight bytes from low to high.
use Rattle.std.proofs.Common.{arith, ap, ◌∙◌, get_or}
use Rattle.cpg_codec.specs.Fields.{field}
use Rattle.cpg_codec.proofs.Digits.{long_found, field_is_long}
use Rattle.cpg_codec.proofs.field_reading.long_of.Goals as goal

-- the first eight bytes spell this number (`field_is_long`), and it is in range, so it is what the grammar reads
pub returns-then-is_within : goal.returns-then-is_within
returns-then-is_within c =
    let bytes = c.args.bytes.now in
    long_found c.args.low c.args.high c.long_number-number.result c.args.bytes.now (omega arith)
    (omega arith) c.in-len8-up.len_at_least (λ i. omega (arith, c.type_inv.bytes i))
    (c.long_number-number.ensures ∙ ap (field 0 8) c.new.ensures ∙ field_is_long (get_or bytes 0 0) (get_or bytes 1 0)
    (get_or bytes 2 0) (get_or bytes 3 0) (get_or bytes 4 0) (get_or bytes 5 0)
    (get_or bytes 6 0) (get_or bytes 7 0))
    (c.is_within.ensures.0 c.if-is_within.true)
