-- Proof of `front_of`: the time of a column, and how many literals it has.
use Rattle.std.proofs.Common.{arith}
use Rattle.cpg_codec.proofs.Records.{front_found}
use Rattle.cpg_codec.proofs.row_reading.front_of.Goals as goal

-- both numbers of the nine bytes are in range, so they are what the grammar reads
pub returns-then-is_front : goal.returns-then-is_front
returns-then-is_front c =
    let within = c.is_front.ensures c.if-is_front.true in
    front_found c.args.space.now c.args.bytes.now c.new-front.result c.column_time-time.result
    c.column_literals-count.result c.requires c.in-len9-up.len_at_least
    (λ i. omega (arith, c.type_inv.bytes i)) c.new-front.ensures c.column_time-time.ensures
    c.column_literals-count.ensures within.0 within.1
