-- Proof of `column_of`: a column.
use Rattle.cpg_codec.proofs.ColumnFields.{front_reads, literals_rise}
use Rattle.cpg_codec.proofs.row_reading.column_of.Goals as goal

-- literals that the grammar reads have rising variables
pub cube_of-requires : goal.cube_of-requires
cube_of-requires c =
    let front = ((front_reads c.args.space.now c.requires).takes c.args.bytes.now
    (c.in_ok-time.time, c.in_ok-time.count) c.in_ok-time.rest.now c.in_ok-time.ensures).0 in
    rw c.as_slice.ensures.value (literals_rise c.args.space.now c.in_ok-time.count c.in_ok-time.rest.now
    c.in_ok-literals.literals.items c.in_ok-literals.rest.now c.requires front.1
    c.in_ok-literals.ensures)
