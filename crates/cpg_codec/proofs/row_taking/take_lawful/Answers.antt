-- Proof of `take_lawful`, which returns the row of an item that `bytes` begin with, how many columns were read up to
-- its end, and the bytes after it.
use Rattle.std.proofs.Common.{arith}
use Rattle.cpg_codec.proofs.Taking.{row_taken}
use Rattle.cpg_codec.proofs.row_taking.take_lawful.Goals as goal

-- the bytes begin with the spelling of this lawful row, so the grammar reads just it
pub returns-clause-taken : goal.returns-clause-taken
returns-clause-taken c =
    row_taken c.args.space.now c.args.item c.args.columns_read c.in_ok-row.row c.args.bytes.now c.in_ok-row.rest.now
    c.requires.space c.requires.few c.in_ok-row.ensures.item
    (record { few = omega (arith, c.in_ok-row.ensures.few); columns = c.in_ok-row.ensures.lawful })
    (omega (arith, c.in_ok-row.ensures.few, c.requires.few))
    c.in_ok-row.ensures.taken
