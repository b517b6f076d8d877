-- Proof of `small_of`: a byte from low to high, and the bytes after it.
use Rattle.std.proofs.Common.{arith}
use Rattle.cpg_codec.proofs.Steps.{small_gives, small_under, small_over, small_none}
use Rattle.cpg_codec.proofs.field_reading.small_of.Goals as goal

-- a byte below the range fails at its place
pub returns-then-byte-low-clause-gives : goal.returns-then-byte-low-clause-gives
returns-then-byte-low-clause-gives c =
    small_under c.args.low c.args.high c.args.bytes.now c.in-len1-up.len_at_least c.if-byte-low.true

-- a byte above the range fails at its place
pub returns-then-high-byte-clause-gives : goal.returns-then-high-byte-clause-gives
returns-then-high-byte-clause-gives c =
    small_over c.args.low c.args.high c.args.bytes.now c.in-len1-up.len_at_least c.if-high-byte.true

-- without a byte the reader fails, and nothing is left
pub returns-in-empty-clause-gives : goal.returns-in-empty-clause-gives
returns-in-empty-clause-gives c = small_none c.args.low c.args.high c.args.bytes.now c.in-empty.len_below

-- a byte in the range is given, with the bytes after it
pub returns-else-high-byte-clause-gives : goal.returns-else-high-byte-clause-gives
returns-else-high-byte-clause-gives c = small_gives c.args.low c.args.high c.args.bytes.now c.in-len1-up.len_at_least
    (omega (arith, c.type_inv.bytes 0)) c.if-byte-low.false c.if-high-byte.false
