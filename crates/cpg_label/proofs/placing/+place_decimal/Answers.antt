-- Proof of `place_decimal`: puts a number of more than one digit.
use Rattle.std.proofs.Common.{arith}
use Rattle.cpg_label.proofs.Digits.{more_long, more_written, one_long, one_written}
use Rattle.cpg_label.proofs.placing.+place_decimal.Goals as goal

-- a number below 10 has one digit, for which there is room
pub place_byte-requires : goal.place_byte-requires
place_byte-requires t c = omega (arith, c.requires, one_long c.args.number c.if-number-lt10.true)

-- a number below 10 is written as its one digit
pub returns-then-number-lt10-clause-bytes : goal.returns-then-number-lt10-clause-bytes
returns-then-number-lt10-clause-bytes t c =
    one_written c.args.number _ _ _ c.if-number-lt10.true c.place_byte.ensures.bytes (omega arith)

-- the end moves by the one digit
pub returns-then-number-lt10-clause-end : goal.returns-then-number-lt10-clause-end
returns-then-number-lt10-clause-end t c =
    omega (arith, c.place_byte.ensures.end, one_long c.args.number c.if-number-lt10.true)

-- the number without its last digit is less, and its text needs one byte less of the room
pub place_decimal-end-requires : goal.place_decimal-end-requires
place_decimal-end-requires t c = (
  omega (arith, c.decreases, c.if-number-lt10.false),
  omega (arith, c.requires, more_long c.args.number c.if-number-lt10.false (omega (arith, c.ranges.number.fits))),
)

-- there is room for the last digit after the others
pub place_byte-requires-2 : goal.place_byte-requires-2
place_byte-requires-2 t c = omega (
  arith,
  c.requires,
  c.place_decimal-end.ensures.end,
  c.place_decimal-end.ensures.len,
  more_long c.args.number c.if-number-lt10.false (omega (arith, c.ranges.number.fits)),
)

-- the text of a number is that of the number without its last digit, and then this digit
pub returns-clause-bytes : goal.returns-clause-bytes
returns-clause-bytes t c = more_written c.args.number _ _ _ _ c.if-number-lt10.false
    (omega (arith, c.ranges.number.fits)) c.place_decimal-end.ensures.bytes c.place_byte-2.ensures.bytes (omega arith)

-- the end is after the last digit
pub returns-clause-end : goal.returns-clause-end
returns-clause-end t c = omega (
  arith,
  c.place_decimal-end.ensures.end,
  c.place_byte-2.ensures.end,
  more_long c.args.number c.if-number-lt10.false (omega (arith, c.ranges.number.fits)),
)
