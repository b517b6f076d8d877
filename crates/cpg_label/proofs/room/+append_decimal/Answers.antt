-- Proof of `append_decimal`: appends a number.
use Rattle.std.proofs.Common.{arith}
use Rattle.cpg_label.proofs.Digits.{more_long, more_written, one_long, one_written}
use Rattle.cpg_label.proofs.room.+append_decimal.Goals as goal

-- a number below 10 has one digit, for which there is room
pub push_reserved-requires : goal.push_reserved-requires
push_reserved-requires t c = omega (arith, c.requires, one_long c.args.number c.if-number-lt10.true)

-- a number below 10 is written as its one digit
pub returns-then-number-lt10-clause-bytes : goal.returns-then-number-lt10-clause-bytes
returns-then-number-lt10-clause-bytes t c = one_written c.args.number _ c.args.out.now.items
    c.push_reserved.new.self.items c.if-number-lt10.true c.push_reserved.ensures.items
    (omega (arith, c.if-number-lt10.true))

-- the length grows by the one digit
pub returns-then-number-lt10-clause-len : goal.returns-then-number-lt10-clause-len
returns-then-number-lt10-clause-len t c =
    omega (arith, c.push_reserved.ensures.len, one_long c.args.number c.if-number-lt10.true)

-- the number without its last digit is less, and its text is one byte shorter, so there is room for it
pub append_decimal-requires : goal.append_decimal-requires
append_decimal-requires t c = (
  omega (arith, c.decreases, c.if-number-lt10.false),
  omega (arith, c.requires, more_long c.args.number c.if-number-lt10.false c.ranges.number.fits),
)

-- there is room for the last digit after the others
pub push_reserved-requires-2 : goal.push_reserved-requires-2
push_reserved-requires-2 t c = omega (
  arith,
  c.requires,
  c.append_decimal.ensures.len,
  c.append_decimal.ensures.room,
  more_long c.args.number c.if-number-lt10.false c.ranges.number.fits,
)

-- the text of a number is that of the number without its last digit, and then this digit
pub returns-clause-bytes : goal.returns-clause-bytes
returns-clause-bytes t c = more_written c.args.number _ c.args.out.now.items c.append_decimal.new.out.items
    c.push_reserved-2.new.self.items c.if-number-lt10.false c.ranges.number.fits
    c.append_decimal.ensures.bytes c.push_reserved-2.ensures.items (omega arith)

-- the length has grown by the digits
pub returns-clause-len : goal.returns-clause-len
returns-clause-len t c = omega (
  arith,
  c.append_decimal.ensures.len,
  c.push_reserved-2.ensures.len,
  more_long c.args.number c.if-number-lt10.false c.ranges.number.fits,
)
