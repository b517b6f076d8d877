-- Proof of `append_number`: appends a number of 64 bits, which has at most 20 digits.
use Rattle.std.proofs.Common.{arith}
use Rattle.cpg_label.proofs.Digits.{at_most_twenty}
use Rattle.cpg_label.proofs.room.append_number.Goals as goal

-- there is room for 20 digits, and the number has no more
pub append_decimal-requires : goal.append_decimal-requires
append_decimal-requires c = omega (arith, c.requires, at_most_twenty c.args.number c.ranges.number.fits)

-- the text grows by at most 20 bytes
pub returns-clause-few : goal.returns-clause-few
returns-clause-few c = omega (arith, c.append_decimal.ensures.len, at_most_twenty c.args.number c.ranges.number.fits)
