-- Proof of `place_number`: puts a number, which has at most 20 digits.
use Rattle.std.proofs.Common.{arith}
use Rattle.cpg_label.proofs.Digits.{at_most_twenty, one_written}
use Rattle.cpg_label.proofs.placing.place_number.Goals as goal

-- a number below 10 is written as its one digit
pub returns-then-number-lt10-clause-bytes : goal.returns-then-number-lt10-clause-bytes
returns-then-number-lt10-clause-bytes c =
    one_written c.args.number _ _ _ c.if-number-lt10.true c.place_byte.ensures.bytes (omega arith)

-- a number of 64 bits has at most twenty digits, and there is room for as many
pub place_decimal-requires : goal.place_decimal-requires
place_decimal-requires c = omega (arith, c.requires, at_most_twenty c.args.number (omega (arith, c.ranges.number.fits)))

-- a number of 64 bits has at most twenty digits
pub returns-clause-few : goal.returns-clause-few
returns-clause-few c =
    omega (arith, c.place_decimal.ensures.end, at_most_twenty c.args.number (omega (arith, c.ranges.number.fits)))
