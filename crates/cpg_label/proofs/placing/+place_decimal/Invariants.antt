-- Recursion of `place_decimal`: puts a number of more than one digit.
use Rattle.cpg_label.proofs.placing.+place_decimal.Given as goal

-- each call gets the number without its last digit
abbrev pub decreases-place_decimal : goal.decreases-place_decimal
decreases-place_decimal l = l.number
