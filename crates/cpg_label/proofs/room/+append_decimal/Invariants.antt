-- Recursion of `append_decimal`: appends a number.
use Rattle.cpg_label.proofs.room.+append_decimal.Given as goal

-- each call gets the number without its last digit
abbrev pub decreases-append_decimal : goal.decreases-append_decimal
decreases-append_decimal l = l.number
