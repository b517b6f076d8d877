-- Recursion of `greatest_common`, which returns the greatest common divisor of two numbers, by Euclid's algorithm.
use Rattle.cpg_hyper.proofs.period.+greatest_common.Given as goal

-- the next call has the remainder by `b`, which is smaller than `b`
abbrev pub decreases-greatest_common : goal.decreases-greatest_common
decreases-greatest_common l = l.b
