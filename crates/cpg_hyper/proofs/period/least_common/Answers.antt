-- Proof of `least_common`, which returns the least common multiple of two numbers.
use Rattle.cpg_hyper.proofs.Multiples.{least_of}
use Rattle.cpg_hyper.proofs.period.least_common.Goals as goal

-- the product of two numbers divided by their greatest common divisor is their least common multiple
pub returns-clause-least : goal.returns-clause-least
returns-clause-least c = least_of c.args.a c.args.b c.greatest_common-common.result c.greatest_common-common.ensures
