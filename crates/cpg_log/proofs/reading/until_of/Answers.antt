-- Proof of `until_of`: the time up to which a log goes by its first line, or `None` if the line doesn't say one.
use Rattle.cpg_log.proofs.ReadingLaws.{until_parts}
use Rattle.cpg_log.proofs.reading.until_of.Goals as goal

-- a line that says a time would have `until` before its first blank, and this one hasn't
pub returns-then-not-are_same-clause-none : goal.returns-then-not-are_same-clause-none
returns-then-not-are_same-clause-none c = λ until early e. c.if-not-are_same.ensures.no
    (until_parts c.args.line.now c.in-Some.word.now c.in-Some.digits.now until c.in-Some.ensures.some e).0
