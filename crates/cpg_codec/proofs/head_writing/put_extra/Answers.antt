-- Proof of `put_extra`: what version 2 adds to a process, if it adds anything.
use Rattle.std.specs.Int.{w64, to_be_bytes}
use Rattle.std.proofs.lemmas.Result.{err_from_is_err_and}
use Rattle.cpg_codec.specs.Spelling.{deadline_number}
use Rattle.cpg_codec.proofs.Puts.{Puts-then, Puts-first}
use Rattle.cpg_codec.proofs.head_writing.put_extra.Goals as goal

-- the release failed: the sink took a proper prefix of the held bytes and the release, and so one of the held bytes and
-- both numbers
pub returns-in_err-put_long-clause-put : goal.returns-in_err-put_long-clause-put
returns-in_err-put_long-clause-put g c =
    let failure = err_from_is_err_and c.from_residual.result c.from_residual.ensures.1 in
    rw c.in-Some.is (Puts-first _ _ _ _ (to_be_bytes w64 c.in-Some.extra.release) (to_be_bytes w64
    (deadline_number c.in-Some.extra.deadline)) c.from_residual.result failure.0 failure.1
    c.in_err-put_long.ensures.put)

-- the release and the deadline are put one after another
pub returns-clause-put : goal.returns-clause-put
returns-clause-put g c =
    rw c.in-Some.is (Puts-then _ _ _ _ _ _ (to_be_bytes w64 c.in-Some.extra.release)
    (to_be_bytes w64 (deadline_number c.in-Some.extra.deadline)) c.put_long-2.result c.in_ok-put_long.ensures.put
    (rw c.deadline_number.ensures at c.put_long-2.ensures.put))
